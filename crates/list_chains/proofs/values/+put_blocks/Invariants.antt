-- Each half has one free bit less.
use Rattle.list_chains.proofs.values.+put_blocks.Given as goal

-- the free bits
abbrev pub decreases-put_blocks : goal.decreases-put_blocks
decreases-put_blocks l = l.free
