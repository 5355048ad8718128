-- No chain so far is the one that is meant.
use Rattle.std.proofs.Common.{◌≡◌, drop}
use Rattle.std.specs.List.{position_from}
use Rattle.nft_reader.specs.Chains.{is_meant, place_of}
use Rattle.nft_reader.proofs.chain.place_of.Given as goal

-- the place is that of the first one from here on
abbrev pub invariant-loop-place : goal.invariant-loop-place
invariant-loop-place l =
    place_of l.led (record l.owner { name = l.name }) l.chains
    ≡ position_from (is_meant l.led (record l.owner { name = l.name })) l.place (drop l.place l.chains)
