use Rattle.std.proofs.Common.{◌≡◌, take, sum}
use Rattle.table_image.proofs.tries.sum_of.Given as goal

-- the words of the levels so far
abbrev pub invariant-loop-len : goal.invariant-loop-len
invariant-loop-len l = l.words ≡ sum (take l.len-index l.lens)
