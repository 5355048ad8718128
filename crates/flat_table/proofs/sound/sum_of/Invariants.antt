-- the words of the levels so far
use Rattle.std.proofs.Common.{◌≡◌, ◌*◌, ◌^◌, ◌≤◌, sum, take}
use Rattle.flat_table.proofs.sound.sum_of.Given as goal

abbrev pub invariant-loop-len : goal.invariant-loop-len
invariant-loop-len l = (l.words ≡ sum (take l.len-index l.lens)) × (l.words ≤ l.len-index * 2 ^ 32)
