-- the levels of the tries so far
use Rattle.std.proofs.Common.{◌≡◌, ◌*◌, ◌≤◌, sum, map, take}
use Rattle.table_sizes.specs.Groups.{max_key_len}
use Rattle.flat_table.specs.Groups.{depth_of}
use Rattle.flat_table.proofs.sound.sum_of_depths.Given as goal

abbrev pub invariant-loop-kept : goal.invariant-loop-kept
invariant-loop-kept l =
    (l.depths ≡ sum (map (depth_of l.key_len) (take l.kept-index l.kept))) × (l.depths ≤ l.kept-index * max_key_len)
