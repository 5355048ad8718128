-- the verdicts of the first keys are written, and their transitions counted
use Rattle.std.proofs.Common.{◌≡◌, ◌<◌, ◌≤◌, ℕ, ◌*◌, ◌-◌, take, length, All}
use Rattle.table_sizes.specs.Groups.{max_key_len}
use Rattle.table_sizes.specs.Sizes.{max_tries}
use Rattle.acl_c.specs.Keys.{packed, each_verdicts, each_transitions}
use Rattle.list_lemmas.proofs.Positions.{WrittenTo}
use Rattle.acl_c.proofs.keys.walk_apart.Given as goal

abbrev pub invariant-loop-done : goal.invariant-loop-done
invariant-loop-done l = record {
  written : WrittenTo l.fn.verdicts (l.done * l.count) (each_verdicts l.table l.asked.cats.count (take l.done l.keys))
      l.verdicts;
  taken : l.taken ≡ each_transitions l.table (take l.done l.keys);
  bound : l.taken ≤ l.done * (max_tries * max_key_len);
  within : l.done ≤ length l.keys;
  bytes : All (λ (byte : ℕ). byte < 256) (packed (take l.done l.keys));
  lanes : length l.lanes ≡ length l.fn.lanes;
}

abbrev pub decreases-loop-done : goal.decreases-loop-done
decreases-loop-done l = length l.keys - l.done
