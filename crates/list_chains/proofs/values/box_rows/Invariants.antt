-- The rows of the last fields.
use Rattle.std.proofs.Common.{◌≡◌, ◌≤◌, ◌-◌, length, drop}
use Rattle.list_chains.specs.Values as spec
use Rattle.list_chains.proofs.values.box_rows.Given as goal

-- those of the fields gone over, and no more than there may be
abbrev pub invariant-loop-gone : goal.invariant-loop-gone
invariant-loop-gone l =
    (l.rows.items ≡ spec.box_rows (drop (length l.defs - l.gone) l.defs) (drop (length l.defs - l.gone) l.spans))
    × (length l.rows.items ≤ l.most)
