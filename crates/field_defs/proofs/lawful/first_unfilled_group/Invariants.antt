use Rattle.std.proofs.Common.{◌≡◌}
use Rattle.field_defs.specs.Faults.{failing_number}
use Rattle.field_defs.specs.LayoutFault.{is_filled_group, group_numbers}
use Rattle.field_defs.proofs.Faultless.{failing_from}
use Rattle.field_defs.proofs.lawful.first_unfilled_group.Given as goal

-- the first that isn't filled is the first of the groups to come
abbrev pub invariant-loop-group : goal.invariant-loop-group
invariant-loop-group l = failing_number (is_filled_group l.later) group_numbers
    ≡ failing_from (is_filled_group l.later) l.group group_numbers
