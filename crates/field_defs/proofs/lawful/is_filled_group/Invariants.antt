use Rattle.field_defs.proofs.Groups.{Counted}
use Rattle.field_defs.proofs.lawful.is_filled_group.Given as goal

-- the fields of the group so far are counted
abbrev pub invariant-loop-def : goal.invariant-loop-def
invariant-loop-def l = Counted l.later l.group l.count l.bytes l.def-index
