-- the values so far
use Rattle.std.proofs.Common.{◌≡◌, map, length}
use Rattle.std.specs.List.{range_with_len}
use Rattle.field_defs.specs.LayoutFault.{def_at}
use Rattle.acl_c.specs.Rules.{value_of, value_at}
use Rattle.acl_c.proofs.rules.fields_from.Given as goal

abbrev pub invariant-loop-place : goal.invariant-loop-place
invariant-loop-place l = record {
  fields : l.fields.items ≡ map (λ k. value_of (def_at l.defs k).kind (value_at l.values k)) (range_with_len 0 l.place);
  len : length l.fields.items ≡ l.place;
}
