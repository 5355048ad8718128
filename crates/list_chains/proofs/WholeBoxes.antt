-- The box of all keys has a lawful span for each field.
use Rattle.std.proofs.Common.{◌≡◌, ◌*◌, ◌^◌, ◌<◌, List, [], ◌∷◌, true, arith}
use Rattle.std.specs.List.{AllZip, list_all}
use Rattle.std.proofs.lemmas.Bool.{and_parts}
use Rattle.std.proofs.lemmas.Nat.{pow_pos}
use Rattle.list_lemmas.proofs.Powers.{bytes_as_bits}
use Rattle.field_defs.specs.FieldBounds.{is_size}
use Rattle.field_defs.specs.declared.field.FieldDef.{FieldDef}
use Rattle.list_chains.specs.Spans.{IsFieldSpan, whole_box}

-- where each field has a size that a field may have
pub whole_fits : (layout : List FieldDef) → list_all (λ (def : FieldDef). is_size def.size) layout ≡ true →
    AllZip IsFieldSpan layout (whole_box layout)
whole_fits [] sized = tt
whole_fits (def ∷ defs) sized =
    let parts = and_parts (is_size def.size) (list_all (λ (def : FieldDef). is_size def.size) defs) sized in
    let some : 0 < 2 ^ (8 * def.size) = pow_pos (8 * def.size) in
    let same : 2 ^ (8 * def.size) ≡ 256 ^ def.size = bytes_as_bits def.size in
    (record { size = parts.0; filled = omega arith; within = omega (arith, some, same) }, whole_fits defs parts.1)
