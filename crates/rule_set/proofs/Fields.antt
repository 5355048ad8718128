-- A rule's values against a key, field by field.
use Rattle.std.proofs.Common.{◌≡◌, ℕ, zero, suc, ◌+◌, ◌<◌, ◌≤◌, List, [], ◌∷◌, length, get_or, take, drop, true, ◌&&◌}
use Rattle.std.proofs.Common.{sym, ap, ◌∙◌, arith}
use Rattle.std.proofs.lemmas.List.{drop_more, drop_all}
use Rattle.byte_numbers.specs.Number.{number_of}
use Rattle.field_defs.specs.declared.field.FieldDef.{FieldDef}
use Rattle.field_defs.specs.declared.field.FieldValue.{FieldValue}
use Rattle.field_defs.specs.FieldMatch.{field_match}
use Rattle.field_defs.specs.FieldBounds.{CanMatch}
use Rattle.rule_set.specs.ValuesMatch.{CanMatchAll}
use Rattle.rule_set.specs.Winner.{rule_match}

-- a value at a place can be asked about the numbers of its field's size
can_match_at : (defs : List FieldDef) (values : List FieldValue) (i : ℕ) (d : FieldDef) (v : FieldValue) →
    CanMatchAll defs values → i < length defs → CanMatch (get_or values i v) (get_or defs i d).size
can_match_at [] values i d v can h = absurd (omega arith)
can_match_at (def ∷ defs) [] i d v can h = absurd can
can_match_at (def ∷ defs) (value ∷ values) zero d v can h = can.0
can_match_at (def ∷ defs) (value ∷ values) (suc i) d v can h = can_match_at defs values i d v can.1 (omega arith)

-- the field and the value at a place
pub can_match_pair : (defs : List FieldDef) (values : List FieldValue) (i : ℕ) (def : FieldDef) (value : FieldValue) →
    CanMatchAll defs values → i < length defs → def ≡ get_or defs i def → value ≡ get_or values i value →
    CanMatch value def.size
can_match_pair defs values i def value can h def_is value_is =
    rw (← def_is, ← value_is) at (can_match_at defs values i def value can h)

-- one more field takes its bytes off the key
pub rule_match-drop : (defs : List FieldDef) (values : List FieldValue) (key : List ℕ) (i : ℕ) (def : FieldDef)
    (value : FieldValue) → i < length defs → i < length values → def ≡ get_or defs i def →
    value ≡ get_or values i value → rule_match (drop i defs) (drop i values) key
    ≡ (field_match value def.size (number_of (take def.size key)) && rule_match (drop (i + 1) defs)
    (drop (i + 1) values) (drop def.size key))
rule_match-drop defs values key i def value h k def_is value_is =
    let more_defs : drop i defs ≡ def ∷ drop (i + 1) defs = drop_more defs i def h
    ∙ ap (λ d. d ∷ drop (i + 1) defs) (sym def_is) in
    let more_values : drop i values ≡ value ∷ drop (i + 1) values = drop_more values i value k
    ∙ ap (λ v. v ∷ drop (i + 1) values) (sym value_is) in
    ap (λ ds. rule_match ds (drop i values) key) more_defs
    ∙ ap (λ vs. rule_match (def ∷ drop (i + 1) defs) vs key) more_values

-- where no field is left, the key matches
pub rule_match-drop_all : (defs : List FieldDef) (values : List FieldValue) (key : List ℕ) (i : ℕ) → length defs ≤ i →
    length values ≤ i → rule_match (drop i defs) (drop i values) key ≡ true
rule_match-drop_all defs values key i h k =
    ap (λ ds. rule_match ds (drop i values) key) (drop_all i defs h)
    ∙ ap (λ vs. rule_match [] vs key) (drop_all i values k)
