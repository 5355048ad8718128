-- The fields of a group, one after the other.
use Rattle.std.proofs.Common.{◌≡◌, ◌≢◌, ℕ, ◌+◌, ◌*◌, ◌<◌, ◌≤◌, ◌==◌, List, [], ◌∷◌, ◌++◌, length, get_or, take}
use Rattle.std.proofs.Common.{filter, Bool, refl, sym, ap, ◌∙◌, arith, length-append}
use Rattle.std.specs.List.{sum_by}
use Rattle.std.proofs.lemmas.Bool.{eq-eqb, ne_eqb}
use Rattle.std.proofs.lemmas.List.{append-nil}
use Rattle.std.proofs.lemmas.List.Elements.{filter_more}
use Rattle.std.proofs.lemmas.List.Sums.{sum_by_push}
use Rattle.field_defs.specs.declared.field.FieldDef.{FieldDef}

-- the definition is of the group
abbrev pub of_group : ℕ → FieldDef → Bool
of_group group def = def.input_index == group

-- the fields of the group so far are counted, and their bytes
pub record Counted (defs : List FieldDef) (group count bytes seen : ℕ) : Type 0 where
  pub count_is : count ≡ length (filter (of_group group) (take seen defs))
  pub bytes_is : bytes ≡ sum_by (λ (def : FieldDef). def.size) (filter (of_group group) (take seen defs))
  pub few : count ≤ seen
  pub small : bytes ≤ seen * 255

-- one more definition, which is of the group
pub counted_more : (defs : List FieldDef) (group count bytes seen : ℕ) (d : FieldDef) → seen < length defs →
    (get_or defs seen d).size < 256 →
    (get_or defs seen d).input_index ≡ group → Counted defs group count bytes seen →
    Counted defs group (count + 1) (bytes + (get_or defs seen d).size) (seen + 1)
counted_more defs group count bytes seen d below byte member so_far =
    let def : FieldDef = get_or defs seen d in
    let before : List FieldDef = filter (of_group group) (take seen defs) in
    let more : filter (of_group group) (take (seen + 1) defs) ≡ before ++ def ∷ [] =
    filter_more (of_group group) defs seen d below ∙ rw (eq-eqb def.input_index group member) refl in
    record {
      count_is = ap (λ n. n + 1) so_far.count_is ∙ sym (ap length more ∙ length-append before (def ∷ []));
      bytes_is = ap (λ n. n + def.size) so_far.bytes_is
          ∙ sym (ap (sum_by (λ (d : FieldDef). d.size)) more ∙ sum_by_push (λ (d : FieldDef). d.size) before def);
      few = omega (arith, so_far.few);
      small = omega (arith, so_far.small);
    }

-- or which isn't
pub counted_other : (defs : List FieldDef) (group count bytes seen : ℕ) (d : FieldDef) → seen < length defs →
    (get_or defs seen d).input_index ≢ group → Counted defs group count bytes seen →
    Counted defs group count bytes (seen + 1)
counted_other defs group count bytes seen d below other so_far =
    let def : FieldDef = get_or defs seen d in
    let before : List FieldDef = filter (of_group group) (take seen defs) in
    let same : filter (of_group group) (take (seen + 1) defs) ≡ before =
    filter_more (of_group group) defs seen d below ∙ rw (ne_eqb def.input_index group other) (append-nil before) in
    record {
      count_is = so_far.count_is ∙ sym (ap length same);
      bytes_is = so_far.bytes_is ∙ sym (ap (sum_by (λ (d : FieldDef). d.size)) same);
      few = omega (arith, so_far.few);
      small = omega (arith, so_far.small);
    }
