-- The groups past 0 of a lawful layout, which have four bytes each.
use Rattle.std.proofs.Common.{◌≡◌, ℕ, zero, suc, ◌+◌, ◌-◌, ◌*◌, ◌==◌, ◌<◌, ◌≤◌, List, [], ◌∷◌, length, filter, true, false}
use Rattle.std.proofs.Common.{◌≢◌, ◌&&◌, ◌||◌, nat_le, nat_lt, min, ◌⊎◌, inl, inr, None, refl, sym, ap, subst, ◌∙◌, arith, if◌then◌else◌}
use Rattle.std.specs.List.{list_any, range_with_len, sum_by}
use Rattle.std.proofs.lemmas.Bool.{cases_Bool, cases_eq, eqb-true, eq-eqb, ne_eqb, le-leb, leb-true, leb-false, le-ltb}
use Rattle.std.proofs.lemmas.Bool.Decides.{nat_tests}
use Rattle.std.proofs.lemmas.List.Elements.{filter_agree}
use Rattle.std.proofs.lemmas.List.Sums.{sum_by-cons}
use Rattle.field_defs.specs.declared.field.FieldDef.{FieldDef}
use Rattle.field_defs.specs.Layout.{key_len_of, max_fields}
use Rattle.field_defs.specs.KeyGroups.{fills, group_count}
use Rattle.field_defs.specs.Laws.{LawfulLayoutsFillTheirGroups}
use Rattle.field_defs.specs.LayoutFault.{def_at, may_follow, is_filled_group, wide_size, group_numbers}
use Rattle.field_defs.specs.LayoutFault.{layout_fault, layout_faults, is_in_order}
use Rattle.field_defs.specs.declared.lawful.LayoutFault.TheVariants.{InputOrder, GroupSize}
use Rattle.field_defs.specs.Faults.{failing_number}
use Rattle.field_defs.proofs.Faultless.{none_at, passes_each, some_first, first_size}
use Rattle.field_defs.proofs.Groups.{of_group}
use Rattle.list_lemmas.proofs.Options.{no_number}
use Rattle.std.specs.Option.{option_map}

-- each definition has a group that may follow that of the one before
abbrev Follow : List FieldDef → Type 0
Follow defs = (place : ℕ) → suc place < length defs → may_follow (def_at defs place) (def_at defs (suc place)) ≡ true

-- what holds of definitions in order holds of those after the first
others_follow : (d : FieldDef) (ds : List FieldDef) → Follow (d ∷ ds) → Follow ds
others_follow d ds follow place below = follow (suc place) (omega (arith, below))

-- the last group that a field fills
abbrev end_of : FieldDef → ℕ
end_of d = if d.size == wide_size then d.input_index + 1 else d.input_index

-- the last group that the fields fill
abbrev end_group : FieldDef → List FieldDef → ℕ
end_group d [] = end_of d
end_group d (e ∷ es) = end_group e es

-- the group of a later field is that of an earlier one or comes after its last group
begins_after : (d e : FieldDef) → may_follow d e ≡ true → end_of d ≤ e.input_index
begins_after d e follows = grind (arith, nat_tests)

-- no field begins after the last group
begins_before : (d : FieldDef) (ds : List FieldDef) → Follow (d ∷ ds) → end_of d ≤ end_group d ds
begins_before d [] follow = omega arith
begins_before d (e ∷ es) follow =
    let after : end_of d ≤ e.input_index = begins_after d e (follow 0 (omega arith)) in
    let own : e.input_index ≤ end_of e = grind (arith, nat_tests) in
    omega (arith, after, own, begins_before e es (others_follow d (e ∷ es) follow))

-- the groups that fields fill one after the other are all from the first to the last
filled_step : (d e : FieldDef) (group last : ℕ) → may_follow d e ≡ true → end_of e ≤ last →
    (fills group d || (nat_le e.input_index group && nat_le group last))
    ≡ (nat_le d.input_index group && nat_le group last)
filled_step d e group last follows below = grind (arith, nat_tests)

-- fields in order fill exactly the groups from that of the first to the last that they fill
filled_is : (d : FieldDef) (ds : List FieldDef) (group : ℕ) → Follow (d ∷ ds) →
    list_any (fills group) (d ∷ ds) ≡ (nat_le d.input_index group && nat_le group (end_group d ds))
filled_is d [] group follow = grind (arith, nat_tests)
filled_is d (e ∷ es) group follow =
    let others = others_follow d (e ∷ es) follow in
    rw (filled_is e es group others)
    (filled_step d e group (end_group e es) (follow 0 (omega arith)) (begins_before e es others))

-- a field of the group is counted
member : (d : FieldDef) (ds : List FieldDef) (group : ℕ) → d.input_index ≡ group →
    filter (of_group group) (d ∷ ds) ≡ d ∷ filter (of_group group) ds
member d ds group same = rw (eq-eqb d.input_index group same) refl

-- and another isn't
other_member : (d : FieldDef) (ds : List FieldDef) (group : ℕ) → d.input_index ≢ group →
    filter (of_group group) (d ∷ ds) ≡ filter (of_group group) ds
other_member d ds group other = rw (ne_eqb d.input_index group other) refl

-- a field of an earlier group is none of the later
none_of_group : (e : FieldDef) (es : List FieldDef) (group : ℕ) → Follow (e ∷ es) → group < e.input_index →
    filter (of_group group) (e ∷ es) ≡ []
none_of_group e [] group follow below = other_member e [] group (λ same. omega (arith, same, below))
none_of_group e (d ∷ ds) group follow below =
    let own : e.input_index ≤ end_of e = grind (arith, nat_tests) in
    let after : end_of e ≤ d.input_index = begins_after e d (follow 0 (omega arith)) in
    other_member e (d ∷ ds) group (λ same. omega (arith, same, below))
    ∙ none_of_group d ds group (others_follow e (d ∷ ds) follow) (omega (arith, own, after, below))

-- how many bytes the fields of the group have
abbrev bytes_in : ℕ → List FieldDef → ℕ
bytes_in group defs = sum_by (λ (d : FieldDef). d.size) (filter (of_group group) defs)

-- with the bytes before them, the fields of the group have four bytes, or they are one field of eight
abbrev Fit : ℕ → ℕ → List FieldDef → Type 0
Fit before group defs =
    (before + bytes_in group defs ≡ 4)
    ⊎ ((before ≡ 0) × (length (filter (of_group group) defs) ≡ 1) × (bytes_in group defs ≡ 8))

-- the fields of a filled group fit
fit_from : (count bytes : ℕ) → (count == 0 || (bytes == 4 || (count == 1 && bytes == 8))) ≡ true → 0 < count →
    (0 + bytes ≡ 4) ⊎ ((zero ≡ zero) × (count ≡ 1) × (bytes ≡ 8))
fit_from count bytes filled some = elim (cases_Bool (bytes == 4)) [
  | inl four ↦ inl (omega (arith, eqb-true bytes 4 four))
  | inr other ↦ let one : count ≡ 1 = grind (arith, nat_tests) in
      let eight : bytes ≡ 8 = grind (arith, nat_tests) in
      inr (refl, one, eight)
]

-- the next group after that of a field of eight bytes is two later
next_after_wide : (d e : FieldDef) → may_follow d e ≡ true → d.size ≡ 8 → e.input_index ≡ d.input_index + 2
next_after_wide d e follows wide = grind (arith, nat_tests)

-- the next group after that of a smaller field, if it is another one, is the next number
next_after_narrow : (d e : FieldDef) → may_follow d e ≡ true → d.size ≤ 4 → e.input_index ≢ d.input_index →
    e.input_index ≡ d.input_index + 1
next_after_narrow d e follows narrow other = grind (arith, nat_tests)

-- a definition's group is at most two after that of the one before
step_at_most_2 : (d e : FieldDef) → may_follow d e ≡ true → e.input_index ≤ d.input_index + 2
step_at_most_2 d e follows = grind (arith, nat_tests)

-- the first field has group 0 and one byte, and the second has group 1
follow_first : (d e : FieldDef) → d.size ≡ 1 → d.input_index == 0 ≡ true → e.input_index == 1 ≡ true →
    may_follow d e ≡ true
follow_first d e one none next = grind (arith, nat_tests)

-- a field of at most four bytes fills its own group alone
narrow_end : (d : FieldDef) → d.size ≤ 4 → end_of d ≡ d.input_index
narrow_end d narrow = grind (arith, nat_tests)

-- a field of eight bytes fills its own group and the next one
wide_end : (d : FieldDef) → d.size ≡ 8 → end_of d ≡ d.input_index + 1
wide_end d wide = grind (arith, nat_tests)

-- a filled group is filled without a field of another group
filled_of_others : (d : FieldDef) (ds : List FieldDef) (group : ℕ) → d.input_index ≢ group →
    is_filled_group (d ∷ ds) group ≡ true → is_filled_group ds group ≡ true
filled_of_others d ds group other filled = rw (ne_eqb d.input_index group other) at filled

-- each later group is filled
abbrev Filled : ℕ → List FieldDef → Type 0
Filled after defs = (group : ℕ) → after < group → group < 256 → is_filled_group defs group ≡ true

-- with the bytes of the first group that come before, the fields have four bytes for each group to the last
abbrev ToEnd : ℕ → FieldDef → List FieldDef → Type 0
ToEnd before d ds =
    Follow (d ∷ ds) → Filled d.input_index (d ∷ ds) → Fit before d.input_index (d ∷ ds) →
    d.input_index + 2 * length ds < 256 →
    key_len_of (d ∷ ds) + before + 4 * d.input_index ≡ 4 * (end_group d ds + 1)

-- the next field is of the same group
more_of_group : (before : ℕ) (d e : FieldDef) (es : List FieldDef) → e.input_index ≡ d.input_index →
    ToEnd (before + d.size) e es → ToEnd before d (e ∷ es)
more_of_group before d e es same rest follow filled fit small =
    let here = ap (sum_by (λ (def : FieldDef). def.size)) (member d (e ∷ es) d.input_index refl)
    ∙ sum_by-cons (λ (def : FieldDef). def.size) d (filter (of_group d.input_index) (e ∷ es)) in
    let two = ap length (member d (e ∷ es) d.input_index refl ∙ ap (λ ds. d ∷ ds) (member e es d.input_index same)) in
    let fits : Fit (before + d.size) d.input_index (e ∷ es) = elim fit [
      | inl four ↦ inl (omega (arith, four, here))
      | inr (none, one, eight) ↦ absurd (omega (arith, one, two))
    ] in
    let others : Filled e.input_index (e ∷ es) = λ group after below.
    filled_of_others d (e ∷ es) group (λ own. omega (arith, own, same, after))
    (filled group (omega (arith, same, after)) below) in
    let whole = sum_by-cons (λ (def : FieldDef). def.size) d (e ∷ es) in
    let left = rest (others_follow d (e ∷ es) follow) others
    (subst (λ group. Fit (before + d.size) group (e ∷ es)) (sym same) fits) (omega (arith, small, same)) in
    omega (arith, whole, left, same)

-- or of the group after the last that is filled
next_group : (before : ℕ) (d e : FieldDef) (es : List FieldDef) → e.input_index ≢ d.input_index →
    ToEnd 0 e es → ToEnd before d (e ∷ es)
next_group before d e es other rest follow filled fit small =
    let follows = follow 0 (omega arith) in
    let own : d.input_index ≤ end_of d = grind (arith, nat_tests) in
    let after = begins_after d e follows in
    let others_follow : Follow (e ∷ es) = others_follow d (e ∷ es) follow in
    let alone : filter (of_group d.input_index) (d ∷ e ∷ es) ≡ d ∷ [] = member d (e ∷ es) d.input_index refl
    ∙ ap (λ ds. d ∷ ds) (none_of_group e es d.input_index others_follow (omega (arith, other, own, after))) in
    let here : bytes_in d.input_index (d ∷ e ∷ es) ≡ 0 + d.size = ap (sum_by (λ (def : FieldDef). def.size)) alone in
    let its_own = filled_of_others d (e ∷ es) e.input_index (λ same. other (sym same))
    (filled e.input_index (omega (arith, other, own, after)) (omega (arith, small, step_at_most_2 d e follows))) in
    let some : 0 < length (filter (of_group e.input_index) (e ∷ es)) =
    rw (member e es e.input_index refl) (omega arith) in
    let fits : Fit 0 e.input_index (e ∷ es) = fit_from _ _ its_own some in
    let others : Filled e.input_index (e ∷ es) = λ group past below. filled_of_others d (e ∷ es) group
    (λ same. omega (arith, same, own, after, past)) (filled group (omega (arith, own, after, past)) below) in
    let whole = sum_by-cons (λ (def : FieldDef). def.size) d (e ∷ es) in
    let left = rest others_follow others fits (omega (arith, small, step_at_most_2 d e follows)) in
    elim fit [
      | inl four ↦ let next = next_after_narrow d e follows (omega (arith, four, here)) other in
          omega (arith, whole, left, four, here, next)
      | inr (none, one, eight) ↦ let next = next_after_wide d e follows (omega (arith, eight, here)) in
          omega (arith, whole, left, none, eight, here, next)
    ]

-- fields in order that fit their groups have four bytes for each group to the last
bytes_to_end : (before : ℕ) (d : FieldDef) (ds : List FieldDef) → ToEnd before d ds
bytes_to_end before d [] follow filled fit small =
    let whole = sum_by-cons (λ (def : FieldDef). def.size) d [] in
    let here : bytes_in d.input_index (d ∷ []) ≡ d.size = rw (eq-eqb d.input_index d.input_index refl) (omega arith) in
    elim fit [
      | inl four ↦ let own = narrow_end d (omega (arith, four, here)) in
          omega (arith, whole, here, four, own)
      | inr (none, one, eight) ↦ let own = wide_end d (omega (arith, eight, here)) in
          omega (arith, whole, here, none, eight, own)
    ]
bytes_to_end before d (e ∷ es) follow filled fit small = elim (cases_eq e.input_index d.input_index) [
  | inl same ↦ more_of_group before d e es same (bytes_to_end (before + d.size) e es) follow filled fit small
  | inr other ↦ next_group before d e es other (bytes_to_end 0 e es) follow filled fit small
]

-- so many numbers of a range are within two ends
within : (low last first count : ℕ) → low ≤ first →
    length (filter (λ group. nat_le low group && nat_le group last) (range_with_len first count))
    ≡ min count (last + 1 - first)
within low last first zero above = omega arith
within low last first (suc count) above =
    let above_low : nat_le low first ≡ true = le-leb low first above in
    let rest = within low last (first + 1) count (omega (arith, above)) in
    elim (cases_Bool (nat_le first last)) [
      | inl yet ↦ rw (above_low, yet) (let below = leb-true first last yet in omega (arith, rest, below))
      | inr past ↦ rw (above_low, past) (let over = leb-false first last past in omega (arith, rest, over))
    ]

-- each definition of a lawful layout is in order
in_order_at : (defs : List FieldDef) (place : ℕ) → layout_fault defs ≡ None → place < length defs →
    is_in_order defs place ≡ true
unfolding layout_fault
in_order_at defs place none below =
    let orders : option_map InputOrder (failing_number (is_in_order defs) (length defs)) ≡ None =
    none_at (layout_faults defs) 4 none in
    passes_each (is_in_order defs) (length defs) place (no_number InputOrder _ orders) below

-- a definition in order follows the one before, the second one too
follows_at : (defs : List FieldDef) (place : ℕ) → (def_at defs 0).size ≡ 1 → is_in_order defs 0 ≡ true →
    is_in_order defs (suc place) ≡ true → may_follow (def_at defs place) (def_at defs (suc place)) ≡ true
follows_at defs zero one first second = follow_first (def_at defs 0) (def_at defs 1) one first second
follows_at defs (suc place) one first later =
    let past : nat_lt (suc (suc place)) 2 ≡ false = le-ltb _ _ (omega arith) in
    let before : suc (suc place) - 1 ≡ suc place = omega arith in
    rw (past, before) at later

-- a lawful layout's definitions follow one another, the second one too
all_follow : (d : FieldDef) (ds : List FieldDef) → layout_fault (d ∷ ds) ≡ None → Follow (d ∷ ds)
all_follow d ds none place below =
    follows_at (d ∷ ds) place (first_size d ds none) (in_order_at (d ∷ ds) 0 none (omega (arith, below)))
    (in_order_at (d ∷ ds) (suc place) none below)

-- and each group is filled by those after the first
all_filled : (d : FieldDef) (ds : List FieldDef) → layout_fault (d ∷ ds) ≡ None → (group : ℕ) → group < 256 →
    is_filled_group ds group ≡ true
unfolding layout_fault
all_filled d ds none group below =
    let groups : option_map GroupSize (failing_number (is_filled_group ds) group_numbers) ≡ None =
    none_at (layout_faults (d ∷ ds)) 5 none in
    passes_each (is_filled_group ds) group_numbers group (no_number GroupSize _ groups) below

-- the last group is small
end_small : (d : FieldDef) (ds : List FieldDef) → Follow (d ∷ ds) → end_group d ds ≤ d.input_index + 2 * length ds + 1
end_small d [] follow = grind (arith, nat_tests)
end_small d (e ∷ es) follow =
    let next = step_at_most_2 d e (follow 0 (omega arith)) in
    omega (arith, next, end_small e es (others_follow d (e ∷ es) follow))

-- groups without gaps are as many as the number of the last
group_count_is : (d : FieldDef) (ds : List FieldDef) → Follow (d ∷ ds) → d.input_index ≡ 0 → end_group d ds < 256 →
    group_count (d ∷ ds) ≡ end_group d ds
unfolding group_count
group_count_is d ds follow first small =
    let same = filter_agree (λ group. list_any (fills group) (d ∷ ds))
    (λ group. nat_le d.input_index group && nat_le group (end_group d ds)) (λ group. filled_is d ds group follow)
    (range_with_len 1 255) in
    let count = within d.input_index (end_group d ds) 1 255 (omega (arith, first)) in
    omega (arith, ap length same, count, small)

-- the first field has one byte, and the others four for each group to the last
key_to_end : (d : FieldDef) (ds : List FieldDef) → layout_fault (d ∷ ds) ≡ None → Follow (d ∷ ds) →
    d.input_index ≡ 0 → length (d ∷ ds) ≤ max_fields → key_len_of (d ∷ ds) ≡ 1 + 4 * end_group d ds
key_to_end d [] none follow first few =
    let one = first_size d [] none in
    let own = narrow_end d (omega (arith, one)) in
    omega (arith, sum_by-cons (λ (def : FieldDef). def.size) d [], one, own, first)
key_to_end d (e ∷ es) none follow first few =
    let second : e.input_index ≡ 1 = eqb-true e.input_index 1 (in_order_at (d ∷ e ∷ es) 1 none (omega arith)) in
    let others_follow : Follow (e ∷ es) = others_follow d (e ∷ es) follow in
    let some : 0 < length (filter (of_group e.input_index) (e ∷ es)) =
    rw (member e es e.input_index refl) (omega arith) in
    let its_own = all_filled d (e ∷ es) none e.input_index (omega (arith, second)) in
    let fits : Fit 0 e.input_index (e ∷ es) = fit_from _ _ its_own some in
    let filled : Filled e.input_index (e ∷ es) = λ group past below. all_filled d (e ∷ es) none group below in
    let left = bytes_to_end 0 e es others_follow filled fits (omega (arith, second, few)) in
    let whole = sum_by-cons (λ (def : FieldDef). def.size) d (e ∷ es) in
    omega (arith, whole, left, second, first_size d (e ∷ es) none)

-- the key of a lawful layout has one byte for the first field and four for each group after it
pub filled_groups : LawfulLayoutsFillTheirGroups
filled_groups [] lawful = absurd (omega (arith, some_first [] lawful.faultless))
filled_groups (d ∷ ds) lawful =
    let follow = all_follow d ds lawful.faultless in
    let first = in_order_at (d ∷ ds) 0 lawful.faultless (omega arith) in
    let none : d.input_index ≡ 0 = eqb-true d.input_index 0 first in
    let count = group_count_is d ds follow none (omega (arith, none, end_small d ds follow, lawful.few)) in
    omega (arith, count, key_to_end d ds lawful.faultless follow none lawful.few)
