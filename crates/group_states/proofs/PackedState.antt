-- The entries that are kept of a group after some bytes of a key, and the state that they stand for.
use Rattle.std.proofs.Common.{◌≡◌, ℕ, pos, ◌+◌, ◌*◌, ◌%◌, ◌<◌, List, [], ◌∷◌, ◌++◌, length, map, get_or, Bool, true}
use Rattle.std.proofs.Common.{false, ◌==◌, ◌&&◌, true≢false, IsTrue, Option, Some, None, slice_get, refl, sym, ◌∙◌, ap}
use Rattle.std.proofs.Common.{subst, arith}
use Rattle.std.specs.Bool.{Decides}
use Rattle.std.specs.Option.{option_map, option_map_or, option_and_then}
use Rattle.std.specs.List.{AllZip, AllByRecursion, filter_map, cons_option, list_all}
use Rattle.std.specs.Str.{bytes_eq}
use Rattle.std.proofs.lemmas.List.{get_or-map, length-map}
use Rattle.std.proofs.lemmas.Bool.{and_parts, and_from, eqb-true, eq-eqb}
use Rattle.std.proofs.lemmas.Option.{slice_get-get_or, get_or_from_slice_get}
use Rattle.rule_set.specs.Fault.{rule_fault}
use Rattle.std.proofs.lemmas.Slice.Eq.{slice_eq-Decides}
use Rattle.field_defs.specs.declared.field.FieldValue.{FieldValue}
use Rattle.field_defs.specs.declared.field.FieldValue.TheVariants.{Mask}
use Rattle.field_defs.specs.FieldBounds.{CanMatch, is_range_filled}
use Rattle.field_defs.specs.Lawful.{IsLayout}
use Rattle.field_defs.specs.Layout.{key_len_of}
use Rattle.rule_set.specs.Rule.{RuleView, RuleSetView}
use Rattle.rule_set.specs.RuleSet.{IsRuleSet}
use Rattle.rule_set.specs.Lawful.{IsLawfulValue}
use Rattle.rule_set.proofs.Offered.{faultless_rules}
use Rattle.node_expand.specs.declared.edge.Edge.{Edge}
use Rattle.node_expand.specs.declared.edge.Edge.TheVariants.{Free, Low, High, Both}
use Rattle.node_expand.specs.Rest.{Rest, same_rest}
use Rattle.node_expand.specs.Edges.{edge_step, StandsBefore}
use Rattle.node_expand.proofs.Offered.{rests_compared}
use Rattle.std.proofs.lemmas.Slice.Eq.{bytes_eq-Decides}
use Rattle.group_states.proofs.Packed.{packed_edge, stepped, before_at, rest_at, AreBytes, Stands, packed_steps}
use Rattle.group_states.proofs.Packed.{packed_rests, packed_apart, packed_nothing}
use Rattle.group_states.proofs.PackedWild.{packed_wild}
use Rattle.group_states.specs.Entry.{entry_of, number_in, edge_in, edge_coded, value_in, edge_before, field_at}
use Rattle.group_states.specs.Entry.{column_at, entry_step, entries_step, CanStep}
use Rattle.group_states.specs.Kept.{is_wild_at, is_wild_place}
use Rattle.group_states.specs.RuleRest.{values_of, values_rest, rule_rest}
use Rattle.group_states.specs.State.{Held, state, same_state, is_live}

-- ---- rules of a set

-- The rule of that number is in the set, and its values are lawful.
pub record IsHeld (set : RuleSetView) (number : ℕ) : Type 0 where
  pub within : number < length set.rules
  pub lawful : AllZip IsLawfulValue set.layout (values_of set number)

-- a rule in the place of one that isn't there
no_rule : RuleView
no_rule = record { tag = record { category_mask = 0; priority = pos 0; userdata = 0 }; fields = [] }

-- a rule that a lawful set has
pub rule_there : (set : RuleSetView) (number : ℕ) → number < length set.rules
    → (rule : RuleView) × (slice_get set.rules number ≡ Some rule)
rule_there set number within = (get_or set.rules number no_rule, slice_get-get_or set.rules number no_rule within)

-- the values of a number are those of the rule that has it
pub values_there : (set : RuleSetView) (number : ℕ) (rule : RuleView) → slice_get set.rules number ≡ Some rule
    → values_of set number ≡ rule.fields
values_there set number rule there = ap (λ found. option_map_or (λ (r : RuleView). r.fields) found []) there

-- each number of a lawful set has a rule with lawful values
pub is_held : (set : RuleSetView) (number : ℕ) → IsRuleSet set → IsLayout set.layout → number < length set.rules
    → IsHeld set number
is_held set number held layout within =
    let there = rule_there set number within in
    let rule : RuleView = there.0 in
    let same : get_or set.rules number rule ≡ rule = get_or_from_slice_get set.rules number rule rule there.1 in
    let fault = subst (λ (r : RuleView). rule_fault set.layout r.tag r.fields ≡ None) same
    (held.lawful number rule within) in
    record {
      within = within;
      lawful = subst (λ values. AllZip IsLawfulValue set.layout values) (sym (values_there set number rule there.1))
          ((faultless_rules set.layout rule.tag rule.fields layout).0 fault).values;
    }

-- ---- one entry

-- the number of an entry
pub number_in-entry_of : (number : ℕ) (edge : Edge) → number_in (entry_of number edge) ≡ number
number_in-entry_of number Free = omega arith
number_in-entry_of number Low = omega arith
number_in-entry_of number High = omega arith
number_in-entry_of number Both = omega arith

-- the edge in an entry is the one that the entry was made of
pub edge_in-entry_of : (number : ℕ) (edge : Edge) → edge_in (entry_of number edge) ≡ edge
edge_in-entry_of number Free = ap edge_coded (let e : (number * 4 + 0) % 4 ≡ 0 = omega arith in e)
edge_in-entry_of number Low = ap edge_coded (let e : (number * 4 + 1) % 4 ≡ 1 = omega arith in e)
edge_in-entry_of number High = ap edge_coded (let e : (number * 4 + 2) % 4 ≡ 2 = omega arith in e)
edge_in-entry_of number Both = ap edge_coded (let e : (number * 4 + 3) % 4 ≡ 3 = omega arith in e)

-- the value that a column has of a rule
value_of_column : (set : RuleSetView) (place number : ℕ) → IsHeld set number →
    get_or (column_at set place).values number (Mask 0 0)
    ≡ get_or (values_of set number) (field_at set.layout place).field (Mask 0 0)
unfolding column_at
value_of_column set place number held =
    let there = rule_there set number held.within in
    let at : ℕ = (field_at set.layout place).field in
    get_or-map (λ (r : RuleView). get_or r.fields at (Mask 0 0)) set.rules number no_rule (Mask 0 0) held.within
    ∙ ap (λ (r : RuleView). get_or r.fields at (Mask 0 0))
    (get_or_from_slice_get set.rules number there.0 no_rule there.1)
    ∙ ap (λ values. get_or values at (Mask 0 0)) (sym (values_there set number there.0 there.1))

-- how many values a column has
pub length-column : (set : RuleSetView) (place : ℕ) → length (column_at set place).values ≡ length set.rules
unfolding column_at
length-column set place =
    length-map set.rules (λ (r : RuleView). get_or r.fields (field_at set.layout place).field (Mask 0 0))

module _ (set : RuleSetView) (place number : ℕ) (held : IsHeld set number) (edge : Edge) where
  -- the value that the column has of the rule is that of its field
  value_is : value_in (column_at set place) (entry_of number edge)
      ≡ get_or (values_of set number) (field_at set.layout place).field (Mask 0 0)
  value_is = ap (λ n. get_or (column_at set place).values n (Mask 0 0)) (number_in-entry_of number edge)
      ∙ value_of_column set place number held

  -- the column has the size of the field
  size_is : (column_at set place).size ≡ (field_at set.layout place).size
  unfolding column_at
  size_is = refl

  -- the column has the place in the field
  place_is : (column_at set place).place ≡ (field_at set.layout place).place
  unfolding column_at
  place_is = refl

  -- the column's edge before the place is the one that is kept before it
  before_is : edge_before (column_at set place) (entry_of number edge)
      ≡ before_at (get_or (values_of set number) (field_at set.layout place).field (Mask 0 0))
      (field_at set.layout place).size (field_at set.layout place).place edge
  before_is = λ i. before_at (value_is i) (size_is i) (place_is i) (edge_in-entry_of number edge i)

  -- an entry steps as its edge does
  pub entry_steps : (byte : ℕ)
      → entry_step (column_at set place) (entry_of number edge) byte
      ≡ option_map (entry_of number) (stepped (values_of set number) (field_at set.layout place) byte edge)
  unfolding entry_step
  entry_steps byte = λ i. option_map (entry_of (number_in-entry_of number edge i))
      (edge_step (value_is i) (size_is i) (place_is i) (before_is i) byte)

  -- the rule's value in the field of the place
  abbrev the_value : FieldValue
  the_value = get_or (values_of set number) (field_at set.layout place).field (Mask 0 0)

  -- and can be asked about bytes
  pub entry_can_step : Stands (values_of set number) (field_at set.layout place) edge
      → CanStep (column_at set place) (entry_of number edge)
  entry_can_step stands = record {
    number = subst (λ n. n < length (column_at set place).values) (sym (number_in-entry_of number edge)) as_many;
    place = subst (λ n. n < (column_at set place).size) (sym place_is)
        (subst (λ n. (field_at set.layout place).place < n) (sym size_is) stands.place);
    value = subst (λ v. CanMatch v (column_at set place).size) (sym value_is)
        (subst (λ n. CanMatch (get_or (values_of set number) (field_at set.layout place).field (Mask 0 0)) n)
        (sym size_is) stands.value);
    filled = subst (λ v. IsTrue (is_range_filled v)) (sym value_is) stands.filled;
    stands = coe_stands stands.stands;
  }
    where
      as_many : number < length (column_at set place).values
      as_many = subst (λ n. number < n) (sym (length-column set place)) held.within

      coe_stands : StandsBefore (get_or (values_of set number) (field_at set.layout place).field (Mask 0 0))
          (field_at set.layout place).size (field_at set.layout place).place
          (before_at (get_or (values_of set number) (field_at set.layout place).field (Mask 0 0))
          (field_at set.layout place).size (field_at set.layout place).place edge) →
          StandsBefore (value_in (column_at set place) (entry_of number edge)) (column_at set place).size
          (column_at set place).place (edge_before (column_at set place) (entry_of number edge))
      coe_stands h =
          subst (λ v. StandsBefore v (column_at set place).size (column_at set place).place
          (edge_before (column_at set place) (entry_of number edge))) (sym value_is)
          (subst (λ n. StandsBefore the_value n (column_at set place).place
          (edge_before (column_at set place) (entry_of number edge))) (sym size_is)
          (subst (λ n. StandsBefore the_value (field_at set.layout place).size n
          (edge_before (column_at set place) (entry_of number edge))) (sym place_is)
          (subst (λ e. StandsBefore the_value (field_at set.layout place).size (field_at set.layout place).place e)
          (sym before_is) h)))

-- ---- the entries of a group

-- the entries that are kept of a group after some bytes of a key
unfoldable pub packed_state : RuleSetView → List ℕ → List ℕ → List ℕ
packed_state set group key =
    filter_map (λ number. option_map (entry_of number) (packed_edge set.layout (values_of set number) key)) group

-- the entries after one more byte are the step of the column
pub packed_state_steps : (set : RuleSetView) (group key : List ℕ) (byte : ℕ) → AllByRecursion (IsHeld set) group
    → length key < key_len_of set.layout → byte < 256 →
    packed_state set group (key ++ byte ∷ [])
    ≡ entries_step (column_at set (length key)) (packed_state set group key) byte
unfolding packed_state entries_step
packed_state_steps set [] key byte held within small = refl
packed_state_steps set (number ∷ group) key byte held within small =
    by (packed_edge set.layout (values_of set number) key)
    (packed_steps set.layout (values_of set number) key byte held.0.lawful within small)
    (packed_state_steps set group key byte held.1 within small)
  where
    by : (found : Option Edge)
        → packed_edge set.layout (values_of set number) (key ++ byte ∷ [])
        ≡ option_and_then (stepped (values_of set number) (field_at set.layout (length key)) byte) found →
        packed_state set group (key ++ byte ∷ [])
        ≡ entries_step (column_at set (length key)) (packed_state set group key) byte →
        cons_option (option_map (entry_of number) (packed_edge set.layout (values_of set number) (key ++ byte ∷ [])))
        (packed_state set group (key ++ byte ∷ []))
        ≡ entries_step (column_at set (length key))
        (cons_option (option_map (entry_of number) found) (packed_state set group key)) byte
    by None is rest = λ i. cons_option (option_map (entry_of number) (is i)) (rest i)
    by (Some edge) is rest = λ i. cons_option
        ((ap (option_map (entry_of number)) is ∙ sym (entry_steps set (length key) number held.0 edge byte)) i) (rest i)

-- a byte at a place at which all rules are wild leaves the entries as they are
pub packed_state_wild : (set : RuleSetView) (group key : List ℕ) (byte : ℕ) → AllByRecursion (IsHeld set) group
    → AreBytes key → byte < 256 → length key < key_len_of set.layout →
    is_wild_place set group (length key) ≡ true → packed_state set group (key ++ byte ∷ []) ≡ packed_state set group key
unfolding packed_state is_wild_place
packed_state_wild set [] key byte held small below within wild = refl
packed_state_wild set (number ∷ group) key byte held small below within wild =
    let parts = and_parts (is_wild_at set.layout (values_of set number) (length key))
    (list_all (λ n. is_wild_at set.layout (values_of set n) (length key)) group) wild in
    λ i. cons_option (option_map (entry_of number)
    (packed_wild set.layout (values_of set number) key byte held.0.lawful small below within parts.0 i))
    (packed_state_wild set group key byte held.1 small below within parts.1 i)

-- before the first byte
pub packed_state_start : (set : RuleSetView) (group : List ℕ) → AllByRecursion (IsHeld set) group
    → packed_state set group [] ≡ map (λ number. entry_of number Free) group
unfolding packed_state
packed_state_start set [] held = refl
packed_state_start set (number ∷ group) held =
    λ i. cons_option (option_map (entry_of number) (packed_nothing set.layout (values_of set number) held.0.lawful i))
    (packed_state_start set group held.1 i)

-- ---- what the entries stand for

-- An entry is the edge that is kept of a rule after some bytes.
pub record IsEntryAt (set : RuleSetView) (place entry : ℕ) : Type 0 where
  pub number : ℕ
  pub edge : Edge
  pub key : List ℕ
  pub is : entry ≡ entry_of number edge
  pub held : IsHeld set number
  pub bytes : AreBytes key
  pub long : length key ≡ place
  pub packed : packed_edge set.layout (values_of set number) key ≡ Some edge

-- the rule and the rest that an entry stands for
unfoldable pub decoded : RuleSetView → ℕ → ℕ → Held
decoded set place entry =
    record {
      number = number_in entry;
      rest =
          rest_at set.layout (values_of set (number_in entry)) place (edge_in entry);
    }

-- the entry of a number and an edge stands for the rule and the edge's rest
decoded_is : (set : RuleSetView) (place number : ℕ) (edge : Edge)
    → decoded set place (entry_of number edge)
    ≡ record { number = number; rest = rest_at set.layout (values_of set number) place edge }
unfolding decoded
decoded_is set place number edge = λ i. record {
  number = number_in-entry_of number edge i;
  rest = rest_at set.layout (values_of set (number_in-entry_of number edge i)) place (edge_in-entry_of number edge i);
}

-- the state is what the entries stand for
pub state_is : (set : RuleSetView) (group key : List ℕ) → AllByRecursion (IsHeld set) group
    → state set group key ≡ map (decoded set (length key)) (packed_state set group key)
unfolding state packed_state rule_rest
state_is set [] key held = refl
state_is set (number ∷ group) key held =
    by (packed_edge set.layout (values_of set number) key)
    (packed_rests set.layout (values_of set number) key held.0.lawful) (state_is set group key held.1)
  where
    by : (found : Option Edge)
        → values_rest set.layout (values_of set number) key
        ≡ option_map (rest_at set.layout (values_of set number) (length key)) found →
        state set group key ≡ map (decoded set (length key)) (packed_state set group key) →
        cons_option (option_map (λ (r : Rest). record { number = number; rest = r })
        (values_rest set.layout (values_of set number) key)) (state set group key)
        ≡ map (decoded set (length key)) (cons_option (option_map (entry_of number) found) (packed_state set group key))
    by None is rest = λ i. cons_option (option_map (λ (r : Rest). record { number = number; rest = r }) (is i)) (rest i)
    by (Some edge) is rest =
        (λ i. cons_option (option_map (λ (r : Rest). record { number = number; rest = r }) (is i)) (rest i))
        ∙ ap (λ h. h ∷ map (decoded set (length key)) (packed_state set group key))
        (sym (decoded_is set (length key) number edge))

-- all entries of a state are such
pub packed_entries : (set : RuleSetView) (group key : List ℕ) → AllByRecursion (IsHeld set) group → AreBytes key
    → AllByRecursion (IsEntryAt set (length key)) (packed_state set group key)
unfolding packed_state
packed_entries set [] key held small = tt
packed_entries set (number ∷ group) key held small =
    by (packed_edge set.layout (values_of set number) key) refl (packed_entries set group key held.1 small)
  where
    by : (found : Option Edge) → packed_edge set.layout (values_of set number) key ≡ found
        → AllByRecursion (IsEntryAt set (length key)) (packed_state set group key) →
        AllByRecursion (IsEntryAt set (length key))
        (cons_option (option_map (entry_of number) found) (packed_state set group key))
    by None is rest = rest
    by (Some edge) is rest = (
      record {
        number = number;
        edge = edge;
        key = key;
        is = refl;
        held = held.0;
        bytes = small;
        long = refl;
        packed = is;
      },
      rest,
    )

-- entries that stand for one thing are one
entries_apart : (set : RuleSetView) (place one other : ℕ) → IsEntryAt set place one → IsEntryAt set place other
    → decoded set place one ≡ decoded set place other → one ≡ other
entries_apart set place one other a b same =
    let alike : record { number = a.number; rest = rest_at set.layout (values_of set a.number) place a.edge }
    ≡ record { number = b.number; rest = rest_at set.layout (values_of set b.number) place b.edge } =
    sym (decoded_is set place a.number a.edge) ∙ ap (decoded set place) (sym a.is) ∙ same ∙ ap (decoded set place) b.is
    ∙ decoded_is set place b.number b.edge in
    let numbers : a.number ≡ b.number = ap (λ (h : Held). h.number) alike in
    let rests : rest_at set.layout (values_of set a.number) place a.edge
    ≡ rest_at set.layout (values_of set b.number) place b.edge = ap (λ (h : Held). h.rest) alike in
    let edges : a.edge ≡ b.edge =
    packed_apart set.layout (values_of set a.number) a.key b.key a.edge b.edge a.bytes b.bytes (b.long ∙ sym a.long)
    a.packed
    (ap (λ n. packed_edge set.layout (values_of set n) b.key) numbers ∙ b.packed)
    (ap (λ n. rest_at set.layout (values_of set a.number) n a.edge) a.long ∙ rests
    ∙ ap (λ n. rest_at set.layout (values_of set n) place b.edge) (sym numbers)
    ∙ ap (λ n. rest_at set.layout (values_of set a.number) n b.edge) (sym a.long)) in
    a.is ∙ (λ i. entry_of (numbers i) (edges i)) ∙ sym b.is

-- two lists of entries are one if they stand for one state
lists_apart : (set : RuleSetView) (place : ℕ) (xs ys : List ℕ) → AllByRecursion (IsEntryAt set place) xs
    → AllByRecursion (IsEntryAt set place) ys → map (decoded set place) xs ≡ map (decoded set place) ys → xs ≡ ys
lists_apart set place [] [] ats bts same = refl
lists_apart set place [] (y ∷ ys) ats bts same = absurd cc
lists_apart set place (x ∷ xs) [] ats bts same = absurd cc
lists_apart set place (x ∷ xs) (y ∷ ys) ats bts same =
    let heads : decoded set place x ≡ decoded set place y = cc in
    let tails : map (decoded set place) xs ≡ map (decoded set place) ys = cc in
    λ i. entries_apart set place x y ats.0 bts.0 heads i ∷ lists_apart set place xs ys ats.1 bts.1 tails i

-- the comparison of states decides equality
held_Decides : (a b : Held) → Decides (a.number == b.number && same_rest a.rest b.rest) (a ≡ b)
held_Decides a b = (
  λ both. (
      let parts = and_parts (a.number == b.number) (same_rest a.rest b.rest) both in
      let numbers : a.number ≡ b.number = eqb-true a.number b.number parts.0 in
      let rests : a.rest ≡ b.rest = (rests_compared a.rest b.rest).0 parts.1 in
      λ i. record { number = numbers i; rest = rests i }),
  λ same. and_from (a.number == b.number) (same_rest a.rest b.rest)
      (eq-eqb a.number b.number (ap (λ (h : Held). h.number) same))
      ((rests_compared a.rest b.rest).1 (ap (λ (h : Held). h.rest) same)),
)

-- the comparison of two states decides whether they are one
pub same_state-Decides : (xs ys : List Held) → Decides (same_state xs ys) (xs ≡ ys)
same_state-Decides xs ys = slice_eq-Decides held_Decides xs ys (same_state xs ys) refl

-- two tests are one if what each decides follows from what the other decides
alike : {P Q : Type 0} (r s : Bool) → Decides r P → Decides s Q → (P → Q) → (Q → P) → r ≡ s
alike true true d e f g = refl
alike false false d e f g = refl
alike true false d e f g = absurd (true≢false (sym (e.1 (f (d.0 refl)))))
alike false true d e f g = absurd (true≢false (sym (d.1 (g (e.0 refl)))))

-- states are compared as their entries
pub compared_alike : (set : RuleSetView) (place : ℕ) (xs ys : List ℕ) → AllByRecursion (IsEntryAt set place) xs
    → AllByRecursion (IsEntryAt set place) ys →
    same_state (map (decoded set place) xs) (map (decoded set place) ys) ≡ bytes_eq xs ys
compared_alike set place xs ys ats bts =
    alike _ _ (same_state-Decides (map (decoded set place) xs) (map (decoded set place) ys)) (bytes_eq-Decides xs ys)
    (lists_apart set place xs ys ats bts) (ap (map (decoded set place)))

-- a list is live exactly if what is made of its elements is live
pub alive_alike : {X Y : Type 0} (f : X → Y) (xs : List X) → is_live (map f xs) ≡ is_live xs
alive_alike f [] = refl
alive_alike f (x ∷ xs) = refl
