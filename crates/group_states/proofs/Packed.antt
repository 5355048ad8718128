-- The edge that is kept of one rule after some bytes of a key: free before a field's first byte and after a whole key.
use Rattle.std.proofs.Common.{◌≡◌, ℕ, zero, suc, ◌+◌, ◌-◌, ◌*◌, ◌^◌, ◌<◌, ◌≤◌, List, [], ◌∷◌, ◌++◌, length, take}
use Rattle.std.proofs.Common.{fold, get_or, Bool, true, false, cond, ltb, eqb, IsTrue, Option, Some, None, refl, sym}
use Rattle.std.proofs.Common.{◌∙◌, ap, subst, inl, inr, arith, drop, length-append}
use Rattle.std.specs.Option.{option_map, option_and_then, unwrap_or}
use Rattle.std.specs.List.{AllZip, AllByRecursion}
use Rattle.std.proofs.lemmas.List.{length-drop, drop-append-le, take-append-le, take_all, drop_all}
use Rattle.std.proofs.lemmas.List.Sums.{fold-append, sum_by-cons}
use Rattle.std.proofs.lemmas.Bool.{cases_lt, cond-true, cond-false, lt-ltb, le-ltb, ne_eqb, ltb-true, leb-true}
use Rattle.std.proofs.lemmas.Bool.{and_parts}
use Rattle.std.proofs.Math.Nat.{pow-suc, mul-le-mul_right}
use Rattle.byte_numbers.specs.Number.{number_of}
use Rattle.field_defs.specs.declared.field.FieldDef.{FieldDef}
use Rattle.field_defs.specs.declared.field.FieldValue.{FieldValue}
use Rattle.field_defs.specs.declared.field.FieldValue.TheVariants.{Mask, Range, Bitmask}
use Rattle.field_defs.specs.FieldMatch.{field_match}
use Rattle.field_defs.specs.FieldBounds.{CanMatch, is_range_filled}
use Rattle.field_defs.specs.Layout.{key_len_of}
use Rattle.rule_set.specs.Lawful.{IsLawfulValue}
use Rattle.node_expand.specs.declared.edge.Edge.{Edge}
use Rattle.node_expand.specs.declared.edge.Edge.TheVariants.{Free}
use Rattle.node_expand.specs.Rest.{Rest, Live, live_where, rest_after, rest_step}
use Rattle.node_expand.specs.Edges.{edge_of, rest_of, edge_after, edge_step, StandsBefore}
use Rattle.node_expand.proofs.Offered.{rest_whole, rest_steps, range_start, mask_start, bitmask_start, step_form}
use Rattle.node_expand.proofs.Offered.{starts, edges_say, edges_are_one}
use Rattle.group_states.specs.Entry.{FieldPlace, field_at}
use Rattle.group_states.specs.RuleRest.{values_rest}
use Rattle.field_defs.proofs.Offered.{size_at_least_1}

-- the edge that is kept of a rule's values after some bytes of a key, or none
abbrev pub packed_edge : List FieldDef → List FieldValue → List ℕ → Option Edge
packed_edge [] [] key = Some Free
packed_edge (def ∷ defs) (value ∷ values) key =
    cond (ltb (length key) def.size)
    (cond (eqb (length key) 0) (Some Free) (edge_after value def.size (length key) (number_of key)))
    (cond (field_match value def.size (number_of (take def.size key))) (packed_edge defs values (drop def.size key))
    None)
packed_edge [] (value ∷ values) key = None
packed_edge (def ∷ defs) [] key = None

-- ---- numbers of bytes

-- one more byte
pub number_push : (bytes : List ℕ) (byte : ℕ) → number_of (bytes ++ byte ∷ []) ≡ number_of bytes * 256 + byte
number_push bytes byte = fold-append (λ n b. n * 256 + b) 0 bytes (byte ∷ [])

-- one more byte lengthens a key by one
pub length_one_more : (bytes : List ℕ) (byte : ℕ) → length (bytes ++ byte ∷ []) ≡ length bytes + 1
length_one_more bytes byte = length-append bytes (byte ∷ [])

-- bytes spell a number of so many bytes
abbrev pub AreBytes : List ℕ → Type 0
AreBytes bytes = AllByRecursion (λ byte. byte < 256) bytes

-- bytes after a start spell less than the next start with as many zeros after it
number_from : (start : ℕ) (bytes : List ℕ) → AreBytes bytes
    → fold (λ n b. n * 256 + b) start bytes < (start + 1) * 256 ^ length bytes
number_from start [] below = omega arith
number_from start (byte ∷ bytes) below =
    let rest = number_from (start * 256 + byte) bytes below.1 in
    let power : 256 ^ suc (length bytes) ≡ 256 ^ length bytes * 256 = pow-suc 256 (length bytes) in
    let le : start * 256 + byte + 1 ≤ (start + 1) * 256 = omega (arith, below.0) in
    rw power (omega (arith, rest, mul-le-mul_right (256 ^ length bytes) le))

-- the number that bytes spell fits into as many bytes
pub number_small : (bytes : List ℕ) → AreBytes bytes → number_of bytes < 256 ^ length bytes
number_small bytes below = let h = number_from 0 bytes below in omega arith

-- ---- one field

-- before its first byte a lawful value has an edge
start_some : (def : FieldDef) (value : FieldValue) → IsLawfulValue def value
    → (edge : Edge) × (edge_after value def.size 0 0 ≡ Some edge)
start_some def value lawful = by value lawful.can_match lawful.filled
  where
    by : (v : FieldValue) → CanMatch v def.size → IsTrue (is_range_filled v)
        → (edge : Edge) × (edge_after v def.size 0 0 ≡ Some edge)
    by (Mask value bits) can filled = (
      _,
      mask_start value bits def.size (size_at_least_1 def.size can.lawful_size) (leb-true _ _ can.mask_within)
          (ltb-true _ _ can.within_size),
    )
    by (Range low high) can filled =
        let both = and_parts (ltb low (256 ^ def.size)) (ltb high (256 ^ def.size)) can.within_size in (
          _,
          range_start low high def.size (size_at_least_1 def.size can.lawful_size) (leb-true _ _ filled)
              (ltb-true _ _ both.1),
        )
    by (Bitmask value mask) can filled =
        let both = and_parts (ltb value (256 ^ def.size)) (ltb mask (256 ^ def.size)) can.within_size in
        (_, bitmask_start value mask def.size (ltb-true _ _ both.0))

-- after some bytes that leave nothing one more byte leaves nothing
none_on : (value : FieldValue) (size place prefix byte : ℕ) → place < size → byte < 256
    → edge_after value size place prefix ≡ None → edge_after value size (place + 1) (prefix * 256 + byte) ≡ None
unfolding edge_after
none_on value size place prefix byte begun below none =
    let no_rest : rest_after value size place prefix ≡ None =
    without (edge_of (256 ^ (size - place))) (rest_after value size place prefix) none in
    ap (option_map (edge_of (256 ^ (size - (place + 1)))))
    (rest_steps value size place prefix byte begun below
    ∙ ap (option_and_then (λ r. rest_step value size place r byte)) no_rest)
  where
    without : {A B : Type 0} (f : A → B) (found : Option A) → option_map f found ≡ None → found ≡ None
    without f None h = refl
    without f (Some x) h = absurd cc

-- the edge before a place, where it is kept free before the first byte
abbrev pub before_at : FieldValue → ℕ → ℕ → Edge → Edge
before_at value size place edge = cond (eqb place 0) (unwrap_or (edge_after value size 0 0) Free) edge

-- the edge that is kept of a field's bytes, which is free before the first one
abbrev pub kept_in : FieldValue → ℕ → List ℕ → Option Edge
kept_in value size key = cond (eqb (length key) 0) (Some Free) (edge_after value size (length key) (number_of key))

-- the step from the edge kept in a field is the edge after one more byte
field_steps : (def : FieldDef) (value : FieldValue) (key : List ℕ) (byte : ℕ) → IsLawfulValue def value
    → length key < def.size → byte < 256 →
    option_and_then (λ edge. edge_step value def.size (length key) (before_at value def.size (length key) edge) byte)
    (kept_in value def.size key)
    ≡ edge_after value def.size (length key + 1) (number_of key * 256 + byte)
field_steps def value [] byte lawful begun below =
    let start = start_some def value lawful in
    ap (λ found. edge_step value def.size 0 (unwrap_or found Free) byte) start.1
    ∙ step_form value def.size 0 0 byte start.0 begun below start.1
    ∙ ap (λ p. edge_after value def.size p (0 * 256 + byte)) (omega arith)
field_steps def value (k ∷ ks) byte lawful begun below =
    let key : List ℕ = k ∷ ks in
    let some : eqb (length key) 0 ≡ false = ne_eqb (length key) 0 (λ e. omega arith) in
    let place : ℕ = length key in
    ap (λ b. option_and_then (λ edge. edge_step value def.size place
    (cond b (unwrap_or (edge_after value def.size 0 0) Free) edge) byte)
    (cond b (Some Free) (edge_after value def.size place (number_of key)))) some
    ∙ by (edge_after value def.size place (number_of key)) refl
  where
    by : (found : Option Edge) → edge_after value def.size (length (k ∷ ks)) (number_of (k ∷ ks)) ≡ found →
        option_and_then (λ edge. edge_step value def.size (length (k ∷ ks)) edge byte)
        (edge_after value def.size (length (k ∷ ks)) (number_of (k ∷ ks)))
        ≡ edge_after value def.size (length (k ∷ ks) + 1) (number_of (k ∷ ks) * 256 + byte)
    by None is = ap (option_and_then (λ edge. edge_step value def.size (length (k ∷ ks)) edge byte)) is
        ∙ sym (none_on value def.size (length (k ∷ ks)) (number_of (k ∷ ks)) byte begun below is)
    by (Some edge) is = ap (option_and_then (λ e. edge_step value def.size (length (k ∷ ks)) e byte)) is
        ∙ step_form value def.size (length (k ∷ ks)) (number_of (k ∷ ks)) byte edge begun below is

-- ---- the cases of the edge kept

module _ (def : FieldDef) (defs : List FieldDef) (value : FieldValue) (values : List FieldValue) (key : List ℕ) where
  -- inside the first field the kept edge is that of the field
  pub packed_in : length key < def.size → packed_edge (def ∷ defs) (value ∷ values) key ≡ kept_in value def.size key
  packed_in begun = cond-true _ _ _ (lt-ltb (length key) def.size begun)

  -- after the first field the kept edge is that of the others, if the field matches
  pub packed_after : def.size ≤ length key → packed_edge (def ∷ defs) (value ∷ values) key
      ≡ cond (field_match value def.size (number_of (take def.size key))) (packed_edge defs values (drop def.size key))
      None
  packed_after whole = cond-false _ _ _ (le-ltb (length key) def.size whole)

-- nothing read leaves the free edge
pub packed_nothing : (defs : List FieldDef) (values : List FieldValue) → AllZip IsLawfulValue defs values
    → packed_edge defs values [] ≡ Some Free
packed_nothing [] [] lawful = refl
packed_nothing [] (v ∷ vs) lawful = absurd lawful
packed_nothing (d ∷ ds) [] lawful = absurd lawful
packed_nothing (d ∷ ds) (v ∷ vs) lawful = packed_in d ds v vs [] (size_at_least_1 d.size lawful.0.can_match.lawful_size)

-- the edge after the last byte of a field
whole_edge : (value : FieldValue) (size number : ℕ)
    → edge_after value size size number ≡ cond (field_match value size number) (Some Free) None
unfolding edge_after edge_of
whole_edge value size number = ap (option_map (edge_of (256 ^ (size - size)))) (rest_whole value size number)
    ∙ by (field_match value size number)
  where
    by : (b : Bool) → option_map (edge_of (256 ^ (size - size))) (live_where b) ≡ cond b (Some Free) None
    by true = refl
    by false = refl

-- ---- the step

module _ (def : FieldDef) (defs : List FieldDef) (value : FieldValue) (values : List FieldValue)
    (lawful : IsLawfulValue def value) (others : AllZip IsLawfulValue defs values)
    (key : List ℕ) (byte : ℕ) (small : byte < 256) where
  -- one more byte of the field
  pub packed_goes_on : length key < def.size
      → packed_edge (def ∷ defs) (value ∷ values) (key ++ byte ∷ [])
      ≡ edge_after value def.size (length key + 1) (number_of key * 256 + byte)
  packed_goes_on begun = elim (cases_lt (length key + 1) def.size) [
    | inl within ↦
        let long : length (key ++ byte ∷ []) < def.size = rw (length_one_more key byte) within in
        let some : eqb (length key + 1) 0 ≡ false = ne_eqb (length key + 1) 0 (λ e. omega arith) in
        packed_in def defs value values (key ++ byte ∷ []) long
        ∙ (λ i. cond (eqb (length_one_more key byte i) 0) (Some Free)
        (edge_after value def.size (length_one_more key byte i) (number_push key byte i)))
        ∙ ap (λ b. cond b (Some Free) (edge_after value def.size (length key + 1) (number_of key * 256 + byte))) some
    | inr end ↦
        let whole : length key + 1 ≡ def.size = omega arith in
        let long : length (key ++ byte ∷ []) ≡ def.size = length_one_more key byte ∙ whole in
        let all : take def.size (key ++ byte ∷ []) ≡ key ++ byte ∷ [] =
        take_all def.size (key ++ byte ∷ []) (omega (arith, long)) in
        let none : drop def.size (key ++ byte ∷ []) ≡ [] = drop_all def.size (key ++ byte ∷ []) (omega (arith, long)) in
        packed_after def defs value values (key ++ byte ∷ []) (omega (arith, long))
        ∙ (λ i. cond (field_match value def.size (number_of (all i))) (packed_edge defs values (none i)) None)
        ∙ (λ i. cond (field_match value def.size (number_push key byte i)) (packed_nothing defs values others i) None)
        ∙ sym (whole_edge value def.size (number_of key * 256 + byte))
        ∙ ap (λ p. edge_after value def.size p (number_of key * 256 + byte)) (sym whole)
  ]

-- the step from an edge kept before a place, by the field that has the place
abbrev pub stepped : List FieldValue → FieldPlace → ℕ → Edge → Option Edge
stepped values at byte edge =
    edge_step (get_or values at.field (Mask 0 0)) at.size at.place
    (before_at (get_or values at.field (Mask 0 0)) at.size at.place edge) byte

-- the field of a place, in the first field and after it
pub field_at_in : (def : FieldDef) (defs : List FieldDef) (place : ℕ) → place < def.size
    → field_at (def ∷ defs) place ≡ record { field = 0; size = def.size; place = place }
field_at_in def defs place begun = cond-true _ _ _ (lt-ltb place def.size begun)

-- the place of a field, with one more field in front
abbrev pub one_further : FieldPlace → FieldPlace
one_further at = record { field = at.field + 1; size = at.size; place = at.place }

-- a place after the first field lies in the fields after that
pub field_at_after : (def : FieldDef) (defs : List FieldDef) (place : ℕ) → def.size ≤ place
    → field_at (def ∷ defs) place ≡ one_further (field_at defs (place - def.size))
field_at_after def defs place whole = cond-false _ _ _ (le-ltb place def.size whole)

-- the value of a field is the same with one more field in front
pub further_value : (value : FieldValue) (values : List FieldValue) (n : ℕ)
    → get_or (value ∷ values) (n + 1) (Mask 0 0) ≡ get_or values n (Mask 0 0)
further_value value values n = ap (λ k. get_or (value ∷ values) k (Mask 0 0)) (let e : n + 1 ≡ suc n = omega arith in e)

-- the edge after one more byte is the step of the field that has the place
pub packed_steps : (defs : List FieldDef) (values : List FieldValue) (key : List ℕ) (byte : ℕ)
    → AllZip IsLawfulValue defs values → length key < key_len_of defs → byte < 256 →
    packed_edge defs values (key ++ byte ∷ [])
    ≡ option_and_then (stepped values (field_at defs (length key)) byte) (packed_edge defs values key)
packed_steps [] values key byte lawful within small = absurd (omega arith)
packed_steps (def ∷ defs) [] key byte lawful within small = absurd lawful
packed_steps (def ∷ defs) (value ∷ values) key byte lawful within small = elim (cases_lt (length key) def.size) [
  | inl begun ↦
      packed_goes_on def defs value values lawful.0 lawful.1 key byte small begun
      ∙ sym (field_steps def value key byte lawful.0 begun small)
      ∙ sym (λ i. option_and_then (stepped (value ∷ values) (field_at_in def defs (length key) begun i) byte)
      (packed_in def defs value values key begun i))
  | inr after ↦
      let rest : List ℕ = drop def.size key in
      let long : length rest ≡ length key - def.size = length-drop def.size key in
      let whole : ℕ = number_of (take def.size key) in
      let before : packed_edge (def ∷ defs) (value ∷ values) (key ++ byte ∷ [])
      ≡ cond (field_match value def.size whole) (packed_edge defs values (rest ++ byte ∷ [])) None =
      packed_after def defs value values (key ++ byte ∷ []) (omega (arith, length_one_more key byte))
      ∙ (λ i. cond (field_match value def.size (number_of (take-append-le def.size key (byte ∷ []) after i)))
      (packed_edge defs values (drop-append-le def.size key (byte ∷ []) after i)) None) in
      let step_is : (edge : Edge)
      → stepped (value ∷ values) (one_further (field_at defs (length key - def.size))) byte edge
      ≡ stepped values (field_at defs (length rest)) byte edge = λ edge.
      (λ i. edge_step (further_value value values (field_at defs (length key - def.size)).field i)
      (field_at defs (length key - def.size)).size (field_at defs (length key - def.size)).place
      (before_at (further_value value values (field_at defs (length key - def.size)).field i)
      (field_at defs (length key - def.size)).size (field_at defs (length key - def.size)).place edge) byte)
      ∙ ap (λ n. stepped values (field_at defs n) byte edge) (sym long) in
      before
      ∙ by (field_match value def.size whole) (packed_edge defs values rest) step_is
      (packed_steps defs values rest byte lawful.1
      (omega (arith, long, within, sum_by-cons (λ (d : FieldDef). d.size) def defs)) small)
      ∙ sym (λ i. option_and_then (stepped (value ∷ values) (field_at_after def defs (length key) after i) byte)
      (packed_after def defs value values key after i))
]
  where
    by : (b : Bool) (found : Option Edge)
        → ((edge : Edge) → stepped (value ∷ values) (one_further (field_at defs (length key - def.size))) byte edge
        ≡ stepped values (field_at defs (length (drop def.size key))) byte edge) →
        packed_edge defs values (drop def.size key ++ byte ∷ [])
        ≡ option_and_then (stepped values (field_at defs (length (drop def.size key))) byte) found →
        cond b (packed_edge defs values (drop def.size key ++ byte ∷ [])) None
        ≡ option_and_then (stepped (value ∷ values) (one_further (field_at defs (length key - def.size))) byte)
        (cond b found None)
    by true None step_is rest = rest
    by true (Some edge) step_is rest = rest ∙ sym (step_is edge)
    by false found step_is rest = refl

-- ---- what the edge kept says

-- The edge kept before a place of the key, as the field that has the place sees it.
pub record Stands (values : List FieldValue) (at : FieldPlace) (edge : Edge) : Type 0 where
  pub place : at.place < at.size
  pub value : CanMatch (get_or values at.field (Mask 0 0)) at.size
  pub filled : IsTrue (is_range_filled (get_or values at.field (Mask 0 0)))
  pub stands : StandsBefore (get_or values at.field (Mask 0 0)) at.size at.place
      (before_at (get_or values at.field (Mask 0 0)) at.size at.place edge)

-- the edge that is kept inside a field stands before the field's next place
stands_in : (def : FieldDef) (value : FieldValue) (key : List ℕ) (edge : Edge) → IsLawfulValue def value → AreBytes key
    → length key < def.size → kept_in value def.size key ≡ Some edge →
    StandsBefore value def.size (length key) (before_at value def.size (length key) edge)
stands_in def value [] edge lawful small begun is =
    let start = start_some def value lawful in
    subst (λ e. StandsBefore value def.size 0 e) (sym (ap (λ found. unwrap_or found Free) start.1))
    (starts value def.size start.0 start.1).stands
stands_in def value (k ∷ ks) edge lawful small begun is =
    let some : eqb (length (k ∷ ks)) 0 ≡ false = ne_eqb (length (k ∷ ks)) 0 (λ e. omega arith) in
    let form : edge_after value def.size (length (k ∷ ks)) (number_of (k ∷ ks)) ≡ Some edge =
    sym (ap (λ b. cond b (Some Free) (edge_after value def.size (length (k ∷ ks)) (number_of (k ∷ ks)))) some) ∙ is in
    subst (λ e. StandsBefore value def.size (length (k ∷ ks)) e)
    (sym (ap (λ b. cond b (unwrap_or (edge_after value def.size 0 0) Free) edge) some))
    (record { prefix = number_of (k ∷ ks); within = number_small (k ∷ ks) small; form = form })

-- what is left of some bytes are bytes
pub bytes_after : (n : ℕ) (bytes : List ℕ) → AreBytes bytes → AreBytes (drop n bytes)
bytes_after zero bytes small = small
bytes_after (suc n) [] small = tt
bytes_after (suc n) (byte ∷ bytes) small = bytes_after n bytes small.1

-- the edge of the fields after one that matches
through : (b : Bool) (found : Option Edge) (edge : Edge) → cond b found None ≡ Some edge → found ≡ Some edge
through true found edge h = h
through false found edge h = absurd cc

-- the edge that is kept of a rule stands before the next place of the key
pub packed_stands : (defs : List FieldDef) (values : List FieldValue) (key : List ℕ) (edge : Edge)
    → AllZip IsLawfulValue defs values → AreBytes key → length key < key_len_of defs →
    packed_edge defs values key ≡ Some edge → Stands values (field_at defs (length key)) edge
packed_stands [] values key edge lawful small within is = absurd (omega arith)
packed_stands (def ∷ defs) [] key edge lawful small within is = absurd lawful
packed_stands (def ∷ defs) (value ∷ values) key edge lawful small within is = elim (cases_lt (length key) def.size) [
  | inl begun ↦
      subst (λ at. Stands (value ∷ values) at edge) (sym (field_at_in def defs (length key) begun))
      (record {
        place = begun;
        value = lawful.0.can_match;
        filled = lawful.0.filled;
        stands = stands_in def value key edge lawful.0 small begun
            (sym (packed_in def defs value values key begun) ∙ is);
      })
  | inr after ↦
      let rest : List ℕ = drop def.size key in
      let long : length rest ≡ length key - def.size = length-drop def.size key in
      let rest_is : packed_edge defs values rest ≡ Some edge =
      through (field_match value def.size (number_of (take def.size key))) (packed_edge defs values rest) edge
      (sym (packed_after def defs value values key after) ∙ is) in
      let there = packed_stands defs values rest edge lawful.1 (bytes_after def.size key small)
      (omega (arith, long, within, sum_by-cons (λ (d : FieldDef). d.size) def defs)) rest_is in
      let at : FieldPlace = field_at defs (length key - def.size) in
      let here : Stands values at edge = subst (λ n. Stands values (field_at defs n) edge) long there in
      let value_is = further_value value values at.field in
      subst (λ at. Stands (value ∷ values) at edge) (sym (field_at_after def defs (length key) after))
      (record {
        place = here.place;
        value = subst (λ v. CanMatch v at.size) (sym value_is) here.value;
        filled = subst (λ v. IsTrue (is_range_filled v)) (sym value_is) here.filled;
        stands = subst (λ v. StandsBefore v at.size at.place (before_at v at.size at.place edge)) (sym value_is)
            here.stands;
      })
]

-- ---- the rest of the edge kept

-- the rest that an edge kept before a place stands for
abbrev pub rest_at : List FieldDef → List FieldValue → ℕ → Edge → Rest
rest_at [] values place edge = Live
rest_at (def ∷ defs) [] place edge = Live
rest_at (def ∷ defs) (value ∷ values) place edge =
    cond (ltb place def.size)
    (cond (eqb place 0) (unwrap_or (rest_after value def.size 0 0) Live) (rest_of value def.size place edge))
    (rest_at defs values (place - def.size) edge)

-- the rest inside a field is the one that its kept edge stands for
rest_in : (def : FieldDef) (value : FieldValue) (key : List ℕ) → IsLawfulValue def value → length key < def.size →
    rest_after value def.size (length key) (number_of key)
    ≡ option_map (λ edge. cond (eqb (length key) 0) (unwrap_or (rest_after value def.size 0 0) Live)
    (rest_of value def.size (length key) edge)) (kept_in value def.size key)
rest_in def value [] lawful begun =
    let start = start_some def value lawful in
    let rest = (starts value def.size start.0 start.1).rest in
    rest ∙ ap Some (sym (ap (λ found. unwrap_or found Live) rest))
rest_in def value (k ∷ ks) lawful begun =
    let some : eqb (length (k ∷ ks)) 0 ≡ false = ne_eqb (length (k ∷ ks)) 0 (λ e. omega arith) in
    sym (edges_say value def.size (length (k ∷ ks)) (number_of (k ∷ ks)) (omega arith))
    ∙ sym (ap (λ b. option_map
    (λ edge. cond b (unwrap_or (rest_after value def.size 0 0) Live)
    (rest_of value def.size (length (k ∷ ks)) edge))
    (cond b (Some Free) (edge_after value def.size (length (k ∷ ks)) (number_of (k ∷ ks))))) some)

-- the rest of a rule's values is the one that their kept edge stands for
pub packed_rests : (defs : List FieldDef) (values : List FieldValue) (key : List ℕ) → AllZip IsLawfulValue defs values →
    values_rest defs values key ≡ option_map (rest_at defs values (length key)) (packed_edge defs values key)
packed_rests [] [] key lawful = refl
packed_rests [] (v ∷ vs) key lawful = absurd lawful
packed_rests (d ∷ ds) [] key lawful = absurd lawful
packed_rests (def ∷ defs) (value ∷ values) key lawful = elim (cases_lt (length key) def.size) [
  | inl begun ↦
      let is : ltb (length key) def.size ≡ true = lt-ltb (length key) def.size begun in
      cond-true _ _ _ is
      ∙ rest_in def value key lawful.0 begun
      ∙ sym (λ i. option_map (λ edge. cond (is i)
      (cond (eqb (length key) 0) (unwrap_or (rest_after value def.size 0 0) Live)
      (rest_of value def.size (length key) edge)) (rest_at defs values (length key - def.size) edge))
      (packed_in def defs value values key begun i))
  | inr after ↦
      let isnt : ltb (length key) def.size ≡ false = le-ltb (length key) def.size after in
      let long : length (drop def.size key) ≡ length key - def.size = length-drop def.size key in
      cond-false _ _ _ isnt
      ∙ by (field_match value def.size (number_of (take def.size key))) (packed_edge defs values (drop def.size key))
      (packed_rests defs values (drop def.size key) lawful.1
      ∙ ap (λ n. option_map (rest_at defs values n) (packed_edge defs values (drop def.size key))) long)
      ∙ sym (λ i. option_map (λ edge. cond (isnt i)
      (cond (eqb (length key) 0) (unwrap_or (rest_after value def.size 0 0) Live)
      (rest_of value def.size (length key) edge)) (rest_at defs values (length key - def.size) edge))
      (packed_after def defs value values key after i))
]
  where
    by : (b : Bool) (found : Option Edge)
        → values_rest defs values (drop def.size key) ≡ option_map (rest_at defs values (length key - def.size)) found →
        cond b (values_rest defs values (drop def.size key)) None
        ≡ option_map (rest_at defs values (length key - def.size)) (cond b found None)
    by true found rest = rest
    by false found rest = refl

-- ---- edges with one rest are one

-- what is kept free is the free edge
free_only : (edge : Edge) → Some Free ≡ Some edge → edge ≡ Free
free_only edge is = cc

-- some bytes of a field, but not all, and the edge that is kept of them
record Keeps (value : FieldValue) (size : ℕ) (bytes : List ℕ) (edge : Edge) : Type 0 where
  small : AreBytes bytes
  begun : length bytes < size
  is : kept_in value size bytes ≡ Some edge

-- two edges kept inside a field are one if they stand for one rest
apart_in : (def : FieldDef) (value : FieldValue) (one other : List ℕ) (edge another : Edge) →
    Keeps value def.size one edge → Keeps value def.size other another → length other ≡ length one →
    cond (eqb (length one) 0) (unwrap_or (rest_after value def.size 0 0) Live)
    (rest_of value def.size (length one) edge)
    ≡ cond (eqb (length one) 0) (unwrap_or (rest_after value def.size 0 0) Live)
    (rest_of value def.size (length one) another) → edge ≡ another
apart_in def value [] [] edge another first second long same =
    free_only edge first.is ∙ sym (free_only another second.is)
apart_in def value [] (o ∷ os) edge another first second long same = absurd (omega arith)
apart_in def value (k ∷ ks) other edge another first second long same =
    let place : ℕ = length (k ∷ ks) in
    let some : eqb place 0 ≡ false = ne_eqb place 0 (λ e. omega arith) in
    let other_some : eqb (length other) 0 ≡ false = ne_eqb (length other) 0 (λ e. omega (arith, long)) in
    let form : edge_after value def.size place (number_of (k ∷ ks)) ≡ Some edge =
    sym (ap (λ b. cond b (Some Free) (edge_after value def.size place (number_of (k ∷ ks)))) some) ∙ first.is in
    let other_form : edge_after value def.size place (number_of other) ≡ Some another =
    ap (λ n. edge_after value def.size n (number_of other)) (sym long)
    ∙ sym (ap (λ b. cond b (Some Free) (edge_after value def.size (length other) (number_of other))) other_some)
    ∙ second.is in
    let rests : rest_of value def.size place edge ≡ rest_of value def.size place another =
    sym (ap (λ b. cond b (unwrap_or (rest_after value def.size 0 0) Live) (rest_of value def.size place edge)) some)
    ∙ same
    ∙ ap (λ b. cond b (unwrap_or (rest_after value def.size 0 0) Live) (rest_of value def.size place another)) some in
    (edges_are_one value def.size place edge another (omega (arith, first.begun))
    (record { prefix = number_of (k ∷ ks); within = number_small (k ∷ ks) first.small; form = form })
    (record { prefix = number_of other; within = rw long at (number_small other second.small); form = other_form })).1
    rests

-- two edges kept of a rule after as many bytes are one if they stand for one rest
pub packed_apart : (defs : List FieldDef) (values : List FieldValue) (one other : List ℕ) (edge another : Edge)
    → AreBytes one → AreBytes other → length other ≡ length one →
    packed_edge defs values one ≡ Some edge → packed_edge defs values other ≡ Some another
    → rest_at defs values (length one) edge ≡ rest_at defs values (length one) another → edge ≡ another
packed_apart [] [] one other edge another small other_small long is other_is same = free_only edge is
    ∙ sym (free_only another other_is)
packed_apart [] (v ∷ vs) one other edge another small other_small long is other_is same = absurd cc
packed_apart (d ∷ ds) [] one other edge another small other_small long is other_is same = absurd cc
packed_apart (def ∷ defs) (value ∷ values) one other edge another small other_small long is other_is same =
    elim (cases_lt (length one) def.size) [
      | inl begun ↦
          let yes : ltb (length one) def.size ≡ true = lt-ltb (length one) def.size begun in
          let other_begun : length other < def.size = omega (arith, long) in
          apart_in def value one other edge another
          (record { small = small; begun = begun; is = sym (packed_in def defs value values one begun) ∙ is })
          (record {
            small = other_small;
            begun = other_begun;
            is = sym (packed_in def defs value values other other_begun) ∙ other_is;
          })
          long (sym (cond-true _ _ _ yes) ∙ same ∙ cond-true _ _ _ yes)
      | inr after ↦
          let no_more : ltb (length one) def.size ≡ false = le-ltb (length one) def.size after in
          let rest_long : length (drop def.size one) ≡ length one - def.size = length-drop def.size one in
          let other_long : length (drop def.size other) ≡ length (drop def.size one) = length-drop def.size other
          ∙ ap (λ n. n - def.size) long ∙ sym rest_long in
          packed_apart defs values (drop def.size one) (drop def.size other) edge another
          (bytes_after def.size one small)
          (bytes_after def.size other other_small) other_long
          (through (field_match value def.size (number_of (take def.size one)))
          (packed_edge defs values (drop def.size one)) edge
          (sym (packed_after def defs value values one after) ∙ is))
          (through (field_match value def.size (number_of (take def.size other)))
          (packed_edge defs values (drop def.size other)) another
          (sym (packed_after def defs value values other (omega (arith, long, after))) ∙ other_is))
          (ap (λ n. rest_at defs values n edge) rest_long ∙ sym (cond-false _ _ _ no_more)
          ∙ same ∙ cond-false _ _ _ no_more
          ∙ sym (ap (λ n. rest_at defs values n another) rest_long))
    ]
