-- The rest of a whole rule goes step by step, and so does the state of a group.
use Rattle.std.proofs.Common.{◌≡◌, ℕ, ◌+◌, ◌-◌, ◌*◌, ◌<◌, ◌≤◌, List, [], ◌∷◌, ◌++◌, length, take, drop, Bool, true}
use Rattle.std.proofs.Common.{false, cond, ltb, eqb, Option, Some, None, refl, sym, ◌∙◌, ap, inl, inr, arith}
use Rattle.std.specs.Option.{option_map, option_and_then}
use Rattle.std.specs.List.{AllZip, AllByRecursion, cons_option}
use Rattle.std.proofs.lemmas.List.{length-drop, drop-append-le, take-append-le, take_all, drop_all, append_assoc}
use Rattle.std.proofs.lemmas.List.{append-nil}
use Rattle.std.proofs.lemmas.List.Sums.{sum_by-cons}
use Rattle.std.proofs.lemmas.Bool.{cases_lt, cond-true, cond-false, lt-ltb, le-ltb, eq-eqb, ne_eqb}
use Rattle.byte_numbers.specs.Number.{number_of}
use Rattle.field_defs.specs.declared.field.FieldDef.{FieldDef}
use Rattle.field_defs.specs.declared.field.FieldValue.{FieldValue}
use Rattle.field_defs.specs.FieldMatch.{field_match}
use Rattle.field_defs.specs.Layout.{key_len_of}
use Rattle.rule_set.specs.Rule.{RuleSetView}
use Rattle.rule_set.specs.Lawful.{IsLawfulValue}
use Rattle.node_expand.specs.Rest.{Rest, live_where, rest_after, rest_step}
use Rattle.node_expand.proofs.Offered.{rest_whole, rest_steps}
use Rattle.group_states.proofs.Packed.{AreBytes, number_push, length_one_more}
use Rattle.group_states.proofs.PackedState.{IsHeld}
use Rattle.group_states.specs.RuleRest.{values_rest, values_step, values_of, rule_rest, rule_step}
use Rattle.group_states.specs.State.{Held, state, state_step, state_through}

module _ (def : FieldDef) (defs : List FieldDef) (value : FieldValue) (values : List FieldValue) (key : List ℕ) where
  -- inside the first field the rest is that of the field
  rest_in : length key < def.size
      → values_rest (def ∷ defs) (value ∷ values) key ≡ rest_after value def.size (length key) (number_of key)
  rest_in begun = cond-true _ _ _ (lt-ltb (length key) def.size begun)

  -- after the first field the rest is that of the others, if the field matches
  rest_following : def.size ≤ length key → values_rest (def ∷ defs) (value ∷ values) key
      ≡ cond (field_match value def.size (number_of (take def.size key))) (values_rest defs values (drop def.size key))
      None
  rest_following whole = cond-false _ _ _ (le-ltb (length key) def.size whole)

-- what comes after a rest in the field of the place
abbrev onward : FieldDef → List FieldDef → List FieldValue → ℕ → Rest → Option Rest
onward def defs values place after = cond (eqb (place + 1) def.size) (values_rest defs values []) (Some after)

-- two steps of an option, one after the other, are a step of both
and_then_all : {A B C : Type 0} (f : A → Option B) (g : B → Option C) (found : Option A)
    → option_and_then (λ x. option_and_then g (f x)) found ≡ option_and_then g (option_and_then f found)
and_then_all f g None = refl
and_then_all f g (Some x) = refl

-- a step that keeps each value keeps the option
and_then_some : {A : Type 0} (found : Option A) → option_and_then (λ (x : A). Some x) found ≡ found
and_then_some None = refl
and_then_some (Some x) = refl

-- the rest after one more byte inside the first field, and what comes after the field
in_field : (def : FieldDef) (defs : List FieldDef) (value : FieldValue) (values : List FieldValue) (key : List ℕ)
    (byte : ℕ) → length key < def.size → byte < 256 →
    values_rest (def ∷ defs) (value ∷ values) (key ++ byte ∷ [])
    ≡ option_and_then (onward def defs values (length key))
    (rest_after value def.size (length key + 1) (number_of key * 256 + byte))
in_field def defs value values key byte begun below = elim (cases_lt (length key + 1) def.size) [
  | inl within ↦
      let long : length (key ++ byte ∷ []) < def.size = rw (length_one_more key byte) within in
      let more : eqb (length key + 1) def.size ≡ false = ne_eqb (length key + 1) def.size (λ e. omega arith) in
      rest_in def defs value values (key ++ byte ∷ []) long
      ∙ (λ i. rest_after value def.size (length_one_more key byte i) (number_push key byte i))
      ∙ sym (ap (λ b. option_and_then (λ (after : Rest). cond b (values_rest defs values []) (Some after))
      (rest_after value def.size (length key + 1) (number_of key * 256 + byte))) more
      ∙ and_then_some (rest_after value def.size (length key + 1) (number_of key * 256 + byte)))
  | inr end ↦
      let whole : length key + 1 ≡ def.size = omega arith in
      let long : length (key ++ byte ∷ []) ≡ def.size = length_one_more key byte ∙ whole in
      let all : take def.size (key ++ byte ∷ []) ≡ key ++ byte ∷ [] =
      take_all def.size (key ++ byte ∷ []) (omega (arith, long)) in
      let none : drop def.size (key ++ byte ∷ []) ≡ [] = drop_all def.size (key ++ byte ∷ []) (omega (arith, long)) in
      let number : ℕ = number_of key * 256 + byte in
      rest_following def defs value values (key ++ byte ∷ []) (omega (arith, long))
      ∙ (λ i. cond (field_match value def.size (number_of (all i))) (values_rest defs values (none i)) None)
      ∙ ap (λ n. cond (field_match value def.size n) (values_rest defs values []) None) (number_push key byte)
      ∙ sym (ap (λ p. option_and_then (onward def defs values (length key)) (rest_after value def.size p number)) whole
      ∙ ap (option_and_then (onward def defs values (length key))) (rest_whole value def.size number)
      ∙ ap (λ b. option_and_then (λ (after : Rest). cond b (values_rest defs values []) (Some after))
      (live_where (field_match value def.size number))) (eq-eqb (length key + 1) def.size whole)
      ∙ by (field_match value def.size number))
]
  where
    by : (b : Bool) → option_and_then (λ (after : Rest). values_rest defs values []) (live_where b)
        ≡ cond b (values_rest defs values []) None
    by true = refl
    by false = refl

-- the rest after one more byte is the step of the rest
pub values_go_on : (defs : List FieldDef) (values : List FieldValue) (key : List ℕ) (byte : ℕ)
    → AllZip IsLawfulValue defs values → length key < key_len_of defs → byte < 256 →
    values_rest defs values (key ++ byte ∷ [])
    ≡ option_and_then (λ before. values_step defs values (length key) before byte) (values_rest defs values key)
values_go_on [] values key byte lawful within below = absurd (omega arith)
values_go_on (def ∷ defs) [] key byte lawful within below = absurd lawful
values_go_on (def ∷ defs) (value ∷ values) key byte lawful within below = elim (cases_lt (length key) def.size) [
  | inl begun ↦
      let place : ℕ = length key in
      let yes : ltb place def.size ≡ true = lt-ltb place def.size begun in
      in_field def defs value values key byte begun below
      ∙ ap (option_and_then (onward def defs values place))
      (rest_steps value def.size place (number_of key) byte begun below)
      ∙ sym (and_then_all (λ before. rest_step value def.size place before byte) (onward def defs values place)
      (rest_after value def.size place (number_of key)))
      ∙ sym (ap (λ b. option_and_then
      (λ before. cond b (option_and_then (onward def defs values place)
      (rest_step value def.size place before byte)) (values_step defs values (place - def.size) before byte))
      (values_rest (def ∷ defs) (value ∷ values) key)) yes
      ∙ ap (option_and_then (λ before. option_and_then (onward def defs values place)
      (rest_step value def.size place before byte))) (rest_in def defs value values key begun))
  | inr later ↦
      let rest : List ℕ = drop def.size key in
      let long : length rest ≡ length key - def.size = length-drop def.size key in
      let no_more : ltb (length key) def.size ≡ false = le-ltb (length key) def.size later in
      let whole : ℕ = number_of (take def.size key) in
      rest_following def defs value values (key ++ byte ∷ []) (omega (arith, length_one_more key byte))
      ∙ (λ i. cond (field_match value def.size (number_of (take-append-le def.size key (byte ∷ []) later i)))
      (values_rest defs values (drop-append-le def.size key (byte ∷ []) later i)) None)
      ∙ by (field_match value def.size whole)
      (values_go_on defs values rest byte lawful.1
      (omega (arith, long, within, sum_by-cons (λ (d : FieldDef). d.size) def defs)) below
      ∙ ap (λ n. option_and_then (λ before. values_step defs values n before byte) (values_rest defs values rest)) long)
      ∙ sym (ap (λ b. option_and_then
      (λ before. cond b (option_and_then (onward def defs values (length key))
      (rest_step value def.size (length key) before byte))
      (values_step defs values (length key - def.size) before byte))
      (values_rest (def ∷ defs) (value ∷ values) key)) no_more
      ∙ ap (option_and_then (λ before. values_step defs values (length key - def.size) before byte))
      (rest_following def defs value values key later))
]
  where
    by : (b : Bool) → values_rest defs values (drop def.size key ++ byte ∷ [])
        ≡ option_and_then (λ before. values_step defs values (length key - def.size) before byte)
        (values_rest defs values (drop def.size key)) →
        cond b (values_rest defs values (drop def.size key ++ byte ∷ [])) None
        ≡ option_and_then (λ before. values_step defs values (length key - def.size) before byte)
        (cond b (values_rest defs values (drop def.size key)) None)
    by true rest = rest
    by false rest = refl

-- a rule's number and its rest
abbrev hold : ℕ → Rest → Held
hold number r = record { number = number; rest = r }

-- the state after one more byte
pub state_goes_on : (set : RuleSetView) (group key : List ℕ) (byte : ℕ) → AllByRecursion (IsHeld set) group
    → length key < key_len_of set.layout → byte < 256 →
    state set group (key ++ byte ∷ []) ≡ state_step set (length key) (state set group key) byte
unfolding state state_step rule_rest rule_step
state_goes_on set [] key byte held within below = refl
state_goes_on set (number ∷ group) key byte held within below =
    by (values_rest set.layout (values_of set number) key)
    (values_go_on set.layout (values_of set number) key byte held.0.lawful within below)
    (state_goes_on set group key byte held.1 within below)
  where
    by : (found : Option Rest)
        → values_rest set.layout (values_of set number) (key ++ byte ∷ [])
        ≡ option_and_then (λ before. values_step set.layout (values_of set number) (length key) before byte) found →
        state set group (key ++ byte ∷ []) ≡ state_step set (length key) (state set group key) byte →
        cons_option (option_map (hold number) (values_rest set.layout (values_of set number) (key ++ byte ∷ [])))
        (state set group (key ++ byte ∷ []))
        ≡ state_step set (length key) (cons_option (option_map (hold number) found) (state set group key)) byte
    by None is rest = λ i. cons_option (option_map (hold number) (is i)) (rest i)
    by (Some before) is rest = λ i. cons_option (option_map (hold number) (is i)) (rest i)

-- and after some more
pub state_goes_through : (set : RuleSetView) (group key bytes : List ℕ) → AllByRecursion (IsHeld set) group
    → AreBytes bytes → length key + length bytes ≤ key_len_of set.layout →
    state set group (key ++ bytes) ≡ state_through set (length key) (state set group key) bytes
unfolding state_through
state_goes_through set group key [] held small within = ap (state set group) (append-nil key)
state_goes_through set group key (byte ∷ bytes) held small within =
    let long : length (key ++ byte ∷ []) ≡ length key + 1 = length_one_more key byte in
    ap (state set group) (sym (append_assoc key (byte ∷ []) bytes))
    ∙ state_goes_through set group (key ++ byte ∷ []) bytes held small.1 (omega (arith, long))
    ∙ (λ i. state_through set (long i) (state_goes_on set group key byte held (omega arith) small.0 i) bytes)
