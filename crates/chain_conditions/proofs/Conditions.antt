-- One flat list serves every oracle, its categories bound the answers, and the possible answers are exact.
use Rattle.std.proofs.Common.{◌≡◌, ℕ, List, [], ◌∷◌, ◌++◌, map, Bool, true, false, not, ◌&&◌, ◌||◌}
use Rattle.std.proofs.Common.{Option, Some, None, refl, sym, ◌∙◌, inl, inr, eqb}
use Rattle.std.specs.List.{list_any, list_all}
use Rattle.std.proofs.lemmas.Bool.{cases_Bool, and_parts, and_from}
use Rattle.std.proofs.lemmas.Cmp.{nat_eq_equiv}
use Rattle.std.proofs.lemmas.List.Folds.{list_all-append}
use Rattle.list_lemmas.proofs.Spans.{list_all_at_member}
use Rattle.list_chains.specs.Flat.{Entry, first_answer}
use Rattle.list_chains.specs.FlatLaws.{holds_in, IsMeet}
use Rattle.list_chains.proofs.Offered.{flat_list_answers}
use Rattle.chain_conditions.specs.Conditions.{Conditional, holds_by, under, conditional_meet, surely, is_none}
use Rattle.chain_conditions.specs.Conditions.{only, witnessed}
use Rattle.chain_conditions.specs.Laws.{conditional_list, decides_by, TheListIsOneForEveryOracle, category_answer}
use Rattle.chain_conditions.specs.Laws.{ClassesAreBounds, OneClassIsCertain, is_answer, EachAnswerIsReached}

-- two tests of each of two
four : (a b c d : Bool) → ((a && b) && (c && d)) ≡ ((a && c) && (b && d))
four true true c d = refl
four true false true d = refl
four true false false d = refl
four false b c d = refl

-- nothing after a test
pub and_false : (b : Bool) → (b && false) ≡ false
and_false true = refl
and_false false = refl

-- a test and true
and_true : (b : Bool) → (b && true) ≡ b
and_true true = refl
and_true false = refl

-- a test or true
pub or_true : (b : Bool) → (b || true) ≡ true
or_true true = refl
or_true false = refl

-- a number equals itself
pub eqb_self : (n : ℕ) → eqb n n ≡ true
eqb_self n = nat_eq_equiv.refl n

-- a test of images
pub any_map : {X Y : Type 0} (test : Y → Bool) (f : X → Y) (xs : List X) →
    list_any test (map f xs) ≡ list_any (λ x. test (f x)) xs
any_map test f [] = refl
any_map test f (x ∷ xs) = rw (any_map test f xs) refl

module _ {B : Type 0} (holds : B → Bool) where
  -- a packet is in a box with conditions if it is in the box, and they hold
  in_under : (oracle : ℕ → Bool) (conditions : List ℕ) (box : Option B) →
      holds_in (holds_by holds oracle) (under conditions box) ≡ (holds_in holds box && list_all oracle conditions)
  in_under oracle conditions None = refl
  in_under oracle conditions (Some box) = refl

  -- what two boxes with conditions have in common is that, by every oracle
  conditional_meet_is_meet : (meet : B → B → Option B) → IsMeet holds meet → (oracle : ℕ → Bool) →
      IsMeet (holds_by holds oracle) (conditional_meet meet)
  conditional_meet_is_meet meet is oracle one other =
      in_under oracle (one.conditions ++ other.conditions) (meet one.box other.box)
      ∙ rw (is one.box other.box, list_all-append oracle one.conditions other.conditions)
      (four (holds one.box) (holds other.box) (list_all oracle one.conditions) (list_all oracle other.conditions))

  -- an entry without conditions decides its packets by every oracle
  sure_holds : (oracle : ℕ → Bool) (conditions : List ℕ) → is_none conditions ≡ true → list_all oracle conditions ≡ true
  sure_holds oracle [] e = refl
  sure_holds oracle (x ∷ xs) e = absurd (cc)

  -- the category of a test bounds what passes it
  pub category_bounds : (oracle test : ℕ → Bool) (entries : List (Entry (Conditional B))) (answer : ℕ) →
      first_answer (holds_by holds oracle) entries ≡ Some answer → test answer ≡ true →
      test (category_answer holds test entries) ≡ true
  category_bounds oracle test [] answer first passes = absurd (cc)
  category_bounds oracle test (entry ∷ entries) answer first passes =
      elim (cases_Bool (holds entry.box.box)) [
        | inl h ↦ elim (cases_Bool (list_all oracle entry.box.conditions)) [
          | inl o ↦ caught h o
          | inr o ↦ elim (cases_Bool (is_none entry.box.conditions)) [
            | inl s ↦ absurd (let sure = sure_holds oracle entry.box.conditions s in cc)
            | inr s ↦ elim (cases_Bool (test entry.userdata)) [
              | inl t ↦ rw (s, t, h) t
              | inr t ↦ rw (s, t) (category_bounds oracle test entries answer (rest h o) passes)
            ]
          ]
        ]
        | inr h ↦ elim (cases_Bool (is_none entry.box.conditions || test entry.userdata)) [
          | inl t ↦ rw (t, h) (category_bounds oracle test entries answer (skip h) passes)
          | inr t ↦ rw t (category_bounds oracle test entries answer (skip h) passes)
        ]
      ]
    where
      skip : holds entry.box.box ≡ false → first_answer (holds_by holds oracle) entries ≡ Some answer
      skip h = sym (rw h refl) ∙ first

      rest : holds entry.box.box ≡ true → list_all oracle entry.box.conditions ≡ false →
          first_answer (holds_by holds oracle) entries ≡ Some answer
      rest h o = sym (rw (h, o) refl) ∙ first

      same : holds entry.box.box ≡ true → list_all oracle entry.box.conditions ≡ true →
          Some entry.userdata ≡ Some answer
      same h o = sym (rw (h, o) refl) ∙ first

      caught : holds entry.box.box ≡ true → list_all oracle entry.box.conditions ≡ true →
          test (category_answer holds test (entry ∷ entries)) ≡ true
      caught h o =
          let is : entry.userdata ≡ answer = let s = same h o in cc in
          let t : test entry.userdata ≡ true = rw is passes in
          elim (cases_Bool (is_none entry.box.conditions)) [
            | inl s ↦ rw (s, h) t
            | inr s ↦ rw (s, t, h) t
          ]

-- each of some conditions is among more of them
only_more : (conditions more : List ℕ) → ((x : ℕ) → only conditions x ≡ true → only more x ≡ true) →
    list_all (only more) conditions ≡ true
only_more [] more there = refl
only_more (x ∷ xs) more there =
    and_from (only more x) (list_all (only more) xs)
    (there x (rw (eqb_self x) refl))
    (only_more xs more (λ y e. there y (rw e (or_true (eqb x y)))))

-- by the oracle of some conditions each of them holds
pub only_holds : (conditions : List ℕ) → list_all (only conditions) conditions ≡ true
only_holds conditions = only_more conditions conditions (λ x e. e)

-- what holds by the oracle of some conditions holds by each oracle by which they hold
only_least : (oracle : ℕ → Bool) (some conditions : List ℕ) → list_all oracle some ≡ true →
    list_all (only some) conditions ≡ true → list_all oracle conditions ≡ true
only_least oracle some [] all held = refl
only_least oracle some (x ∷ xs) all held =
    let parts = and_parts (only some x) (list_all (only some) xs) held in
    and_from (oracle x) (list_all oracle xs) (list_all_at_member oracle some x all parts.0)
    (only_least oracle some xs all parts.1)

module _ {B : Type 0} (holds : B → Bool) (oracle : ℕ → Bool) where
  -- an entry that gives an answer: by an oracle, and by that of just its conditions
  record Witness (entries : List (Entry (Conditional B))) (answer : ℕ) : Type 0 where
    entry : Entry (Conditional B)
    there : (test : Entry (Conditional B) → Bool) → test entry ≡ true → list_any test entries ≡ true
    held : list_all oracle entry.box.conditions ≡ true
    gives : first_answer (holds_by holds (only entry.box.conditions)) entries ≡ Some answer

  -- there is one for each answer
  witness : (entries : List (Entry (Conditional B))) (answer : ℕ) →
      first_answer (holds_by holds oracle) entries ≡ Some answer → Witness entries answer
  witness [] answer first = absurd (cc)
  witness (x ∷ xs) answer first =
      elim (cases_Bool (holds x.box.box)) [
        | inl h ↦ elim (cases_Bool (list_all oracle x.box.conditions)) [
          | inl o ↦ record {
            entry = x;
            there = λ test e. rw e refl;
            held = o;
            gives = rw (h, only_holds x.box.conditions) (sym (rw (h, o) refl) ∙ first);
          }
          | inr o ↦ later (λ conditions held. elim (cases_Bool (list_all (only conditions) x.box.conditions)) [
            | inl e ↦ absurd (let all = only_least oracle conditions x.box.conditions held e in cc)
            | inr e ↦ rw (e, and_false (holds x.box.box)) refl
          ]) (witness xs answer (sym (rw (h, o) refl) ∙ first))
        ]
        | inr h ↦ later (λ conditions held. rw h refl) (witness xs answer (sym (rw h refl) ∙ first))
      ]
    where
      later : ((conditions : List ℕ) → list_all oracle conditions ≡ true →
          holds_by holds (only conditions) x.box ≡ false) →
          Witness xs answer → Witness (x ∷ xs) answer
      later passed w =
          record {
            entry = w.entry;
            there = λ test e. rw (w.there test e) (or_true (test x));
            held = w.held;
            gives = rw (passed w.entry.box.conditions w.held) w.gives;
          }

-- one flat list for every oracle
pub one_list_for_every_oracle : {B : Type 0} → TheListIsOneForEveryOracle B
one_list_for_every_oracle {B} holds meet is depth chains place policy whole inside oracle =
    flat_list_answers (holds_by holds oracle) (conditional_meet meet) (conditional_meet_is_meet holds meet is oracle)
    depth chains place policy (surely whole) (and_from (holds whole) true inside refl)

-- the bounds of its categories
pub classes_are_bounds : {B : Type 0} → ClassesAreBounds B
classes_are_bounds {B} holds meet is depth chains place policy whole inside oracle test passes =
    category_bounds holds oracle test (conditional_list meet depth chains place policy whole)
    (decides_by holds oracle depth chains place policy)
    (one_list_for_every_oracle holds meet is depth chains place policy whole inside oracle) passes

-- what both categories say is certain
pub one_class_is_certain : {B : Type 0} → OneClassIsCertain B
one_class_is_certain {B} holds meet is depth chains place policy whole inside test kind one other oracle =
    elim (cases_Bool (test (decides_by holds oracle depth chains place policy))) [
      | inl e ↦ e ∙ sym (classes_are_bounds holds meet is depth chains place policy whole inside oracle test e) ∙ one
      | inr e ↦
          let n = classes_are_bounds holds meet is depth chains place policy whole inside oracle
          (λ answer. not (test answer)) (rw e refl) in
          e ∙ sym (not_true _ n) ∙ other
    ]
  where
    not_true : (b : Bool) → not b ≡ true → b ≡ false
    not_true true e = absurd (cc)
    not_true false e = refl

-- the possible answers have each that an oracle gives
pub each_answer_is_reached : {B : Type 0} → EachAnswerIsReached B
each_answer_is_reached {B} holds meet is depth chains place policy whole inside oracle =
    let entries : List (Entry (Conditional B)) = conditional_list meet depth chains place policy whole in
    let answer : ℕ = decides_by holds oracle depth chains place policy in
    let w = witness holds oracle entries answer
    (one_list_for_every_oracle holds meet is depth chains place policy whole inside oracle) in
    any_map (is_answer answer) (witnessed holds entries) entries
    ∙ w.there (λ entry. is_answer answer (witnessed holds entries entry)) (rw w.gives (eqb_self answer))
