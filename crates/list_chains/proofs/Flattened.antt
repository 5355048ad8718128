-- The flat list answers as the chains do.
use Rattle.std.proofs.Common.{◌≡◌, ℕ, zero, suc, List, [], ◌∷◌, ◌++◌, map, cond, Bool, true, false, not, ◌&&◌, ◌||◌}
use Rattle.std.proofs.Common.{Option, Some, None, refl, sym, ap, ◌∙◌, inl, inr}
use Rattle.std.specs.List.{list_any}
use Rattle.std.proofs.lemmas.Bool.{cases_Bool}
use Rattle.list_chains.specs.declared.chain.Target.{Target}
use Rattle.list_chains.specs.declared.chain.Target.TheVariants.{Decide, Return, Jump, Go}
use Rattle.list_chains.specs.Chains.{ListRule, at_or, or_answer, answer_or, target_answers, rules_answer}
use Rattle.list_chains.specs.Chains.{chains_answer}
use Rattle.list_chains.specs.Flat.{Entry, first_answer, Flat, no_entries, target_flat, met_before, shared, parts_flat}
use Rattle.list_chains.specs.Flat.{met_flat, rules_flat, chains_flat, policy_entry}
use Rattle.list_chains.specs.FlatLaws.{holds_in, IsMeet, TheFlatListAnswers}

-- an answer that is there, or one of two others in turn
answer_or_twice : (a b : Option ℕ) (c : ℕ) → answer_or (or_answer a b) c ≡ answer_or a (answer_or b c)
answer_or_twice None b c = refl
answer_or_twice (Some answer) b c = refl

-- an answer, or else one that is there
or_some : (a : Option ℕ) (c : ℕ) → or_answer a (Some c) ≡ Some (answer_or a c)
or_some None c = refl
or_some (Some answer) c = refl

-- nothing answers where nothing holds
and_false : (b : Bool) → (b && false) ≡ false
and_false true = refl
and_false false = refl

-- what one test asks before two
and_or : (a b c : Bool) → (a && (b || c)) ≡ ((a && b) || (a && c))
and_or true b c = refl
and_or false b c = refl

-- an answer twice is that answer
same_answer : {A : Type 0} (b : Bool) (x : A) → cond b x x ≡ x
same_answer true x = refl
same_answer false x = refl

module _ {B : Type 0} (holds : B → Bool) where
  -- the first of two lists in turn
  pub first_append : (xs ys : List (Entry B)) →
      first_answer holds (xs ++ ys) ≡ or_answer (first_answer holds xs) (first_answer holds ys)
  first_append [] ys = refl
  first_append (x ∷ xs) ys = elim (cases_Bool (holds x.box)) [
    | inl e ↦ rw e refl
    | inr e ↦ rw e (first_append xs ys)
  ]

  -- the packets of each box have one answer there, and no others have any
  abbrev pub IsLeave : (B → List (Entry B)) → ℕ → Type 0
  IsLeave leave answer = (b : B) → first_answer holds (leave b) ≡ cond (holds b) (Some answer) None

  -- what is written for a box answers for its packets up to those that fall off the end, and for no others
  pub record IsFlat (flat : Flat B) (decision : Option ℕ) : Type 0 where
    pub inside : (b : B) (leave : B → List (Entry B)) (answer : ℕ) → IsLeave leave answer → holds b ≡ true →
        answer_or (first_answer holds (flat b leave)) answer ≡ answer_or decision answer
    pub outside : (b : B) (leave : B → List (Entry B)) (answer : ℕ) → IsLeave leave answer → holds b ≡ false →
        first_answer holds (flat b leave) ≡ None

  -- a chain that isn't there answers nothing
  no_entries_flat : IsFlat no_entries None
  no_entries_flat = record { inside = λ b leave answer l h. refl; outside = λ b leave answer l h. refl }

  -- the rest of a chain and what leaves it
  pub leaves_after : (after : Flat B) (decision : Option ℕ) (leave : B → List (Entry B)) (answer : ℕ) →
      IsFlat after decision → IsLeave leave answer → IsLeave (λ m. after m leave ++ leave m) (answer_or decision answer)
  leaves_after after decision leave answer flat leaves b = elim (cases_Bool (holds b)) [
    | inl e ↦ rw (first_append (after b leave) (leave b), leaves b, e)
        (or_some (first_answer holds (after b leave)) answer
        ∙ ap (λ a. Some a) (flat.inside b leave answer leaves e))
    | inr e ↦ rw (first_append (after b leave) (leave b), leaves b, e, flat.outside b leave answer leaves e) refl
  ]

  -- each of some chains
  abbrev AreFlat : List (Flat B) → List (Option ℕ) → Type 0
  AreFlat flats decisions = (place : ℕ) → IsFlat (at_or flats place no_entries) (at_or decisions place None)

  -- a rule answers for no packets but those of the box
  target_outside : (flats : List (Flat B)) (decisions : List (Option ℕ)) → AreFlat flats decisions →
      (userdata : ℕ) (target : Target) (after leave : B → List (Entry B)) (first answer : ℕ) → IsLeave after first →
      IsLeave leave answer →
      (met : B) → holds met ≡ false → first_answer holds (target_flat flats userdata target after leave met) ≡ None
  target_outside flats decisions are userdata Decide after leave first answer afters leaves met e = rw e refl
  target_outside flats decisions are userdata Return after leave first answer afters leaves met e =
      rw (leaves met, e) refl
  target_outside flats decisions are userdata (Jump place) after leave first answer afters leaves met e =
      (are place).outside met after first afters e
  target_outside flats decisions are userdata (Go place) after leave first answer afters leaves met e =
      rw (
        first_append (at_or flats place no_entries met leave) (leave met),
        leaves met,
        e,
        (are place).outside met leave answer leaves e,
      ) refl

  -- and for those as its target says
  target_inside : (flats : List (Flat B)) (decisions : List (Option ℕ)) → AreFlat flats decisions →
      (userdata : ℕ) (target : Target) (after leave : B → List (Entry B)) (decision : Option ℕ) (answer : ℕ) →
      IsLeave after (answer_or decision answer) → IsLeave leave answer →
      (met : B) → holds met ≡ true →
      answer_or (first_answer holds (target_flat flats userdata target after leave met)) (answer_or decision answer)
      ≡ answer_or (target_answers decisions userdata target decision) answer
  target_inside flats decisions are userdata Decide after leave decision answer afters leaves met e = rw e refl
  target_inside flats decisions are userdata Return after leave decision answer afters leaves met e =
      rw (leaves met, e) refl
  target_inside flats decisions are userdata (Jump place) after leave decision answer afters leaves met e =
      (are place).inside met after (answer_or decision answer) afters e
      ∙ sym (answer_or_twice (at_or decisions place None) decision answer)
  target_inside flats decisions are userdata (Go place) after leave decision answer afters leaves met e =
      rw (
        first_append (at_or flats place no_entries met leave) (leave met),
        leaves met,
        e,
        or_some (first_answer holds (at_or flats place no_entries met leave)) answer,
      )
      ((are place).inside met leave answer leaves e)

  -- what is left out is answered for by what goes on after the rule
  parts_first : (after : B → List (Entry B)) (answer : ℕ) → IsLeave after answer → (parts : List B)
      (rest : List (Entry B)) →
      first_answer holds (parts_flat after parts rest)
      ≡ cond (list_any holds parts) (Some answer) (first_answer holds rest)
  parts_first after answer afters [] rest = refl
  parts_first after answer afters (part ∷ parts) rest =
      parts_first after answer afters parts (after part ++ rest)
      ∙ rw (first_append (after part) rest, afters part) (elim (cases_Bool (holds part)) [
        | inl e ↦ rw e (same_answer (list_any holds parts) (Some answer))
        | inr e ↦ rw e refl
      ])

  module _ (meet : B → B → Option B) (is_meet : IsMeet holds meet) where
    -- a packet is in what a box shares with some others if it is in the box, and in one of them
    shared_any : (met : B) (boxes : List B) →
        list_any holds (shared meet met boxes) ≡ (holds met && list_any holds boxes)
    shared_any met [] = sym (and_false (holds met))
    shared_any met (box ∷ boxes) =
        before (meet met box)
        ∙ rw (is_meet met box, shared_any met boxes) (sym (and_or (holds met) (holds box) (list_any holds boxes)))
      where
        before : (m : Option B) → list_any holds (met_before m (shared meet met boxes))
            ≡ (holds_in holds m || list_any holds (shared meet met boxes))
        before None = refl
        before (Some part) = refl

    -- a rule and another box: no packets but those of both
    met_outside : (flats : List (Flat B)) (decisions : List (Option ℕ)) → AreFlat flats decisions →
        (rule : ListRule B) (after leave : B → List (Entry B)) (first answer : ℕ) → IsLeave after first →
        IsLeave leave answer →
        (met : Option B) → holds_in holds met ≡ false →
        first_answer holds (met_flat meet flats rule after leave met) ≡ None
    met_outside flats decisions are rule after leave first answer afters leaves None e = refl
    met_outside flats decisions are rule after leave first answer afters leaves (Some met) e =
        parts_first after first afters (shared meet met rule.but)
        (target_flat flats rule.userdata rule.target after leave met)
        ∙ rw (shared_any met rule.but, e)
        (target_outside flats decisions are rule.userdata rule.target after leave first answer afters leaves met e)

    -- and those as the rule answers
    met_inside : (flats : List (Flat B)) (decisions : List (Option ℕ)) → AreFlat flats decisions →
        (rule : ListRule B) (after leave : B → List (Entry B)) (decision : Option ℕ) (answer : ℕ) →
        IsLeave after (answer_or decision answer) → IsLeave leave answer →
        (met : Option B) → holds_in holds met ≡ true →
        answer_or (first_answer holds (met_flat meet flats rule after leave met)) (answer_or decision answer)
        ≡ answer_or (cond (not (list_any holds rule.but)) (target_answers decisions rule.userdata rule.target decision)
        decision) answer
    met_inside flats decisions are rule after leave decision answer afters leaves None e = absurd (cc)
    met_inside flats decisions are rule after leave decision answer afters leaves (Some met) e =
        rw (
          parts_first after (answer_or decision answer) afters (shared meet met rule.but)
              (target_flat flats rule.userdata rule.target after leave met),
          shared_any met rule.but,
          e,
        )
        (elim (cases_Bool (list_any holds rule.but)) [
          | inl f ↦ rw f refl
          | inr f ↦ rw f (target_inside flats decisions are rule.userdata rule.target after leave decision answer afters
              leaves met e)
        ])

    -- some rules
    rules_are_flat : (flats : List (Flat B)) (decisions : List (Option ℕ)) → AreFlat flats decisions →
        (rules : List (ListRule B)) → IsFlat (rules_flat meet flats rules) (rules_answer holds decisions rules)
    rules_are_flat flats decisions are [] =
        record { inside = λ b leave answer l h. refl; outside = λ b leave answer l h. refl }
    rules_are_flat flats decisions are (rule ∷ rules) =
        let rest = rules_are_flat flats decisions are rules in
        let decision : Option ℕ = rules_answer holds decisions rules in
        record {
          inside = λ b leave answer leaves e.
              let after : B → List (Entry B) = λ met. rules_flat meet flats rules met leave ++ leave met in
              let afters = leaves_after (rules_flat meet flats rules) decision leave answer rest leaves in
              let here : List (Entry B) = met_flat meet flats rule after leave (meet b rule.inside) in
              let split : answer_or (first_answer holds (here ++ rules_flat meet flats rules b leave)) answer
              ≡ answer_or (first_answer holds here) (answer_or decision answer) =
              rw (
                first_append here (rules_flat meet flats rules b leave),
                answer_or_twice (first_answer holds here) (first_answer holds (rules_flat meet flats rules b leave))
                    answer,
                rest.inside b leave answer leaves e,
              ) refl in
              split ∙ elim (cases_Bool (holds rule.inside)) [
                | inl r ↦ rw r (met_inside flats decisions are rule after leave decision answer
                    afters leaves (meet b rule.inside) (rw (is_meet b rule.inside, e, r) refl))
                | inr r ↦ rw (
                  r,
                  met_outside flats decisions are rule after leave
                      (answer_or decision answer) answer afters leaves (meet b rule.inside)
                      (rw (is_meet b rule.inside, e, r) refl),
                ) refl
              ];
          outside = λ b leave answer leaves e.
              let after : B → List (Entry B) = λ met. rules_flat meet flats rules met leave ++ leave met in
              let afters = leaves_after (rules_flat meet flats rules) decision leave answer rest leaves in
              let here : List (Entry B) = met_flat meet flats rule after leave (meet b rule.inside) in
              rw (
                first_append here (rules_flat meet flats rules b leave),
                met_outside flats decisions are rule after leave (answer_or decision answer) answer
                    afters leaves (meet b rule.inside) (rw (is_meet b rule.inside, e) refl),
                rest.outside b leave answer leaves e,
              ) refl;
        }

    -- every chain of a list, by the chains that one jump more leads to
    maps_are_flat : (flats : List (Flat B)) (decisions : List (Option ℕ)) → AreFlat flats decisions →
        (chains : List (List (ListRule B))) →
        AreFlat (map (rules_flat meet flats) chains) (map (rules_answer holds decisions) chains)
    maps_are_flat flats decisions are [] place = no_entries_flat
    maps_are_flat flats decisions are (chain ∷ chains) zero = rules_are_flat flats decisions are chain
    maps_are_flat flats decisions are (chain ∷ chains) (suc place) = maps_are_flat flats decisions are chains place

    -- and so at each depth
    chains_are_flat : (depth : ℕ) (chains : List (List (ListRule B))) →
        AreFlat (chains_flat meet depth chains) (chains_answer holds depth chains)
    chains_are_flat zero chains = λ place. no_entries_flat
    chains_are_flat (suc depth) chains =
        maps_are_flat (chains_flat meet depth chains) (chains_answer holds depth chains) (chains_are_flat depth chains)
        chains

    -- some rules, by the chains that their jumps lead to
    pub rest_is_flat : (depth : ℕ) (chains : List (List (ListRule B))) (rules : List (ListRule B)) →
        IsFlat (rules_flat meet (chains_flat meet depth chains) rules)
        (rules_answer holds (chains_answer holds depth chains) rules)
    rest_is_flat depth chains rules =
        rules_are_flat (chains_flat meet depth chains) (chains_answer holds depth chains) (chains_are_flat depth chains)
        rules

-- the first entry that a packet is in answers as the chains do
pub flat_list_answers : {B : Type 0} → TheFlatListAnswers B
flat_list_answers {B} holds meet is_meet depth chains place policy whole e =
    let leaves : (b : B) → first_answer holds (policy_entry policy b) ≡ cond (holds b) (Some policy) None = λ b. refl in
    let chain : Flat B = at_or (chains_flat meet depth chains) place no_entries in
    rw (first_append holds (chain whole (policy_entry policy)) (policy_entry policy whole), e)
    (or_some (first_answer holds (chain whole (policy_entry policy))) policy
    ∙ ap (λ a. Some a)
    ((chains_are_flat holds meet is_meet depth chains place).inside whole (policy_entry policy) policy leaves e))
