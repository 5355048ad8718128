-- An answer of any one oracle is among those where each question is asked anew.
use Rattle.std.proofs.Common.{◌≡◌, ℕ, zero, suc, List, [], ◌∷◌, map, Bool, true, false, not, ◌||◌}
use Rattle.std.proofs.Common.{Option, Some, None, refl, sym, ap, ◌∙◌, inl, inr}
use Rattle.std.specs.List.{list_any, list_all}
use Rattle.std.proofs.lemmas.Bool.{cases_Bool, and_parts, and_from}
use Rattle.list_chains.specs.declared.chain.Target.{Target}
use Rattle.list_chains.specs.declared.chain.Target.TheVariants.{Decide, Return, Jump, Go}
use Rattle.list_chains.specs.Chains.{ListRule, at_or, or_answer, answer_or, catches, target_answers, rules_answer}
use Rattle.list_chains.specs.Chains.{chains_answer}
use Rattle.chain_conditions.specs.Conditions.{Conditional, holds_by, is_none}
use Rattle.chain_conditions.specs.Laws.{ConditionalChains}
use Rattle.chain_conditions.specs.Anew.{holds_surely, may_catch, may_miss, target_always, rules_always, chains_always}
use Rattle.chain_conditions.specs.Anew.{AlwaysBoundsOracles}

-- an answer that is there, or one of two others in turn
answer_or_twice : (a b : Option ℕ) (c : ℕ) → answer_or (or_answer a b) c ≡ answer_or a (answer_or b c)
answer_or_twice None b c = refl
answer_or_twice (Some answer) b c = refl

-- what is asked for is given
given : (a b : Bool) → (not a || b) ≡ true → a ≡ true → b ≡ true
given true b e f = e
given false b e f = absurd (cc)

-- the other way round
not_true : (b : Bool) → not b ≡ true → b ≡ false
not_true true e = absurd (cc)
not_true false e = refl

module _ {B : Type 0} (test : ℕ → Bool) (holds : B → Bool) (oracle : ℕ → Bool) where
  -- a packet is in a box by the oracle if it is so for sure
  by_sure : (it : Conditional B) → holds_surely holds it ≡ true → holds_by holds oracle it ≡ true
  by_sure it e =
      let parts = and_parts (holds it.box) (is_none it.conditions) e in
      and_from (holds it.box) (list_all oracle it.conditions) parts.0 (none it.conditions parts.1)
    where
      none : (conditions : List ℕ) → is_none conditions ≡ true → list_all oracle conditions ≡ true
      none [] s = refl
      none (x ∷ xs) s = absurd (cc)

  -- so of some boxes
  none_sure : (boxes : List (Conditional B)) → list_any (holds_by holds oracle) boxes ≡ false →
      list_any (holds_surely holds) boxes ≡ false
  none_sure [] e = refl
  none_sure (x ∷ xs) e = elim (cases_Bool (holds_surely holds x)) [
    | inl s ↦ absurd (let by = by_sure x s in let no : true ≡ false = sym (rw by refl) ∙ e in cc)
    | inr s ↦ elim (cases_Bool (holds_by holds oracle x)) [
      | inl b ↦ absurd (let no : true ≡ false = sym (rw b refl) ∙ e in cc)
      | inr b ↦ rw s (none_sure xs (sym (rw b refl) ∙ e))
    ]
  ]

  -- and in the box without its conditions
  some_box : (boxes : List (Conditional B)) → list_any (holds_by holds oracle) boxes ≡ true →
      list_any (λ (it : Conditional B). holds it.box) boxes ≡ true
  some_box [] e = absurd (cc)
  some_box (x ∷ xs) e = elim (cases_Bool (holds x.box)) [
    | inl h ↦ rw h refl
    | inr h ↦ rw h (some_box xs (sym (rw h refl) ∙ e))
  ]

  -- what is caught by the oracle may be caught
  caught : (rule : ListRule (Conditional B)) → catches (holds_by holds oracle) rule ≡ true → may_catch holds rule ≡ true
  caught rule e =
      let parts = and_parts (holds_by holds oracle rule.inside) (not (list_any (holds_by holds oracle) rule.but)) e in
      let box = (and_parts (holds rule.inside.box) (list_all oracle rule.inside.conditions) parts.0).0 in
      and_from (holds rule.inside.box) (not (list_any (holds_surely holds) rule.but)) box
      (rw (none_sure rule.but (not_true _ parts.1)) refl)

  -- and what is missed may be missed
  missed : (rule : ListRule (Conditional B)) → catches (holds_by holds oracle) rule ≡ false → may_miss holds rule ≡ true
  missed rule e = elim (cases_Bool (holds_surely holds rule.inside)) [
    | inl s ↦ elim (cases_Bool (list_any (holds_by holds oracle) rule.but)) [
      | inl b ↦ rw (s, some_box rule.but b) refl
      | inr b ↦ absurd (
          let all : catches (holds_by holds oracle) rule ≡ true =
          and_from (holds_by holds oracle rule.inside) (not (list_any (holds_by holds oracle) rule.but))
          (by_sure rule.inside s) (rw b refl) in cc
          )
    ]
    | inr s ↦ rw s refl
  ]

  -- where every answer passes, that of the oracle does
  abbrev IsBound : (Bool → Bool) → Option ℕ → Type 0
  IsBound every answer = (leave : Bool) (left : ℕ) → (leave ≡ true → test left ≡ true) → every leave ≡ true →
      test (answer_or answer left) ≡ true

  -- each of some chains
  abbrev AreBounds : List (Bool → Bool) → List (Option ℕ) → Type 0
  AreBounds chains answers = (place : ℕ) → IsBound (at_or chains place (λ b. b)) (at_or answers place None)

  module _ (chains : List (Bool → Bool)) (answers : List (Option ℕ)) (are : AreBounds chains answers) where
    -- a target
    target_bound : (userdata : ℕ) (target : Target) (after : Bool) (rest : Option ℕ) (leave : Bool) (left : ℕ) →
        (after ≡ true → test (answer_or rest left) ≡ true) → (leave ≡ true → test left ≡ true) →
        target_always test chains userdata target after leave ≡ true →
        test (answer_or (target_answers answers userdata target rest) left) ≡ true
    target_bound userdata Decide after rest leave left a l p = p
    target_bound userdata Return after rest leave left a l p = l p
    target_bound userdata (Jump place) after rest leave left a l p =
        ap test (answer_or_twice (at_or answers place None) rest left) ∙ are place after (answer_or rest left) a p
    target_bound userdata (Go place) after rest leave left a l p = are place leave left l p

    -- some rules
    rules_bound : (rules : List (ListRule (Conditional B))) →
        IsBound (rules_always test holds chains rules) (rules_answer (holds_by holds oracle) answers rules)
    rules_bound [] leave left l p = l p
    rules_bound (rule ∷ rules) leave left l p =
        let next : Bool = rules_always test holds chains rules leave in
        let rest : Option ℕ = rules_answer (holds_by holds oracle) answers rules in
        let on : next ≡ true → test (answer_or rest left) ≡ true = rules_bound rules leave left l in
        let parts = and_parts (not (may_catch holds rule) || target_always test chains rule.userdata rule.target next
        leave)
        (not (may_miss holds rule) || next) p in
        elim (cases_Bool (catches (holds_by holds oracle) rule)) [
          | inl e ↦ rw e (target_bound rule.userdata rule.target next rest leave left on l
              (given (may_catch holds rule) _ parts.0 (caught rule e)))
          | inr e ↦ rw e (on (given (may_miss holds rule) next parts.1 (missed rule e)))
        ]

  -- every chain
  maps_bound : (every : List (Bool → Bool)) (answers : List (Option ℕ)) → AreBounds every answers →
      (chains : ConditionalChains B) →
      AreBounds (map (rules_always test holds every) chains) (map (rules_answer (holds_by holds oracle) answers) chains)
  maps_bound every answers are [] place = λ leave left l p. l p
  maps_bound every answers are (chain ∷ chains) zero = rules_bound every answers are chain
  maps_bound every answers are (chain ∷ chains) (suc place) = maps_bound every answers are chains place

  -- at each depth
  chains_bound : (depth : ℕ) (chains : ConditionalChains B) →
      AreBounds (chains_always test holds depth chains) (chains_answer (holds_by holds oracle) depth chains)
  chains_bound zero chains = λ place leave left l p. l p
  chains_bound (suc depth) chains =
      maps_bound (chains_always test holds depth chains) (chains_answer (holds_by holds oracle) depth chains)
      (chains_bound depth chains) chains

-- and so of the chain with its policy
pub always_bounds_oracles : {B : Type 0} → AlwaysBoundsOracles B
always_bounds_oracles {B} test holds depth chains place policy e oracle =
    chains_bound test holds oracle depth chains place (test policy) policy (λ p. p) e
