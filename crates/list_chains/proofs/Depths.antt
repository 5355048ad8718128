-- How deep jumps lead, rules of several boxes, and the numbers beside a span.
use Rattle.std.proofs.Common.{◌≡◌, ℕ, zero, suc, ◌+◌, ◌-◌, List, [], ◌∷◌, ◌++◌, map, cond, Bool, true, false, not, ◌&&◌}
use Rattle.std.proofs.Common.{Option, Some, None, refl, sym, ap, ◌∙◌, inl, inr, arith}
use Rattle.std.specs.Option.{option_map_or}
use Rattle.std.specs.List.{list_all, list_any}
use Rattle.std.proofs.Math.Dec.{ltb}
use Rattle.std.proofs.lemmas.Bool.{cases_Bool, and_parts}
use Rattle.std.proofs.lemmas.Bool.Decides.{leb_tells}
use Rattle.list_chains.specs.declared.chain.Target.{Target}
use Rattle.list_chains.specs.declared.chain.Target.TheVariants.{Decide, Return, Jump, Go}
use Rattle.list_chains.specs.Chains.{ListRule, at_or, or_answer, target_answers, rules_answer, chains_answer}
use Rattle.list_chains.specs.Jumps.{led_to, leads_well, shallow}
use Rattle.list_chains.specs.DepthLaws.{DepthsAnswerAlike, each_box, ManyBoxesAreOneRule, others, OthersAreTheOthers}

module _ {B : Type 0} (holds : B → Bool) where
  -- the answer of the chain of a place
  answer_at : (decisions : List (Option ℕ)) (cs : List (List (ListRule B))) (place : ℕ) →
      at_or (map (rules_answer holds decisions) cs) place None ≡ rules_answer holds decisions (at_or cs place [])
  answer_at decisions [] place = refl
  answer_at decisions (c ∷ cs) zero = refl
  answer_at decisions (c ∷ cs) (suc place) = answer_at decisions cs place

  -- the mark of the chain of a place
  mark_at : (test : List (ListRule B) → Bool) (cs : List (List (ListRule B))) (place : ℕ) →
      at_or (map test cs) place false ≡ true → test (at_or cs place []) ≡ true
  mark_at test [] place e = absurd (cc)
  mark_at test (c ∷ cs) zero e = e
  mark_at test (c ∷ cs) (suc place) e = mark_at test cs place e

  -- chains that answer alike at each marked place
  abbrev AlikeWhere : List Bool → List (Option ℕ) → List (Option ℕ) → Type 0
  AlikeWhere marks ones others = (place : ℕ) → at_or marks place false ≡ true →
      at_or ones place None ≡ at_or others place None

  -- a target that leads to a marked chain
  targets_alike : (marks : List Bool) (ones others : List (Option ℕ)) → AlikeWhere marks ones others →
      (userdata : ℕ) (target : Target) (after : Option ℕ) →
      option_map_or (λ place. at_or marks place false) (led_to target) true ≡ true →
      target_answers ones userdata target after ≡ target_answers others userdata target after
  targets_alike marks ones others same userdata Decide after e = refl
  targets_alike marks ones others same userdata Return after e = refl
  targets_alike marks ones others same userdata (Jump place) after e = ap (λ d. or_answer d after) (same place e)
  targets_alike marks ones others same userdata (Go place) after e = same place e

  -- rules that lead to marked chains
  rules_alike : (marks : List Bool) (ones others : List (Option ℕ)) → AlikeWhere marks ones others →
      (rules : List (ListRule B)) → list_all (leads_well marks) rules ≡ true →
      rules_answer holds ones rules ≡ rules_answer holds others rules
  rules_alike marks ones others same [] e = refl
  rules_alike marks ones others same (rule ∷ rules) e =
      let parts = and_parts (leads_well marks rule) (list_all (leads_well marks) rules) e in
      rw (
        rules_alike marks ones others same rules parts.1,
        targets_alike marks ones others same rule.userdata rule.target (rules_answer holds others rules) parts.0,
      ) refl

  -- each chain
  depths_alike : (chains : List (List (ListRule B))) (depth place : ℕ) →
      at_or (shallow depth chains) place false ≡ true →
      at_or (chains_answer holds (suc depth) chains) place None ≡ at_or (chains_answer holds depth chains) place None
  depths_alike chains zero place e = absurd (cc)
  depths_alike chains (suc depth) place e =
      answer_at (chains_answer holds (suc depth) chains) chains place
      ∙ rules_alike (shallow depth chains) (chains_answer holds (suc depth) chains) (chains_answer holds depth chains)
      (depths_alike chains depth) (at_or chains place [])
      (mark_at (list_all (leads_well (shallow depth chains))) chains place e)
      ∙ sym (answer_at (chains_answer holds depth chains) chains place)

  -- an answer that is there stays
  answer_again : (d after : Option ℕ) → or_answer d (or_answer d after) ≡ or_answer d after
  answer_again None after = refl
  answer_again (Some answer) after = refl

  -- a target after itself
  target_again : (decisions : List (Option ℕ)) (userdata : ℕ) (target : Target) (after : Option ℕ) →
      target_answers decisions userdata target (target_answers decisions userdata target after)
      ≡ target_answers decisions userdata target after
  target_again decisions userdata Decide after = refl
  target_again decisions userdata Return after = refl
  target_again decisions userdata (Jump place) after = answer_again (at_or decisions place None) after
  target_again decisions userdata (Go place) after = refl

  -- rules that leave out nothing of a packet
  many_boxes : (decisions : List (Option ℕ)) (userdata : ℕ) (boxes but : List B) (target : Target)
      (rules : List (ListRule B)) →
      rules_answer holds decisions (each_box userdata boxes but target ++ rules)
      ≡ cond (list_any holds boxes && not (list_any holds but))
      (target_answers decisions userdata target (rules_answer holds decisions rules))
      (rules_answer holds decisions rules)
  many_boxes decisions userdata [] but target rules = refl
  many_boxes decisions userdata (box ∷ boxes) but target rules =
      let rest = many_boxes decisions userdata boxes but target rules in
      let after = rules_answer holds decisions rules in
      elim (cases_Bool (list_any holds but)) [
        | inl out ↦ elim (cases_Bool (holds box)) [
          | inl e ↦ rw (e, out) (rest ∙ rw out (elim (cases_Bool (list_any holds boxes)) [
            | inl f ↦ rw f refl
            | inr f ↦ rw f refl
          ]))
          | inr e ↦ rw (e, out) (rest ∙ rw out (elim (cases_Bool (list_any holds boxes)) [
            | inl f ↦ rw f refl
            | inr f ↦ rw f refl
          ]))
        ]
        | inr kept ↦ elim (cases_Bool (holds box)) [
          | inl e ↦ elim (cases_Bool (list_any holds boxes)) [
            | inl f ↦ rw (e, kept, rest, kept, f) (target_again decisions userdata target after)
            | inr f ↦ rw (e, kept, rest, kept, f) refl
          ]
          | inr e ↦ rw (e, rest) refl
        ]
      ]

-- one more depth
pub depths_answer_alike : {B : Type 0} → DepthsAnswerAlike B
depths_answer_alike {B} holds chains depth place e = depths_alike holds chains depth place e

-- several boxes
pub many_boxes_are_one_rule : {B : Type 0} → ManyBoxesAreOneRule B
many_boxes_are_one_rule {B} holds chains userdata boxes but target rules =
    many_boxes holds chains userdata boxes but target rules

-- the numbers beside a span
pub others_are_the_others : OthersAreTheOthers
others_are_the_others greatest span x small = elim (cases_Bool (ltb 0 span.low)) [
  | inl e ↦ elim (cases_Bool (ltb span.high greatest)) [
    | inl f ↦ rw (e, f) (grind (
      arith,
      leb_tells 1 span.low,
      leb_tells (suc span.high) greatest,
      leb_tells 0 x,
      leb_tells x (span.low - 1),
      leb_tells (span.high + 1) x,
      leb_tells x greatest,
      leb_tells span.low x,
      leb_tells x span.high,
      e,
      f,
      small,
    ))
    | inr f ↦ rw (e, f) (grind (
      arith,
      leb_tells 1 span.low,
      leb_tells (suc span.high) greatest,
      leb_tells 0 x,
      leb_tells x (span.low - 1),
      leb_tells span.low x,
      leb_tells x span.high,
      e,
      f,
      small,
    ))
  ]
  | inr e ↦ elim (cases_Bool (ltb span.high greatest)) [
    | inl f ↦ rw (e, f) (grind (
      arith,
      leb_tells 1 span.low,
      leb_tells (suc span.high) greatest,
      leb_tells (span.high + 1) x,
      leb_tells x greatest,
      leb_tells span.low x,
      leb_tells x span.high,
      e,
      f,
      small,
    ))
    | inr f ↦ rw (e, f) (grind (
      arith,
      leb_tells 1 span.low,
      leb_tells (suc span.high) greatest,
      leb_tells span.low x,
      leb_tells x span.high,
      e,
      f,
      small,
    ))
  ]
]
