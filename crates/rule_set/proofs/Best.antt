-- The winner so far, as one more rule comes to the end of a list.
use Rattle.std.proofs.Common.{◌≡◌, ℕ, List, [], ◌∷◌, ◌++◌, filter, Bool, true, false, IsTrue, not, ◌&&◌, Option, Some}
use Rattle.std.proofs.Common.{None, refl, sym, ap, ◌∙◌, inl, inr, zero-add}
use Rattle.std.specs.List.{find, list_all}
use Rattle.std.specs.Option.{MatchOption, option_map, option_map_or}
use Rattle.std.specs.Int.Signed.{le_z}
use Rattle.std.proofs.lemmas.Bool.{cases_Bool, and_parts, and_from, and_left, and_right, and_cases, not-true, not-false}
use Rattle.std.proofs.lemmas.Bool.{not_from_false, false_from_ne_true, both_ways, false≢true}
use Rattle.std.proofs.lemmas.List.{append-nil}
use Rattle.std.proofs.lemmas.List.Elements.{filter-append}
use Rattle.std.proofs.lemmas.List.Folds.{list_all-append}
use Rattle.std.proofs.lemmas.Option.{MatchOption-at_none, MatchOption-at_some}
use Rattle.field_defs.specs.declared.field.FieldDef.{FieldDef}
use Rattle.rule_set.specs.declared.rule.RuleTag.{RuleTag}
use Rattle.rule_set.specs.Rule.{RuleView}
use Rattle.rule_set.specs.Winner.{applies, is_greatest, userdata_at, verdict}
use Rattle.list_lemmas.proofs.First.{find-append_some, find-append_none, find_agree, find_passes, find_among, find_none}
use Rattle.list_lemmas.proofs.First.{position_of_found}
use Rattle.list_lemmas.proofs.Elements.{list_all_weaker}
use Rattle.list_lemmas.proofs.Integers.{le_z_refl, le_z_trans, le_z_total}

-- the rule passes the test, and none of the others has a greater priority
abbrev tops : (RuleView → Bool) → List RuleView → RuleView → Bool
tops test others rule = test rule && is_greatest others rule

-- the first rule that tops all that pass
abbrev pub winning : (RuleView → Bool) → List RuleView → Option RuleView
winning test rules = find (tops test (filter test rules)) rules

-- the tag is that of the winner, and there is no tag where no rule passes
abbrev pub IsBest : (RuleView → Bool) → List RuleView → Option RuleTag → Type 0
IsBest test rules None = filter test rules ≡ []
IsBest test rules (Some tag) = option_map (λ (rule : RuleView). rule.tag) (winning test rules) ≡ Some tag

-- the rule of a tag that was found
rule_of_tag : (found : Option RuleView) (tag : RuleTag) → option_map (λ (rule : RuleView). rule.tag) found ≡ Some tag →
    (rule : RuleView) × (found ≡ Some rule) × (rule.tag ≡ tag)
rule_of_tag None tag h = absurd (cc)
rule_of_tag (Some rule) tag h = (rule, refl, cc)

-- one more rule beside those that pass
filter-append_no : (test : RuleView → Bool) (rules : List RuleView) (rule : RuleView) → test rule ≡ false →
    filter test (rules ++ rule ∷ []) ≡ filter test rules
filter-append_no test rules rule fails = filter-append test rules (rule ∷ [])
    ∙ rw fails (append-nil (filter test rules))

-- a rule that passes, at the end of a list, is the last of those that pass
filter-append_yes : (test : RuleView → Bool) (rules : List RuleView) (rule : RuleView) → test rule ≡ true →
    filter test (rules ++ rule ∷ []) ≡ filter test rules ++ rule ∷ []
filter-append_yes test rules rule holds = filter-append test rules (rule ∷ []) ∙ rw holds refl

-- a rule is greatest beside one more where it was and isn't below that one
is_greatest-append : (others : List RuleView) (more rule : RuleView) →
    is_greatest (others ++ more ∷ []) rule ≡ (is_greatest others rule &&
    (le_z more.tag.priority rule.tag.priority && true))
is_greatest-append others more rule = list_all-append
    (λ (other : RuleView). le_z other.tag.priority rule.tag.priority) others (more ∷ [])

-- a rule that doesn't pass changes nothing
pub IsBest-skip : (test : RuleView → Bool) (rules : List RuleView) (rule : RuleView) (best : Option RuleTag) →
    test rule ≡ false → IsBest test rules best → IsBest test (rules ++ rule ∷ []) best
IsBest-skip test rules rule None fails h = filter-append_no test rules rule fails ∙ h
IsBest-skip test rules rule (Some tag) fails h =
    let found = rule_of_tag (winning test rules) tag h in
    ap (option_map (λ (other : RuleView). other.tag))
    (ap (λ others. find (tops test others) (rules ++ rule ∷ [])) (filter-append_no test rules rule fails)
    ∙ find-append_some (tops test (filter test rules)) rules (rule ∷ []) found.0 found.1)
    ∙ ap Some found.2

-- what tops all that pass tops one more that isn't above the winner, and the other way round
tops_beside : (test : RuleView → Bool) (rules : List RuleView) (rule wins : RuleView) → winning test rules ≡ Some wins →
    le_z rule.tag.priority wins.tag.priority ≡ true → (x : RuleView) →
    tops test (filter test rules) x ≡ tops test (filter test rules ++ rule ∷ []) x
tops_beside test rules rule wins found below x =
    let others = filter test rules in
    elim (cases_Bool (tops test others x)) [
      | inl top ↦
          let parts = and_parts (test x) (is_greatest others x) top in
          let wins_applies = (and_parts (test wins) (is_greatest others wins)
          (find_passes (tops test others) rules wins found)).0 in
          let above_winner = find_among (tops test others) test
          (λ (other : RuleView). le_z other.tag.priority x.tag.priority) rules wins found wins_applies parts.1 in
          let above_rule = le_z_trans rule.tag.priority wins.tag.priority x.tag.priority below above_winner in
          top ∙ sym (and_from _ _ parts.0 (is_greatest-append others rule x
          ∙ and_from _ _ parts.1 (and_from _ _ above_rule refl)))
      | inr no_top ↦ elim (and_cases (test x) (is_greatest others x) no_top) [
        | inl fails ↦ no_top ∙ sym (and_left _ _ fails)
        | inr fails ↦ no_top ∙ sym (and_right _ _ (is_greatest-append others rule x ∙ and_left _ _ fails))
      ]
    ]

-- nor does one of at most the best priority
IsBest-keep : (test : RuleView → Bool) (rules : List RuleView) (rule : RuleView) (tag : RuleTag) →
    le_z rule.tag.priority tag.priority ≡ true → IsBest test rules (Some tag) →
    IsBest test (rules ++ rule ∷ []) (Some tag)
IsBest-keep test rules rule tag below h = elim (cases_Bool (test rule)) [
  | inl holds ↦
      let others = filter test rules in
      let found = rule_of_tag (winning test rules) tag h in
      let below_winner : le_z rule.tag.priority found.0.tag.priority ≡ true = rw found.2 below in
      ap (option_map (λ (other : RuleView). other.tag))
      (ap (λ all. find (tops test all) (rules ++ rule ∷ [])) (filter-append_yes test rules rule holds)
      ∙ sym (find_agree (tops test others) (tops test (others ++ rule ∷ []))
      (tops_beside test rules rule found.0 found.1 below_winner) (rules ++ rule ∷ []))
      ∙ find-append_some (tops test others) rules (rule ∷ []) found.0 found.1)
      ∙ ap Some found.2
  | inr fails ↦ IsBest-skip test rules rule (Some tag) fails h
]

-- a rule that passes and is above all others that do wins
winning-append_above : (test : RuleView → Bool) (rules : List RuleView) (rule : RuleView) → test rule ≡ true →
    is_greatest (filter test rules) rule ≡ true →
    list_all (λ (other : RuleView). not (le_z rule.tag.priority other.tag.priority)) (filter test rules) ≡ true →
    winning test (rules ++ rule ∷ []) ≡ Some rule
winning-append_above test rules rule holds above strictly =
    let others = filter test rules in
    let among = others ++ rule ∷ [] in
    let top : tops test among rule ≡ true =
    and_from _ _ holds (is_greatest-append others rule rule
    ∙ and_from _ _ above (and_from _ _ (le_z_refl rule.tag.priority) refl)) in
    ap (λ all. find (tops test all) (rules ++ rule ∷ [])) (filter-append_yes test rules rule holds)
    ∙ find-append_none (tops test among) rules (rule ∷ [])
    (find_none (tops test among) test (λ (other : RuleView). not (le_z rule.tag.priority other.tag.priority)) rules
    strictly
    (λ x passes below. and_right _ _ (is_greatest-append others rule x
    ∙ and_right _ _ (and_left _ _ (not-true _ below))))
    (λ x fails. and_left _ _ fails))
    ∙ rw top refl

-- the first rule that passes is the best so far
IsBest-first : (test : RuleView → Bool) (rules : List RuleView) (rule : RuleView) → test rule ≡ true →
    IsBest test rules None → IsBest test (rules ++ rule ∷ []) (Some rule.tag)
IsBest-first test rules rule holds h =
    ap (option_map (λ (other : RuleView). other.tag))
    (winning-append_above test rules rule holds (rw h refl) (rw h refl))

-- a rule that passes and has a greater priority than the best takes its place
IsBest-take : (test : RuleView → Bool) (rules : List RuleView) (rule : RuleView) (tag : RuleTag) → test rule ≡ true →
    le_z rule.tag.priority tag.priority ≡ false → IsBest test rules (Some tag) →
    IsBest test (rules ++ rule ∷ []) (Some rule.tag)
IsBest-take test rules rule tag holds above h =
    let others = filter test rules in
    let found = rule_of_tag (winning test rules) tag h in
    let wins = found.0 in
    let greatest = (and_parts (test wins) (is_greatest others wins)
    (find_passes (tops test others) rules wins found.1)).1 in
    let not_below : le_z rule.tag.priority wins.tag.priority ≡ false = rw found.2 above in
    ap (option_map (λ (other : RuleView). other.tag))
    (winning-append_above test rules rule holds
    (list_all_weaker (λ (other : RuleView). le_z other.tag.priority wins.tag.priority)
    (λ (other : RuleView). le_z other.tag.priority rule.tag.priority) others
    (λ other k. le_z_trans other.tag.priority wins.tag.priority rule.tag.priority k
    (le_z_total rule.tag.priority wins.tag.priority not_below)) greatest)
    (list_all_weaker (λ (other : RuleView). le_z other.tag.priority wins.tag.priority)
    (λ (other : RuleView). not (le_z rule.tag.priority other.tag.priority)) others
    (λ other k. not_from_false _ (false_from_ne_true _
    (λ t. both_ways _ not_below (le_z_trans rule.tag.priority other.tag.priority wins.tag.priority t k))))
    greatest))

-- a rule that passes and is above the best is the best
pub IsBest-above : (test : RuleView → Bool) (rules : List RuleView) (rule : RuleView) (best : Option RuleTag)
    (above : Bool) → MatchOption best (IsTrue above) (λ other. above ≡ not (le_z rule.tag.priority other.priority)) →
    above ≡ true → test rule ≡ true → IsBest test rules best → IsBest test (rules ++ rule ∷ []) (Some rule.tag)
IsBest-above test rules rule None above says is_above holds h = IsBest-first test rules rule holds h
IsBest-above test rules rule (Some other) above says is_above holds h =
    IsBest-take test rules rule other holds (not-true _ (sym says ∙ is_above)) h

-- a rule that isn't above the best changes nothing
pub IsBest-not_above : (test : RuleView → Bool) (rules : List RuleView) (rule : RuleView) (best : Option RuleTag)
    (above : Bool) → MatchOption best (IsTrue above) (λ other. above ≡ not (le_z rule.tag.priority other.priority)) →
    above ≡ false → IsBest test rules best → IsBest test (rules ++ rule ∷ []) best
IsBest-not_above test rules rule None above says below h = absurd (both_ways above below says)
IsBest-not_above test rules rule (Some other) above says below h =
    IsBest-keep test rules rule other (not-false _ (sym says ∙ below)) h

-- the best tag's userdata is the verdict
pub verdict_of_best : (layout : List FieldDef) (rules : List RuleView) (key : List ℕ) (category : ℕ)
    (best : Option RuleTag) → IsBest (applies layout key category) rules best →
    option_map_or (λ (tag : RuleTag). tag.userdata) best 0 ≡ verdict layout rules key category
verdict_of_best layout rules key category None h =
    let test = applies layout key category in
    let top = tops test (filter test rules) in
    let nothing : find top rules ≡ None = find_none top test (λ _. false) rules (rw h refl)
    (λ x holds never. absurd (false≢true never)) (λ x fails. and_left _ _ fails) in
    sym (ap (userdata_at rules) (MatchOption-at_none _ _ nothing (position_of_found top 0 rules)))
verdict_of_best layout rules key category (Some tag) h =
    let test = applies layout key category in
    let top = tops test (filter test rules) in
    let found = rule_of_tag (winning test rules) tag h in
    let place = MatchOption-at_some _ _ found.0 found.1 (position_of_found top 0 rules) in
    sym (ap (userdata_at rules) (place.1 ∙ ap Some (zero-add place.0))
    ∙ ap (λ rule. option_map_or (λ (other : RuleView). other.tag.userdata) rule 0) place.2
    ∙ ap (λ (other : RuleTag). other.userdata) found.2)
