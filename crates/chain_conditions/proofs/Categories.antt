-- What the categories of the rules say of the chains' answers.
use Rattle.std.proofs.Common.{◌≡◌, ℕ, List, [], ◌∷◌, map, length, ◌<◌, Bool, true, false, not, if◌then◌else◌}
use Rattle.std.proofs.Common.{Option, Some, None, refl, sym, ap, ◌∙◌, inl, inr, arith, eqb}
use Rattle.std.specs.Int.{bit_at}
use Rattle.std.specs.Option.{option_map}
use Rattle.std.proofs.lemmas.Bool.{cases_Bool}
use Rattle.std.proofs.lemmas.List.{length-map}
use Rattle.list_chains.specs.declared.span.Span.{Span}
use Rattle.list_chains.specs.Spans.{box_meet, whole_box}
use Rattle.rule_set.specs.Limits.{max_categories}
use Rattle.rule_set.specs.Winner.{verdict}
use Rattle.list_chains.specs.Chains.{answer_or, decides}
use Rattle.list_chains.specs.Flat.{Entry, first_answer, flattened}
use Rattle.list_chains.proofs.Offered.{box_meet_is_meet}
use Rattle.list_chains.proofs.Offered.{in_whole}
use Rattle.list_chains.proofs.Offered.{flat_list_answers}
use Rattle.chain_conditions.specs.declared.kind.AnswerKind.{AnswerKind}
use Rattle.chain_conditions.specs.declared.kind.AnswerKind.TheVariants.{Refuses, Accepts, Elsewhere}
use Rattle.chain_conditions.specs.Conditions.{Conditional, holds_by, under, conditional_meet, surely, category}
use Rattle.chain_conditions.specs.Kinds.{is_of, kind_of, kind_mask}
use Rattle.chain_conditions.specs.Laws.{conditional_list, category_answer, decides_by}
use Rattle.chain_conditions.specs.Marked.{over_boxes, over_box}
use Rattle.chain_conditions.specs.Categories.{held, sure_chains, EachKindIsBounded, OtherKindsNeverCome}
use Rattle.chain_conditions.specs.Categories.{OneKindIsCertain, CategoryThreeIsSure, SureChainsAnswerAlike}
use Rattle.chain_conditions.proofs.Conditions.{classes_are_bounds, one_list_for_every_oracle}
use Rattle.chain_conditions.proofs.Anew.{passed_always, category_passes}
use Rattle.chain_conditions.proofs.Homs.{KeepsMeet, flat_alike}

-- each kind's category bounds the answers
pub each_kind_is_bounded : EachKindIsBounded
each_kind_is_bounded layout chains start policy kinds set it key number bytes small oracle is =
    ap (is_of kinds number) (it.verdicts key number bytes small)
    ∙ classes_are_bounds (held layout key) box_meet (box_meet_is_meet layout key) (length chains) chains start policy
    (whole_box layout) (in_whole layout key bytes) oracle (is_of kinds number) is

-- twice the other
twice : (b : Bool) → b ≡ not (not b)
twice true = refl
twice false = refl

-- even if each question is asked anew
pub other_kinds_never_come : OtherKindsNeverCome
other_kinds_never_come layout chains start policy kinds set it key number bytes small is =
    let test : ℕ → Bool = is_of kinds number in
    let entries : List (Entry (Conditional (List Span))) =
    conditional_list box_meet (length chains) chains start policy (whole_box layout) in
    passed_always (held layout key) (λ answer. not (test answer)) box_meet (box_meet_is_meet layout key) (length chains)
    chains start policy (whole_box layout) (in_whole layout key bytes)
    (category_passes (held layout key) (λ answer. not (test answer)) entries
    ((λ i. not (test (category_answer (held layout key) (λ answer. sym (twice (test answer)) i) entries)))
    ∙ ap (λ answer. not (test answer)) (sym (it.verdicts key number bytes small))
    ∙ ap not is))

-- the category is that of a kind
abbrev is_kind : ℕ → AnswerKind → Bool
is_kind number kind = eqb (bit_at (kind_mask kind) number) 1

-- which kind that is
of_zero : (kind : AnswerKind) → is_kind 0 kind ≡ true → Refuses ≡ kind
of_zero Refuses e = refl
of_zero Accepts e = absurd (cc)
of_zero Elsewhere e = absurd (cc)

of_one : (kind : AnswerKind) → is_kind 1 kind ≡ true → Accepts ≡ kind
of_one Refuses e = absurd (cc)
of_one Accepts e = refl
of_one Elsewhere e = absurd (cc)

of_two : (kind : AnswerKind) → is_kind 2 kind ≡ true → Elsewhere ≡ kind
of_two Refuses e = absurd (cc)
of_two Accepts e = absurd (cc)
of_two Elsewhere e = refl

-- category 3 is of no kind
of_three : (kind : AnswerKind) → is_kind 3 kind ≡ false
of_three Refuses = refl
of_three Accepts = refl
of_three Elsewhere = refl

-- where all three winners are of one kind
pub one_kind_is_certain : OneKindIsCertain
one_kind_is_certain layout chains start policy kinds set it key kind bytes zero one two oracle =
    let answer : ℕ = decides_by (held layout key) oracle (length chains) chains start policy in
    go (kind_of kinds answer) refl
  where
    bound : (number : ℕ) → number < max_categories → (its : AnswerKind) →
        kind_of kinds (decides_by (held layout key) oracle (length chains) chains start policy) ≡ its →
        is_kind number its ≡ true → kind_of kinds (verdict layout set.rules key number) ≡ kind →
        is_kind number kind ≡ true
    bound number small its e own won =
        ap (is_kind number) (sym won)
        ∙ each_kind_is_bounded layout chains start policy kinds set it key number bytes small oracle
        (ap (is_kind number) e ∙ own)

    go : (its : AnswerKind) →
        kind_of kinds (decides_by (held layout key) oracle (length chains) chains start policy) ≡ its →
        kind_of kinds (decides_by (held layout key) oracle (length chains) chains start policy) ≡ kind
    go Refuses e = e ∙ of_zero kind (bound 0 (omega arith) Refuses e refl zero)
    go Accepts e = e ∙ of_one kind (bound 1 (omega arith) Accepts e refl one)
    go Elsewhere e = e ∙ of_two kind (bound 2 (omega arith) Elsewhere e refl two)

module _ {B : Type 0} (holds : B → Bool) where
  -- no condition holds
  abbrev none : ℕ → Bool
  none condition = false

  -- then an entry holds just if it is sure
  sure_step : (box : B) (conditions : List ℕ) (userdata : ℕ) (rest : List (Entry (Conditional B))) →
      first_answer (holds_by holds none) rest ≡ first_answer holds (category none rest) →
      first_answer (holds_by holds none)
      (record { box = record { box = box; conditions = conditions }; userdata = userdata } ∷ rest)
      ≡ first_answer holds (category none
      (record { box = record { box = box; conditions = conditions }; userdata = userdata } ∷ rest))
  sure_step box [] userdata rest same = elim (cases_Bool (holds box)) [
    | inl h ↦ rw h refl
    | inr h ↦ rw h same
  ]
  sure_step box (c ∷ cs) userdata rest same = elim (cases_Bool (holds box)) [
    | inl h ↦ rw h same
    | inr h ↦ rw h same
  ]

  -- and so the first one that holds is the first sure one
  sure_first : (entries : List (Entry (Conditional B))) →
      first_answer (holds_by holds none) entries ≡ first_answer holds (category none entries)
  sure_first [] = refl
  sure_first (entry ∷ entries) =
      sure_step entry.box.box entry.box.conditions entry.userdata entries (sure_first entries)

  -- of sure entries each category has all
  sure_category : (test : ℕ → Bool) (entries : List (Entry B)) →
      first_answer holds (category test (map (over_box surely) entries)) ≡ first_answer holds entries
  sure_category test [] = refl
  sure_category test (entry ∷ entries) =
      ap (λ (rest : Option ℕ). if holds entry.box then Some entry.userdata else rest) (sure_category test entries)

-- category 3 has the sure entries
pub category_three_is_sure : CategoryThreeIsSure
category_three_is_sure layout chains start policy kinds set it key bytes =
    let whole : List Span = whole_box layout in
    let entries : List (Entry (Conditional (List Span))) =
    conditional_list box_meet (length chains) chains start policy whole in
    it.verdicts key 3 bytes (omega arith)
    ∙ (λ i. category_answer (held layout key) (λ answer. of_three (kind_of kinds answer) i) entries)
    ∙ ap (λ answer. answer_or answer 0) (sym (sure_first (held layout key) entries)
    ∙ one_list_for_every_oracle (held layout key) box_meet (box_meet_is_meet layout key) (length chains) chains start
    policy whole (in_whole layout key bytes) (λ condition. false))

-- without conditions what two boxes have in common has none
sure_under : {B : Type 0} (met : Option B) → under [] met ≡ option_map surely met
sure_under None = refl
sure_under (Some met) = refl

sure_keeps : KeepsMeet surely box_meet (conditional_meet box_meet)
sure_keeps one other = sure_under (box_meet one other)

-- chains without conditions
pub sure_chains_answer_alike : SureChainsAnswerAlike
sure_chains_answer_alike layout chains start policy kinds set it key number bytes small =
    let whole : List Span = whole_box layout in
    let many : length (sure_chains chains) ≡ length chains = length-map chains (map (over_boxes surely)) in
    it.verdicts key number bytes small
    ∙ ap (category_answer (held layout key) (is_of kinds number))
    (flat_alike surely box_meet (conditional_meet box_meet) sure_keeps (length (sure_chains chains)) chains start policy
    whole)
    ∙ ap (λ answer. answer_or answer 0)
    (sure_category (held layout key) (is_of kinds number)
    (flattened box_meet (length (sure_chains chains)) chains start policy whole)
    ∙ flat_list_answers (held layout key) box_meet (box_meet_is_meet layout key) (length (sure_chains chains)) chains
    start policy whole (in_whole layout key bytes))
    ∙ ap (λ n. decides (held layout key) n chains start policy) many
