-- Laws of the rules that chains with conditions are turned into, by what the call gives.
use Rattle.std.specs.Prelude.{◌≡◌, ◌<◌, ℕ, List, map, length, Bool, true, false, not, nat_lt}
use Rattle.std.specs.List.{list_all}
use Rattle.field_defs.specs.declared.field.FieldDef.{FieldDef}
use Rattle.rule_set.specs.Limits.{max_categories}
use Rattle.rule_set.specs.Rule.{RuleSetView}
use Rattle.rule_set.specs.Winner.{verdict}
use Rattle.list_chains.specs.declared.span.Span.{Span}
use Rattle.list_chains.specs.Spans.{in_box}
use Rattle.list_chains.specs.Chains.{decides}
use Rattle.list_chains.specs.Tasks.{Chains}
use Rattle.chain_conditions.specs.declared.kind.AnswerKind.{AnswerKind}
use Rattle.chain_conditions.specs.Anew.{always}
use Rattle.chain_conditions.specs.Conditions.{surely}
use Rattle.chain_conditions.specs.Kinds.{is_of, kind_of}
use Rattle.chain_conditions.specs.Laws.{ConditionalChains, decides_by}
use Rattle.chain_conditions.specs.Marked.{over_boxes}
use Rattle.chain_conditions.specs.Turned.{AnswersUnderConditions}

-- the key is in a box
abbrev pub held : List FieldDef → List ℕ → List Span → Bool
held layout key box = in_box layout box key

-- a key of bytes
abbrev pub AreBytes : List ℕ → Type 0
AreBytes key = list_all (λ byte. nat_lt byte 256) key ≡ true

-- Where an oracle's answer is of a category's kind, so is that of the category's winner.
abbrev pub EachKindIsBounded : Type 0
EachKindIsBounded =
    (layout : List FieldDef) (chains : ConditionalChains (List Span)) (start policy : ℕ)
    (kinds : List AnswerKind) (set : RuleSetView) →
    AnswersUnderConditions layout chains start policy kinds set →
    (key : List ℕ) (category : ℕ) → AreBytes key → category < max_categories →
    (oracle : ℕ → Bool) →
    is_of kinds category (decides_by (held layout key) oracle (length chains) chains start policy)
    ≡ true →
    is_of kinds category (verdict layout set.rules key category) ≡ true

-- Where the winner of a kind's category isn't of that kind, no answer is, even if each question is
-- asked anew.
abbrev pub OtherKindsNeverCome : Type 0
OtherKindsNeverCome =
    (layout : List FieldDef) (chains : ConditionalChains (List Span)) (start policy : ℕ)
    (kinds : List AnswerKind) (set : RuleSetView) →
    AnswersUnderConditions layout chains start policy kinds set →
    (key : List ℕ) (category : ℕ) → AreBytes key → category < max_categories →
    is_of kinds category (verdict layout set.rules key category) ≡ false →
    always (λ answer. not (is_of kinds category answer)) (held layout key) (length chains) chains
    start policy ≡ true

-- Where the winners of all three kinds' categories are of one kind, so is each oracle's answer.
abbrev pub OneKindIsCertain : Type 0
OneKindIsCertain =
    (layout : List FieldDef) (chains : ConditionalChains (List Span)) (start policy : ℕ)
    (kinds : List AnswerKind) (set : RuleSetView) →
    AnswersUnderConditions layout chains start policy kinds set →
    (key : List ℕ) (kind : AnswerKind) → AreBytes key →
    kind_of kinds (verdict layout set.rules key 0) ≡ kind →
    kind_of kinds (verdict layout set.rules key 1) ≡ kind →
    kind_of kinds (verdict layout set.rules key 2) ≡ kind →
    (oracle : ℕ → Bool) →
    kind_of kinds (decides_by (held layout key) oracle (length chains) chains start policy) ≡ kind

-- The winner of category 3 is the answer if no condition holds.
abbrev pub CategoryThreeIsSure : Type 0
CategoryThreeIsSure =
    (layout : List FieldDef) (chains : ConditionalChains (List Span)) (start policy : ℕ)
    (kinds : List AnswerKind) (set : RuleSetView) →
    AnswersUnderConditions layout chains start policy kinds set →
    (key : List ℕ) → AreBytes key →
    verdict layout set.rules key 3
    ≡ decides_by (held layout key) (λ condition. false) (length chains) chains start policy

-- chains without conditions
abbrev pub sure_chains : Chains → ConditionalChains (List Span)
sure_chains chains = map (map (over_boxes surely)) chains

-- Of chains without conditions each category has the verdict of the chains.
abbrev pub SureChainsAnswerAlike : Type 0
SureChainsAnswerAlike =
    (layout : List FieldDef) (chains : Chains) (start policy : ℕ)
    (kinds : List AnswerKind) (set : RuleSetView) →
    AnswersUnderConditions layout (sure_chains chains) start policy kinds set →
    (key : List ℕ) (category : ℕ) → AreBytes key → category < max_categories →
    verdict layout set.rules key category
    ≡ decides (held layout key) (length chains) chains start policy
