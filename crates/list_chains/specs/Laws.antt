-- The law of the rules that chains are turned into, over the definitions alone.
use Rattle.std.specs.Prelude.{◌≡◌, ℕ, List, true, None, Ok, nat_lt}
use Rattle.std.specs.List.{list_all}
use Rattle.std.specs.Int.{bit_at}
use Rattle.field_defs.specs.declared.field.FieldDef.{FieldDef}
use Rattle.rule_set.specs.Rule.{RuleView}
use Rattle.rule_set.specs.Winner.{verdict}
use Rattle.table_sizes.specs.Sizes.{max_rules}
use Rattle.list_chains.specs.Spans.{in_box, whole_box}
use Rattle.list_chains.specs.Chains.{decides}
use Rattle.list_chains.specs.Tasks.{Chains}
use Rattle.list_chains.specs.Ranked.{every_category}
use Rattle.list_chains.specs.Made.{made, first_tasks}

-- Of the rules that are made of a chain, the winner of each key has the answer of the chains as its
-- userdata, in each category.
abbrev pub TheRulesAnswerAsTheChains : Type 0
TheRulesAnswerAsTheChains =
    (layout : List FieldDef) (chains : Chains) (depth start policy steps : ℕ)
    (rules : List RuleView) (key : List ℕ) (category : ℕ) →
    list_all (λ byte. nat_lt byte 256) key ≡ true → bit_at every_category category ≡ 1 →
    made layout chains policy steps max_rules None (first_tasks depth start (whole_box layout))
    ≡ Ok rules →
    verdict layout rules key category
    ≡ decides (λ box. in_box layout box key) depth chains start policy
