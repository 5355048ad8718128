-- The tables of an accepted rule file answer as its rules do, where they fit the budget.
use Rattle.std.proofs.Common.{◌≡◌, ℕ, ◌<◌, ◌≤◌, List, Ok, All, arith}
use Rattle.field_defs.specs.Lawful.{IsLayout}
use Rattle.field_defs.specs.declared.field.Family.{Family}
use Rattle.field_defs.specs.declared.field.Family.TheVariants.{Ip4, Ip6}
use Rattle.field_defs.proofs.Offered.{ip4_is_layout, ip6_is_layout}
use Rattle.rule_set.specs.Rule.{RuleView, RuleSetView}
use Rattle.rule_set.specs.RuleSet.{IsRuleSet}
use Rattle.group_states.specs.Levels.{LevelsView, levels_of}
use Rattle.table_sizes.specs.Sizes.{max_words}
use Rattle.rule_split.specs.Split.{groups_of, plan_of, total_of}
use Rattle.rule_split.proofs.Offered.{groups_hold, total_of_words}
use Rattle.flat_table.specs.Walk.{userdatas}
use Rattle.table_fill.specs.Laws.{CanBeFilled, FilledTablesDecide}
use Rattle.classbench_reader.specs.Accepted.{AcceptedRulesAreLawful}
use Rattle.classbench_reader.specs.RuleFile.{RuleLists, rule_file_of}
use Rattle.acl_tool.specs.FamilySet.{set_of}
use Rattle.acl_tool.specs.Built.{TablesServe}
use Rattle.list_lemmas.proofs.Sums.{sum_by-map}

-- a lawful set that fits the budget can be filled into a table
can_be_filled : (set : RuleSetView) (budget : ℕ) → IsRuleSet set → IsLayout set.layout →
    All (λ (rule : RuleView). rule.tag.userdata < userdatas) set.rules → total_of set budget ≤ budget →
    budget ≤ max_words → CanBeFilled set (groups_of set budget)
unfolding plan_of
can_be_filled set budget rules layout userdata fits within = record {
  rules = rules;
  layout = layout;
  userdata = userdata;
  partition = groups_hold.once set budget;
  few = omega (arith, groups_hold.few set budget);
  size = omega (
    arith,
    total_of_words set budget fits,
    sum_by-map (λ (levels : LevelsView). levels.words) (levels_of set) (groups_of set budget),
    fits,
    within,
  );
}

-- the tables of both families
pub tables_serve : FilledTablesDecide → AcceptedRulesAreLawful → (rules : List ℕ) (lists : RuleLists) (budget : ℕ) →
    rule_file_of rules ≡ Ok lists → ((family : Family) → total_of (set_of family lists) budget ≤ budget) →
    budget ≤ max_words → TablesServe lists budget
tables_serve decide lawful rules lists budget accepted fits within Ip4 =
    let its = lawful rules lists accepted in
    decide (set_of Ip4 lists) (groups_of (set_of Ip4 lists) budget)
    (can_be_filled (set_of Ip4 lists) budget its.ip4_rules ip4_is_layout its.ip4_userdata (fits Ip4) within)
tables_serve decide lawful rules lists budget accepted fits within Ip6 =
    let its = lawful rules lists accepted in
    decide (set_of Ip6 lists) (groups_of (set_of Ip6 lists) budget)
    (can_be_filled (set_of Ip6 lists) budget its.ip6_rules ip6_is_layout its.ip6_userdata (fits Ip6) within)
