-- What building the tables of a rule file comes to.
use Rattle.std.specs.Prelude.{◌≡◌, ℕ, ◌<◌, ◌≤◌, ◌⊎◌, Option, Some}
use Rattle.table_sizes.specs.Groups.{ip4_key_len, ip6_key_len}
use Rattle.field_defs.specs.declared.field.Family.{Family}
use Rattle.field_defs.specs.declared.field.Family.TheVariants.{Ip4, Ip6}
use Rattle.rule_set.specs.Rule.{RuleSetView}
use Rattle.rule_split.specs.Split.{total_of}
use Rattle.flat_table.specs.Table.{TableView, words_of}
use Rattle.table_fill.specs.Serves.{Serves}
use Rattle.acl_context.specs.Context.{built_of}
use Rattle.classbench_reader.specs.RuleFile.{RuleLists}
use Rattle.command_ending.specs.declared.status.Status.{Status}
use Rattle.command_ending.specs.declared.status.Status.TheVariants.{TooLarge, OutOfMemory}
use Rattle.capture_report.specs.Classifier.{Tables, ByRules, AnswersAs}
use Rattle.command_ending.specs.Plan.{Give, Stop}
use Rattle.acl_tool.specs.FamilySet.{set_of}
use Rattle.acl_tool.specs.RuleTables.{tables_within}

-- The table of the set under the budget was made. It answers as the rules do.
pub record BuildsTable (set : RuleSetView) (budget : ℕ) (table : Option TableView) : Type 0 where
  pub built : table ≡ Some (built_of set budget)
  pub fits : total_of set budget ≤ budget
  pub words : words_of (built_of set budget) ≡ total_of set budget
  pub serves : Serves set (built_of set budget)

-- The total of the set of the family is above the budget, and the status says so.
pub record IsTooLarge (family : Family) (set : RuleSetView) (budget : ℕ) (status : Status)
    : Type 0 where
  pub says : status ≡ TooLarge family (total_of set budget) budget
  pub above : budget < total_of set budget

-- The words of the table of each family are the total at which the split of its rules ends.
abbrev pub WordsAreTotals : RuleLists → ℕ → Type 0
WordsAreTotals lists budget =
    (family : Family) →
    words_of (built_of (set_of family lists) budget) ≡ total_of (set_of family lists) budget

-- The table of each family answers as its rules do.
abbrev pub TablesServe : RuleLists → ℕ → Type 0
TablesServe lists budget =
    (family : Family) → Serves (set_of family lists) (built_of (set_of family lists) budget)

-- the tables of the rules of both families under the budget
abbrev pub tables_built : RuleLists → ℕ → Tables
tables_built lists budget =
    record { ip4 = built_of (set_of Ip4 lists) budget; ip6 = built_of (set_of Ip6 lists) budget }

-- The tables of both families were made. They answer as the rules do.
pub record IsBuilt (budget : ℕ) (lists : RuleLists) (ip4 ip6 : Option TableView) : Type 0 where
  pub tables : Tables
  pub are : tables ≡ tables_built lists budget
  pub ip4_is : ip4 ≡ Some tables.ip4
  pub ip6_is : ip6 ≡ Some tables.ip6
  pub within : tables_within budget lists ≡ Give tables
  pub ip4_keys : tables.ip4.key_len ≡ ip4_key_len
  pub ip6_keys : tables.ip6.key_len ≡ ip6_key_len
  pub answers : AnswersAs (ByRules lists) tables
  pub totals : WordsAreTotals lists budget
  pub serve : TablesServe lists budget

-- The tables weren't made: a family needs more words than the budget, or memory ran out.
abbrev pub Refuses : ℕ → RuleLists → Status → Type 0
Refuses budget lists status =
    ((family : Family) × IsTooLarge family (set_of family lists) budget status
    × (tables_within budget lists ≡ Stop status))
    ⊎ (status ≡ OutOfMemory)
