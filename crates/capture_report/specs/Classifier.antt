-- What answers for packets: the rules of both families, or the tables that were made of them.
use Rattle.std.specs.Prelude.{◌≡◌, ℕ, ◌<◌, ◌==◌, List, length, All, Option, Some, None}
use Rattle.std.specs.Prelude.{if◌then◌else◌}
use Rattle.table_sizes.specs.Groups.{ip4_key_len, ip6_key_len}
use Rattle.field_defs.specs.declared.field.Family.{Family}
use Rattle.field_defs.specs.declared.field.Family.TheVariants.{Ip4, Ip6}
use Rattle.field_defs.specs.Layout.{ip4_fields, ip6_fields}
use Rattle.flat_table.specs.Table.{TableView}
use Rattle.flat_table.specs.Walk.{joined, table_verdict}
use Rattle.acl_report.specs.declared.packet.TheConstants.{MAX_VERDICTS}
use Rattle.classbench_reader.specs.declared.rule_file.RuleFile.{RuleFile}
use Rattle.classbench_reader.specs.RuleFile.{RuleLists}
use Rattle.capture_report.specs.Shown.{answer_of_rules}

-- the rules that the code holds, as lists
abbrev pub lists_of : RuleFile → RuleLists
lists_of file = record { ip4 = file.ip4.rules; ip6 = file.ip6.rules }

-- the tables of both families
pub record Tables : Type 0 where
  pub ip4 : TableView
  pub ip6 : TableView

-- what answers for a packet
pub data Classifier : Type 0 where
  ByRules : (rules : RuleLists) → Classifier
  ByTables : (tables : Tables) → Classifier

-- the userdata in the joined word, or none where that is 0
abbrev pub answer_of_table : TableView → List ℕ → ℕ → Option ℕ
answer_of_table table key category =
    if joined table key category == 0 then None else Some (table_verdict table key category)

-- what the category says of a key of the family: the userdata of the rule that wins, or none
abbrev pub answer_of : Classifier → Family → List ℕ → ℕ → Option ℕ
answer_of (ByRules rules) Ip4 key category = answer_of_rules ip4_fields rules.ip4 key category
answer_of (ByRules rules) Ip6 key category = answer_of_rules ip6_fields rules.ip6 key category
answer_of (ByTables tables) Ip4 key category = answer_of_table tables.ip4 key category
answer_of (ByTables tables) Ip6 key category = answer_of_table tables.ip6 key category

-- how many bytes a key of the family has
abbrev pub key_len_of_family : Family → ℕ
key_len_of_family Ip4 = ip4_key_len
key_len_of_family Ip6 = ip6_key_len

-- A key of the family: so many bytes.
pub record IsKey (family : Family) (key : List ℕ) : Type 0 where
  pub bytes : All (λ byte. byte < 256) key
  pub len : length key ≡ key_len_of_family family

-- The classifier answers for each key and category as the tables do.
abbrev pub AnswersAs : Classifier → Tables → Type 0
AnswersAs classifier tables =
    (family : Family) (key : List ℕ) (category : ℕ) → IsKey family key →
    category < MAX_VERDICTS →
    answer_of classifier family key category ≡ answer_of (ByTables tables) family key category
