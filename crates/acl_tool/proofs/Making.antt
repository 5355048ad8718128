-- The tables of a rule file answer as its rules do.
use Rattle.std.proofs.Common.{◌≡◌, ℕ, ◌<◌, ◌≤◌, List, length, Option, Some, None, Ok, inl, inr, refl, sym, ap, ◌∙◌}
use Rattle.std.specs.Prelude.{◌↔◌, All}
use Rattle.std.specs.Option.{option_map}
use Rattle.std.proofs.lemmas.Bool.{le-leb}
use Rattle.std.proofs.lemmas.Bool.Decides.{eqb_tells}
use Rattle.field_defs.specs.declared.field.FieldDef.{FieldDef}
use Rattle.field_defs.specs.declared.field.Family.{Family}
use Rattle.field_defs.specs.declared.field.Family.TheVariants.{Ip4, Ip6}
use Rattle.field_defs.specs.Layout.{key_len_of}
use Rattle.rule_set.specs.Rule.{RuleView, RuleSetView}
use Rattle.rule_set.specs.Winner.{winner, userdata_at}
use Rattle.rule_split.specs.Split.{total_of}
use Rattle.flat_table.specs.Table.{TableView}
use Rattle.flat_table.specs.Walk.{joined, table_verdict}
use Rattle.table_fill.specs.Serves.{Serves}
use Rattle.acl_context.specs.Context.{built_of}
use Rattle.classbench_reader.specs.RuleFile.{RuleLists}
use Rattle.capture_report.specs.Shown.{answer_of_rules}
use Rattle.capture_report.specs.Classifier.{Tables, ByRules, AnswersAs, answer_of_table}
use Rattle.acl_report.specs.declared.packet.TheConstants.{MAX_VERDICTS}
use Rattle.command_ending.specs.Plan.{Give}
use Rattle.acl_tool.specs.FamilySet.{set_of}
use Rattle.acl_tool.specs.RuleTables.{table_within, tables_within}
use Rattle.acl_tool.specs.Built.{BuildsTable, IsBuilt, TablesServe, WordsAreTotals, tables_built}

-- what the joined word says, by the rule that wins
by_winner : (rules : List RuleView) (table : TableView) (key : List ℕ) (category : ℕ) (won : Option ℕ) →
    table_verdict table key category ≡ userdata_at rules won → (joined table key category ≡ 0 ↔ won ≡ None) →
    option_map (λ place. userdata_at rules (Some place)) won ≡ answer_of_table table key category
by_winner rules table key category None verdict none = let e = (none.1) refl in rw e refl
by_winner rules table key category (Some place) verdict none =
    elim (eqb_tells (joined table key category) 0) [
      | inl zero ↦ absurd (let e : Some place ≡ None = (none.0) zero.1 in cc)
      | inr other ↦ rw other.0 (ap Some (sym verdict))
    ]

-- what a table that serves a set says of a key is what the rules say
serves_answers : (set : RuleSetView) (table : TableView) (key : List ℕ) (category : ℕ) → Serves set table →
    All (λ byte. byte < 256) key → length key ≡ key_len_of set.layout → category < MAX_VERDICTS →
    answer_of_rules set.layout set.rules key category ≡ answer_of_table table key category
serves_answers set table key category serves bytes len below =
    by_winner set.rules table key category (winner set.layout set.rules key category)
    (serves.verdicts key category bytes len below) (serves.none key category bytes len below)

-- rules whose total is within the budget have their table
within_is : (family : Family) (budget : ℕ) (lists : RuleLists) → total_of (set_of family lists) budget ≤ budget →
    table_within budget family lists ≡ Ok (built_of (set_of family lists) budget)
within_is family budget lists fits = rw (le-leb (total_of (set_of family lists) budget) budget fits) refl

-- the tables that fit are made
pub within_both : (lists : RuleLists) (budget : ℕ) → total_of (set_of Ip4 lists) budget ≤ budget →
    total_of (set_of Ip6 lists) budget ≤ budget → tables_within budget lists ≡ Give (tables_built lists budget)
within_both lists budget ip4 ip6 = rw (within_is Ip4 budget lists ip4, within_is Ip6 budget lists ip6) refl

-- tables that serve the rules answer as they do
pub serving_tables : (lists : RuleLists) (budget : ℕ) → TablesServe lists budget →
    AnswersAs (ByRules lists) (tables_built lists budget)
serving_tables lists budget serve Ip4 key category is below =
    serves_answers (set_of Ip4 lists) (built_of (set_of Ip4 lists) budget) key category (serve Ip4) is.bytes is.len
    below
serving_tables lists budget serve Ip6 key category is below =
    serves_answers (set_of Ip6 lists) (built_of (set_of Ip6 lists) budget) key category (serve Ip6) is.bytes is.len
    below

-- both tables were made
pub IsBuilt-both : (budget : ℕ) (lists : RuleLists) (ip4 ip6 : Option TableView) →
    BuildsTable (set_of Ip4 lists) budget ip4 → BuildsTable (set_of Ip6 lists) budget ip6 →
    IsBuilt budget lists ip4 ip6
IsBuilt-both budget lists ip4 ip6 one two = record {
  tables = tables_built lists budget;
  are = refl;
  ip4_is = one.built;
  ip6_is = two.built;
  within = within_both lists budget one.fits two.fits;
  ip4_keys = one.serves.key_len;
  ip6_keys = two.serves.key_len;
  answers = serving_tables lists budget serve;
  totals = λ family. totals family;
  serve = serve;
}
  where
    totals : WordsAreTotals lists budget
    totals Ip4 = one.words
    totals Ip6 = two.words

    serve : TablesServe lists budget
    serve Ip4 = one.serves
    serve Ip6 = two.serves

-- a set of this layout
pub set-is : (set : RuleSetView) (layout : List FieldDef) → set.layout ≡ layout →
    set ≡ record { layout = layout; rules = set.rules }
set-is set layout is =
    ap (λ (l : List FieldDef). let s : RuleSetView = record { layout = l; rules = set.rules } in s) is

-- the tables that two contexts have
pub same_tables : (budget : ℕ) (lists : RuleLists) (ip4 ip6 : Option TableView) (one two : TableView)
    (built : IsBuilt budget lists ip4 ip6) → ip4 ≡ Some one → ip6 ≡ Some two →
    built.tables ≡ record { ip4 = one; ip6 = two }
same_tables budget lists ip4 ip6 one two built is_one is_two =
    let first : built.tables.ip4 ≡ one = (let e = sym built.ip4_is ∙ is_one in cc) in
    let second : built.tables.ip6 ≡ two = (let e = sym built.ip6_is ∙ is_two in cc) in
    ap (λ (t : TableView). let tables : Tables = record { ip4 = t; ip6 = built.tables.ip6 } in tables) first
    ∙ ap (λ (t : TableView). let tables : Tables = record { ip4 = one; ip6 = t } in tables) second
