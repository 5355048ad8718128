-- What `classify` does.
use Rattle.std.specs.Prelude.{ℕ, List}
use Rattle.command_words.specs.Options.{Options}
use Rattle.capture_report.specs.Classifier.{ByRules, Tables, Classifier}
use Rattle.capture_report.specs.ReportForm.{ReportForm}
use Rattle.capture_report.specs.CaptureOutcome.{reported}
use Rattle.command_ending.specs.declared.status.Status.TheVariants.{RulesRefused}
use Rattle.command_ending.specs.Plan.{◌>>=◌, Outcome, Plan}
use Rattle.acl_tool.specs.RuleTables.{rules_in, tables_within}

-- the form of a report by the options of a command
abbrev pub form_of : Classifier → Tables → Options → ReportForm
form_of classifier tables options = record {
  classifier = classifier;
  tables = tables;
  categories = options.categories;
  stats = options.stats;
  marks = options.marks;
}

-- the report of a capture by the tables of a rule file: what is printed is said of the rules, and
-- how many transitions are taken of their tables
abbrev pub classify_plan : List ℕ → List ℕ → Options → Plan Outcome
classify_plan rules capture options = do
  lists ← rules_in RulesRefused rules
  tables ← tables_within options.max_words lists
  reported (form_of (ByRules lists) tables options) capture
