-- How a capture is printed.
use Rattle.std.specs.Prelude.{ℕ, Bool}
use Rattle.capture_report.specs.declared.form.PrintOptions.{PrintOptions}
use Rattle.capture_report.specs.Classifier.{Classifier, Tables}

-- how a capture is printed: what answers for its packets, the tables whose sizes and transitions
-- are told, how many categories are shown, whether the sizes and transitions are, and whether a
-- dash marks where no rule matches
pub record ReportForm : Type 0 where
  pub classifier : Classifier
  pub tables : Tables
  pub categories : ℕ
  pub stats : Bool
  pub marks : Bool

-- the form that options ask for
abbrev pub form_by : Classifier → Tables → PrintOptions → ReportForm
form_by classifier tables options = record {
  classifier = classifier;
  tables = tables;
  categories = options.cats.count;
  stats = options.stats;
  marks = options.marks;
}
