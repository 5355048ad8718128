-- What `build` does.
use Rattle.std.specs.Prelude.{ℕ, List}
use Rattle.table_image.specs.declared.version.Version.TheVariants.{Two}
use Rattle.table_image.specs.Spelling.{PairView, spelled_pair}
use Rattle.capture_report.specs.Classifier.{Tables}
use Rattle.command_ending.specs.declared.status.Status.TheVariants.{RulesRefused}
use Rattle.command_ending.specs.Plan.{◌>>=◌, Outcome, Plan, Give, making}
use Rattle.acl_tool.specs.RuleTables.{rules_in, tables_within}

-- the tables of both families, as an image has them
abbrev pub pair_of : Tables → PairView
pair_of tables = record { ip4 = tables.ip4; ip6 = tables.ip6 }

-- the bytes of their image, in the version that is written
abbrev pub image_bytes : Tables → List ℕ
image_bytes tables = spelled_pair Two (pair_of tables)

-- the named image is made, of the tables of a rule file
abbrev pub build_plan : List ℕ → List ℕ → ℕ → Plan Outcome
build_plan rules image max_words = do
  lists ← rules_in RulesRefused rules
  tables ← tables_within max_words lists
  Give (making image (image_bytes tables))
