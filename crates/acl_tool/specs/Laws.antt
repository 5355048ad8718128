-- The law of saved tables: an image prints what the rules print of which it was made.
use Rattle.std.specs.Prelude.{◌≡◌, ℕ, ◌<◌, ◌≤◌, All, List, Some, Ok}
use Rattle.field_defs.specs.declared.field.Family.{Family}
use Rattle.rule_split.specs.Split.{total_of}
use Rattle.table_image.specs.declared.version.Version.{Version}
use Rattle.table_image.specs.Spelling.{IsImage}
use Rattle.acl_outside.specs.Desk.{File, bytes_of}
use Rattle.classbench_reader.specs.RuleFile.{RuleLists, rule_file_of}
use Rattle.command_words.specs.Options.{Options}
use Rattle.command_ending.specs.Plan.{found, settled}
use Rattle.acl_tool.specs.FamilySet.{set_of}
use Rattle.acl_tool.specs.Built.{tables_built}
use Rattle.acl_tool.specs.BuildPlan.{pair_of}
use Rattle.acl_tool.specs.ClassifyPlan.{classify_plan}
use Rattle.acl_tool.specs.ReplayPlan.{replay_plan}

-- The rule file is accepted, the tables of both families fit the budget, and the other bytes are
-- the image of these tables. Of every `build` that ends with Done this is promised.
pub record IsSavedOf (rules bytes : List ℕ) (budget : ℕ) : Type 0 where
  pub lists : RuleLists
  pub accepted : rule_file_of rules ≡ Ok lists
  pub fits : (family : Family) → total_of (set_of family lists) budget ≤ budget
  pub version : Version
  pub image : IsImage version bytes (pair_of (tables_built lists budget))

-- Where these three are files, `replay` of the image and `classify` of the rule file come to one
-- outcome, whatever the bytes of the capture are.
abbrev pub ReplayAgrees : List ℕ → List ℕ → List ℕ → Options → Type 0
ReplayAgrees rules image capture options =
    IsSavedOf rules image options.max_words →
    All (λ byte. byte < 256) capture →
    (files : List File) (r i c : List ℕ) → bytes_of files r ≡ Some rules →
    bytes_of files i ≡ Some image → bytes_of files c ≡ Some capture →
    settled (found (replay_plan i c options) files)
    ≡ settled (found (classify_plan r c options) files)
