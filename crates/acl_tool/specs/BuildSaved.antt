-- Images of the tables of rules.
use Rattle.std.specs.Prelude.{◌≡◌, ℕ, List, ◌∷◌, ⊤, Ok}
use Rattle.table_image.specs.declared.version.Version.TheVariants.{Two}
use Rattle.table_image.specs.Spelling.{IsImage}
use Rattle.classbench_reader.specs.RuleFile.{RuleLists, rule_file_of}
use Rattle.command_ending.specs.Plan.{Give}
use Rattle.acl_tool.specs.RuleTables.{tables_within}
use Rattle.acl_tool.specs.Built.{TablesServe, tables_built}
use Rattle.acl_tool.specs.BuildPlan.{image_bytes, pair_of}
use Rattle.acl_outside.specs.Heard.{Heard}
use Rattle.command_words.specs.Command.{Request, Build}

-- The bytes that spell the tables of the rules are their image, and the tables answer as the rules
-- do.
pub record IsImageOfRules (lists : RuleLists) (budget : ℕ) : Type 0 where
  pub image : IsImage Two (image_bytes (tables_built lists budget))
      (pair_of (tables_built lists budget))
  pub serve : TablesServe lists budget

-- The tables of the rules are within the budget, and the bytes are their image.
pub record IsSaved (budget : ℕ) (lists : RuleLists) (bytes : List ℕ) : Type 0 where
  pub within : tables_within budget lists ≡ Give (tables_built lists budget)
  pub spelled : bytes ≡ image_bytes (tables_built lists budget)
  pub image : IsImageOfRules lists budget

-- The image that a `build` makes is that of the tables of the rules that were heard, which answer
-- as the rules do.
abbrev pub HasImage : Request → List Heard → List Heard → Type 0
HasImage (Build rules image max_words) old new =
    (rule_file : Heard) (lists : RuleLists) → new ≡ rule_file ∷ old →
    rule_file_of rule_file.bytes ≡ Ok lists → IsImageOfRules lists max_words
HasImage request old new = ⊤
