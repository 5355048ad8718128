-- What `build` makes, said by itself: of the rule file that the desk gave, and of the file that it
-- took, whatever they are.
use Rattle.std.specs.Prelude.{◌≡◌, ℕ, List, ◌∷◌, codes, Ok}
use Rattle.field_defs.specs.declared.field.Family.TheVariants.{Ip4, Ip6}
use Rattle.table_fill.specs.Serves.{Serves}
use Rattle.table_image.specs.declared.version.Version.TheVariants.{Two}
use Rattle.table_image.specs.Spelling.{IsImage, PairView}
use Rattle.acl_context.specs.Context.{built_of}
use Rattle.acl_outside.specs.Heard.{Heard, Ended}
use Rattle.classbench_reader.specs.RuleFile.{RuleLists, rule_file_of}
use Rattle.command_words.specs.Options.{Options, for_build, none_given}
use Rattle.command_words.specs.Command.{options_from}
use Rattle.command_ending.specs.declared.status.Status.{Status}
use Rattle.command_ending.specs.declared.status.Status.TheVariants.{Done}
use Rattle.command_ending.specs.StepEffects.{MakesFile, Outside, heard_of}
use Rattle.acl_tool.specs.FamilySet.{set_of}

-- The words of a `build` name two files, and an option may follow. The rule file was read to its
-- end, and its lines are the rules; no other file was opened. The other file was made, and holds
-- the image of a table for each family, which is that of its rules under the budget and answers as
-- they do for each key and category. The output took nothing.
pub record MakesImage (words : List (List ℕ)) (old new : Outside) : Type 0 where
  pub rule_file : Heard
  pub image : List ℕ
  pub options : List (List ℕ)
  pub read : Options
  pub rules : RuleLists
  pub bytes : List ℕ
  pub pair : PairView
  pub named : words ≡ codes "build" ∷ rule_file.name ∷ image ∷ options
  pub asked : options_from for_build 4 none_given options ≡ Ok read
  pub once : heard_of new.desk ≡ rule_file ∷ heard_of old.desk
  pub whole : rule_file.ending ≡ Ended
  pub accepted : rule_file_of rule_file.bytes ≡ Ok rules
  pub is_image : IsImage Two bytes pair
  pub ip4 : pair.ip4 ≡ built_of (set_of Ip4 rules) read.max_words
  pub ip6 : pair.ip6 ≡ built_of (set_of Ip6 rules) read.max_words
  pub ip4_serves : Serves (set_of Ip4 rules) pair.ip4
  pub ip6_serves : Serves (set_of Ip6 rules) pair.ip6
  pub made : MakesFile (record { name = image; bytes = bytes }) old.desk new.desk
  pub taken : new.out.taken ≡ old.out.taken

-- Wherever `build` ends with Done, it made such an image.
abbrev pub BuildMakes : List (List ℕ) → Status → Outside → Outside → Type 0
BuildMakes words status old new =
    (after : List (List ℕ)) → words ≡ codes "build" ∷ after → status ≡ Done →
    MakesImage words old new
