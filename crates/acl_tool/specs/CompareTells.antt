-- What `compare` prints, said by itself: of rule lines and verdicts, and of what the desk gave and
-- the output took, whatever they are.
use Rattle.std.specs.Prelude.{◌≡◌, List, ℕ, ◌∷◌, ◌++◌, codes, Ok}
use Rattle.field_defs.specs.declared.field.Family.TheVariants.{Ip4, Ip6}
use Rattle.acl_outside.specs.Heard.{Heard, Ended}
use Rattle.classbench_reader.specs.RuleFile.{RuleLists, rule_file_of}
use Rattle.audit_report.specs.Compare.{compared_text}
use Rattle.command_ending.specs.declared.status.Status.{Status}
use Rattle.command_ending.specs.declared.status.Status.TheVariants.{Done}
use Rattle.command_ending.specs.StepEffects.{Outside, heard_of}
use Rattle.acl_tool.specs.FamilySet.{set_of}

-- The words of a `compare` name two files, and an option may follow. The desk was asked for each of
-- them once, and for nothing else. All of both was read, and their lines are the rules. The output
-- took a line for each family: that the verdicts of both lists are equal for every key and
-- category, or the least key and category at which they aren't, with both verdicts. No transition
-- was taken.
pub record PrintsComparison (words : List (List ℕ)) (old new : Outside) : Type 0 where
  pub first : Heard
  pub second : Heard
  pub options : List (List ℕ)
  pub one : RuleLists
  pub two : RuleLists
  pub named : words ≡ codes "compare" ∷ first.name ∷ second.name ∷ options
  pub once : heard_of new.desk ≡ second ∷ first ∷ heard_of old.desk
  pub first_whole : first.ending ≡ Ended
  pub second_whole : second.ending ≡ Ended
  pub first_accepted : rule_file_of first.bytes ≡ Ok one
  pub second_accepted : rule_file_of second.bytes ≡ Ok two
  pub taken : new.out.taken ≡ old.out.taken
      ++ (compared_text Ip4 (set_of Ip4 one) (set_of Ip4 two)
      ++ compared_text Ip6 (set_of Ip6 one) (set_of Ip6 two))
  pub steps : new.steps ≡ old.steps

-- Wherever `compare` ends with Done, it printed so.
abbrev pub CompareTells : List (List ℕ) → Status → Outside → Outside → Type 0
CompareTells words status old new =
    (after : List (List ℕ)) → words ≡ codes "compare" ∷ after → status ≡ Done →
    PrintsComparison words old new
