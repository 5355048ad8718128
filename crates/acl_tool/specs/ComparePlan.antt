-- What `compare` does.
use Rattle.std.specs.Prelude.{ℕ, List}
use Rattle.command_ending.specs.declared.status.Status.TheVariants.{RulesRefused, SecondRulesRefused}
use Rattle.command_ending.specs.Plan.{◌>>=◌, Outcome, Plan, unless_refused}
use Rattle.acl_tool.specs.RuleTables.{rules_in}
use Rattle.acl_tool.specs.Texts.{only_text}
use Rattle.acl_tool.specs.CompareLines.{compare_of}

-- the lines of a comparison are printed, of the rules of one file and of another
abbrev pub compare_plan : List ℕ → List ℕ → ℕ → Plan Outcome
compare_plan rules second max_words = do
  one ← rules_in RulesRefused rules
  two ← rules_in SecondRulesRefused second
  text ← unless_refused (compare_of max_words one two)
  only_text text
