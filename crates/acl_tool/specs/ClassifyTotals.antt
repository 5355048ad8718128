-- How many words the tables of a `classify` have.
use Rattle.std.specs.Prelude.{◌≡◌, List, ◌∷◌, ⊤, Ok}
use Rattle.acl_outside.specs.Heard.{Heard}
use Rattle.classbench_reader.specs.RuleFile.{RuleLists, rule_file_of}
use Rattle.command_words.specs.Command.{Request, Classify}
use Rattle.acl_tool.specs.Built.{WordsAreTotals}

-- The tables of a `classify` have the words of the splits of the rules that were heard.
abbrev pub HasTotals : Request → List Heard → List Heard → Type 0
HasTotals (Classify rules capture options) old new =
    (rule_file file : Heard) (lists : RuleLists) → new ≡ file ∷ rule_file ∷ old →
    rule_file_of rule_file.bytes ≡ Ok lists → WordsAreTotals lists options.max_words
HasTotals request old new = ⊤
