-- Examples of rule files, each checked by evaluation.
use Rattle.std.specs.Prelude.{◌≡◌, ℕ, ◌∷◌, [], ◌++◌, codes, List, map, Result, Ok, Err, refl}
use Rattle.rule_set.specs.Rule.{RuleView}
use Rattle.classbench_reader.specs.declared.rules_fault.LineFault.{LineFault}
use Rattle.classbench_reader.specs.declared.rules_fault.LineKind.{LineKind}
use Rattle.classbench_reader.specs.declared.rules_fault.LineKind.TheVariants.{TooManyRules, BadStart}
use Rattle.classbench_reader.specs.declared.rules_fault.LineKind.TheVariants.{BadAddress, BadFlags}
use Rattle.classbench_reader.specs.RuleFile.{RuleLists, rule_file_of}
use Rattle.classbench_reader.specs.RuleFile.{counted_line_of}

-- the userdata of the rules of each family, or the fault
pub record Answers : Type 0 where
  pub ip4 : List ℕ
  pub ip6 : List ℕ

abbrev answers : Result RuleLists LineFault → Result Answers LineFault
answers (Err fault) = Err fault
answers (Ok lists) = Ok (record {
  ip4 = map (λ (rule : RuleView). rule.tag.userdata) lists.ip4;
  ip6 = map (λ (rule : RuleView). rule.tag.userdata) lists.ip6;
})

abbrev answers_of : List ℕ → Result Answers LineFault
answers_of bytes = answers (rule_file_of bytes)

abbrev fault : ℕ → LineKind → Result Answers LineFault
fault line kind = Err (record { line = line; kind = kind })

abbrev ip4_line : List ℕ
ip4_line = codes "@0.0.0.0/0 0.0.0.0/0 0:1 2:3 6/255"

abbrev ip6_line : List ℕ
ip6_line = codes "@::/0 ::/0 0:1 2:3 6/255"

-- the ordinal counts the rules of both families, and no line that is skipped
both_families :
    answers_of (codes "# rules\r\n" ++ ip4_line ++ codes "\r\n\n" ++ ip6_line ++ codes "\n \t\n" ++
    ip4_line ++ codes " data=0")
    ≡ Ok (record { ip4 = 1 ∷ 0 ∷ []; ip6 = 2 ∷ [] })
both_families = refl

an_empty_file : answers_of [] ≡ Ok (record { ip4 = []; ip6 = [] })
an_empty_file = refl

comments_alone : answers_of (codes "#\n\n  # @\r\n") ≡ Ok (record { ip4 = []; ip6 = [] })
comments_alone = refl

-- a last line without LF counts, and so does one CR at its end
no_last_line_feed : answers_of (ip4_line ++ codes "\r") ≡ Ok (record { ip4 = 1 ∷ []; ip6 = [] })
no_last_line_feed = refl

-- two CR at the end of a line leave one, which is no blank
two_carriage_returns : answers_of (ip4_line ++ codes " 0/0\r\r\n") ≡ fault 1 BadFlags
two_carriage_returns = refl

-- skipped lines have numbers, and the first faulty line is told
numbered_fault : answers_of (codes "\n#\n" ++ ip4_line ++ codes "\n@\nR\n") ≡ fault 4 BadAddress
numbered_fault = refl

a_fault_at_the_end : answers_of (ip6_line ++ codes "\nR") ≡ fault 2 BadStart
a_fault_at_the_end = refl

-- there may be 262,144 rules, and one more is refused before anything else is asked of its line
the_last_rule : counted_line_of 262144 (codes "R") ≡ Err BadStart
the_last_rule = refl

one_more : counted_line_of 262145 (codes "R") ≡ Err TooManyRules
one_more = refl
