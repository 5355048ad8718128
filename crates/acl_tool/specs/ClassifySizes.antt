-- How large the tables of `classify` are, said by itself: their tries and words, and when rules
-- need more words than the budget.
use Rattle.std.specs.Prelude.{◌≡◌, ℕ, ◌+◌, ◌<◌, List, ◌∷◌, ◌++◌, length, codes, true, None, Ok}
use Rattle.field_defs.specs.declared.field.Family.{Family}
use Rattle.field_defs.specs.declared.field.Family.TheVariants.{Ip4, Ip6}
use Rattle.rule_split.specs.Split.{groups_of, total_of}
use Rattle.classbench_reader.specs.RuleFile.{RuleLists, rule_file_of}
use Rattle.acl_outside.specs.Heard.{Heard, Ended}
use Rattle.pcapng_reader.specs.Capture.{whole_records}
use Rattle.acl_report.specs.Tables.{table_text, transitions_text}
use Rattle.command_ending.specs.declared.status.Status.{Status}
use Rattle.command_ending.specs.declared.status.Status.TheVariants.{Done, TooLarge}
use Rattle.acl_tool.specs.FamilySet.{set_of}
use Rattle.acl_tool.specs.Headline.{Hears, last_lines_to, lines_to}
use Rattle.acl_tool.specs.GivenOptions.{is_on}
use Rattle.acl_tool.specs.GivenBudget.{budget_given}

-- the line of a family's table: its rules, a trie for each group of their split, and the total of
-- the split as its words
abbrev pub size_line : Family → RuleLists → ℕ → List ℕ
size_line family rules budget =
    table_text family (length (set_of family rules).rules)
    (length (groups_of (set_of family rules) budget))
    (total_of (set_of family rules) budget)

-- the lines of both tables, and that of so many transitions
abbrev pub sizes_text : RuleLists → ℕ → ℕ → List ℕ
sizes_text rules budget transitions =
    size_line Ip4 rules budget ++ size_line Ip6 rules budget ++ transitions_text transitions

-- After the lines of the capture and of its counts those of both tables were taken, and that of as
-- many transitions as the counter rose by.
pub record TellsSizes (words : List (List ℕ)) (old new : List Heard) (out_old out_new : List ℕ)
    (steps_old steps_new : ℕ) : Type 0 where
  pub heard : Hears words old new
  pub transitions : ℕ
  pub counted : steps_new ≡ steps_old + transitions
  pub taken : is_on (codes "stats=") heard.options ≡ true → out_new ≡ out_old
      ++ (lines_to heard.rules heard.options (whole_records heard.capture.bytes)
      ++ last_lines_to None (whole_records heard.capture.bytes)
      (sizes_text heard.rules (budget_given heard.options) transitions))

-- The rules of the family need more words than the budget, which the split of the rules comes to.
-- The rule file was read to its end, the capture wasn't opened, and nothing was taken.
pub record NeedsMore (words : List (List ℕ)) (family : Family) (size budget : ℕ)
    (old new : List Heard) (out_old out_new : List ℕ) : Type 0 where
  pub rule_file : Heard
  pub capture : List ℕ
  pub options : List (List ℕ)
  pub rules : RuleLists
  pub named : words ≡ codes "classify" ∷ rule_file.name ∷ capture ∷ options
  pub once : new ≡ rule_file ∷ old
  pub whole : rule_file.ending ≡ Ended
  pub accepted : rule_file_of rule_file.bytes ≡ Ok rules
  pub given : budget ≡ budget_given options
  pub total : size ≡ total_of (set_of family rules) budget
  pub above : budget < size
  pub taken : out_new ≡ out_old

-- Wherever `classify` ends with Done, or with rules that are too large, it told so.
pub record ClassifySizes (words : List (List ℕ)) (status : Status) (old new : List Heard)
    (out_old out_new : List ℕ) (steps_old steps_new : ℕ) : Type 0 where
  pub tells : (after : List (List ℕ)) → words ≡ codes "classify" ∷ after → status ≡ Done →
      TellsSizes words old new out_old out_new steps_old steps_new
  pub needs_more : (after : List (List ℕ)) (family : Family) (size budget : ℕ) →
      words ≡ codes "classify" ∷ after → status ≡ TooLarge family size budget →
      NeedsMore words family size budget old new out_old out_new
