-- A list of rules of one family as a program writes it, line by line. What it may say beside the
-- rules stands in comments, which a reader of rule files skips.
use Rattle.std.specs.Prelude.{ℕ, ◌<◌, ◌^◌, ◌==◌, ◌||◌, if◌then◌else◌, List, [], ◌∷◌, ◌++◌, codes, decimal}
use Rattle.std.specs.Prelude.{flat_map, map}
use Rattle.field_defs.specs.declared.field.Family.{Family}
use Rattle.field_defs.specs.declared.field.Family.TheVariants as family
use Rattle.rule_set.specs.Rule.{RuleView}
use Rattle.text_scan.specs.Parts.{line_feed, carriage_return}
use Rattle.classbench_reader.specs.Print.{IsPrintable, rule_text}
use Rattle.classbench_reader.specs.RuleFile.{RuleLists}
use Rattle.printed_lists.specs.declared.list_line.ListLine.{ListLine}
use Rattle.printed_lists.specs.declared.list_line.ListLine.TheVariants as lines

-- a line of a list: a comment with a text, or a rule
pub data LineView : Type 0 where
  Comment : (text : List ℕ) → LineView
  Rule : (rule : RuleView) → LineView

-- a text and a number after it, in decimal
abbrev pub numbered : List ℕ → ℕ → List ℕ
numbered text number = text ++ decimal number

-- what a line of the code says
abbrev pub line_view : ListLine → LineView
line_view (lines.Comment text) = Comment text.now
line_view (lines.Numbered text number) = Comment (numbered text.now number)
line_view (lines.Rule rule) = Rule rule.now

-- and what the lines of a list say
abbrev pub line_views : List ListLine → List LineView
line_views lines = map line_view lines

-- LF and CR, which end a line for some reader, stand as `?` in a comment, and each other byte stays
abbrev pub comment_byte : ℕ → ℕ
comment_byte c = if c == line_feed || c == carriage_return then 63 else c

-- a comment: `#`, a space and its text, ended by LF
abbrev pub comment_text : List ℕ → List ℕ
comment_text text = codes "# " ++ map comment_byte text ++ line_feed ∷ []

-- a line as it is written
abbrev pub written_line : Family → LineView → List ℕ
written_line its (Comment text) = comment_text text
written_line its (Rule rule) = rule_text its rule

-- the text of a list: its lines, one after the other
abbrev pub list_text : Family → List LineView → List ℕ
list_text its lines = flat_map (written_line its) lines

-- the rules of a list, in its order
abbrev pub rules_of : List LineView → List RuleView
rules_of [] = []
rules_of (Comment text ∷ lines) = rules_of lines
rules_of (Rule rule ∷ lines) = rule ∷ rules_of lines

-- rules of one family, by family
abbrev pub lists_of : Family → List RuleView → RuleLists
lists_of family.Ip4 rules = record { ip4 = rules; ip6 = [] }
lists_of family.Ip6 rules = record { ip4 = []; ip6 = rules }

-- a line of rule files can say the rule of this line, if it has one
abbrev pub IsPrintableLine : Family → LineView → Type 0
IsPrintableLine its (Comment text) = Unit {0}
IsPrintableLine its (Rule rule) = IsPrintable its rule

-- the categories and the userdata of a rule are numbers of 32 bits
pub record FitsTag (rule : RuleView) : Type 0 where
  pub categories : rule.tag.category_mask < 2 ^ 32
  pub userdata : rule.tag.userdata < 2 ^ 32

-- the rule of this line, if it has one, has such numbers
abbrev pub FitsLineTag : LineView → Type 0
FitsLineTag (Comment text) = Unit {0}
FitsLineTag (Rule rule) = FitsTag rule
