-- The text of a rule file that is made of a list: what it presupposes, and its rules. Above each
-- rule stands the text of the line that it was made of, or the handle of the rule, where that isn't
-- that of the rule before it.
use Rattle.std.specs.Prelude.{◌≡◌, ℕ, ◌+◌, ◌-◌, ◌==◌, List, [], ◌∷◌, ◌++◌, length, nat_lt, slice_get}
use Rattle.std.specs.Prelude.{if◌then◌else◌, codes, map, Option, Some, None, Result, Ok, Err}
use Rattle.field_defs.specs.declared.field.Family.{Family}
use Rattle.rule_set.specs.Rule.{RuleView}
use Rattle.text_scan.specs.Parts.{lines_of}
use Rattle.classbench_reader.specs.Limits.{max_rule_file}
use Rattle.classbench_reader.specs.Print.{has_prefixes}
use Rattle.printed_lists.specs.Listed.{LineView, Comment, Rule, list_text, numbered}
use Rattle.iptables_reader.specs.declared.answers.Answers.TheVariants as answers
use Rattle.list_tool.specs.declared.status.ListFault.{ListFault}
use Rattle.list_tool.specs.declared.status.ListKind.TheVariants.{NoPrefix, TextTooLong}
use Rattle.list_tool.specs.declared.status.Refusal.{Refusal}
use Rattle.list_tool.specs.declared.status.Refusal.TheVariants as refusal
use Rattle.list_tool.specs.declared.words.Form.{Form}
use Rattle.list_tool.specs.declared.words.Form.TheVariants.{Iptables, Ip6tables, Cisco, Nft, Nft6}
use Rattle.list_tool.specs.Listing.{◌>>=◌, at_place, family_of, no_place, rule_place, rules_for}
use Rattle.list_tool.specs.Premises.{premises}
use Rattle.list_tool.specs.Words.{Request}

-- what is said is a fault of the list, or there is no memory
abbrev pub Refuses : {A : Type 0} → Result A ListFault → Refusal → Type 0
Refuses said (refusal.Fault fault) = said ≡ Err fault
Refuses said refusal.OutOfMemory = Unit {0}

-- ---- lines

-- the userdata of a rule, which is the line that it was made of
abbrev pub number_of : Option RuleView → ℕ
number_of None = 0
number_of (Some rule) = rule.tag.userdata

-- the line of the rule at a place, by the same rules with lines as their userdata
abbrev pub number_at : List RuleView → ℕ → ℕ
number_at by_line place = number_of (slice_get by_line place)

-- and that of the rule before it: no line stands before the first
abbrev pub number_before : List RuleView → ℕ → ℕ
number_before by_line place = if place == 0 then 0 else number_at by_line (place - 1)

-- the text of a line
abbrev pub text_or_none : Option (List ℕ) → List ℕ
text_or_none None = []
text_or_none (Some text) = text

-- the text of the line of a number, from 1; 0 is that of the rule for what no line decides
abbrev pub line_text : List (List ℕ) → ℕ → List ℕ
line_text lines number =
    if number == 0 then codes "what no line decides"
    else text_or_none (slice_get lines (number - 1))

-- what is said of the rules of a number: the text of its line, or that it is the handle
abbrev pub number_text : Form → List (List ℕ) → ℕ → List ℕ
number_text Iptables lines number = line_text lines number
number_text Ip6tables lines number = line_text lines number
number_text Cisco lines number = line_text lines number
number_text Nft lines number = numbered (codes "handle ") number
number_text Nft6 lines number = numbered (codes "handle ") number

-- so it stands above a rule, if that has another number than the rule before
abbrev pub comment_of : Form → List (List ℕ) → ℕ → ℕ → Option LineView
comment_of form lines before number =
    if number == before then None else Some (Comment (number_text form lines number))

-- a rule after its comment, if it has one
abbrev pub after_comment : Option LineView → RuleView → List LineView
after_comment None rule = Rule rule ∷ []
after_comment (Some comment) rule = comment ∷ Rule rule ∷ []

-- so each rule from a place on
abbrev pub commented : Form → List (List ℕ) → List RuleView → ℕ → List RuleView → List LineView
commented form lines by_line place [] = []
commented form lines by_line place (rule ∷ rules) =
    after_comment (comment_of form lines (number_before by_line place) (number_at by_line place))
    rule
    ++ commented form lines by_line (place + 1) rules

-- ---- the whole text

-- the first rule from a place on whose addresses no prefix says, by its number
abbrev pub first_odd : Family → List RuleView → ℕ → List RuleView → Option ℕ
first_odd its by_line place [] = None
first_odd its by_line place (rule ∷ rules) =
    if has_prefixes its rule.fields then first_odd its by_line (place + 1) rules
    else Some (number_at by_line place)

-- such a rule is a fault
abbrev pub unless_odd : {A : Type 0} → Form → Option ℕ → A → Result A ListFault
unless_odd form None value = Ok value
unless_odd form (Some number) value = Err (at_place (rule_place form number) NoPrefix)

-- a rule file has so many bytes at most
abbrev pub within_limit : Form → List ℕ → Result (List ℕ) ListFault
within_limit form text =
    if nat_lt max_rule_file (length text) then Err (at_place (no_place form) TextTooLong)
    else Ok text

-- the lines of a rule file: comments with what it presupposes, and its rules
abbrev pub file_lines :
    List (List ℕ) → Form → List (List ℕ) → List RuleView → List RuleView → List LineView
file_lines head form lines by_line rules =
    map (λ text. Comment text) head ++ commented form lines by_line 0 rules

-- the text of some rules, by the lines of the list and the numbers of the rules
abbrev pub text_of_rules :
    List (List ℕ) → Form → List ℕ → List RuleView → List RuleView → Result (List ℕ) ListFault
text_of_rules head form bytes by_line rules =
    unless_odd form (first_odd (family_of form) by_line 0 rules) rules >>= λ kept.
    within_limit form
    (list_text (family_of form) (file_lines head form (lines_of bytes) by_line kept))

-- the text of the rule file that is asked for, by the bytes of the list
abbrev pub text_of : Request → List ℕ → Result (List ℕ) ListFault
text_of request bytes =
    rules_for request bytes answers.Line >>= λ by_line.
    rules_for request bytes request.options.answers >>= λ rules.
    text_of_rules (premises request bytes) request.form bytes by_line rules
