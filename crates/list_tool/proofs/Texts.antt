-- The text of some rules: it is what is defined, and it is read as these rules.
use Rattle.std.proofs.Common.{◌≡◌, ℕ, ◌≤◌, List, length, None, Ok, Err, refl, sym, ap, subst, ◌∙◌, nat_lt, true, false}
use Rattle.std.proofs.lemmas.Bool.{ltb-false}
use Rattle.std.proofs.lemmas.List.Elements.{All-from_recursion, recursion_from_All}
use Rattle.std.specs.Prelude.{All}
use Rattle.field_defs.specs.declared.field.Family.{Family}
use Rattle.rule_set.specs.Rule.{RuleView, RuleSetView}
use Rattle.rule_set.specs.Fault.{rule_fault}
use Rattle.rule_set.specs.RuleSet.{IsRuleSet}
use Rattle.table_sizes.specs.Sizes.{max_rules}
use Rattle.text_scan.specs.Parts.{lines_of}
use Rattle.classbench_reader.specs.Limits.{max_rule_file}
use Rattle.classbench_reader.specs.Print.{fields_of}
use Rattle.classbench_reader.specs.RuleFile.{rule_file_of}
use Rattle.printed_lists.specs.Laws.{ReadsBack}
use Rattle.printed_lists.specs.Listed.{IsPrintableLine, LineView, list_text, lists_of}
use Rattle.list_tool.specs.declared.status.ListKind.TheVariants.{TextTooLong}
use Rattle.list_tool.specs.declared.words.Form.{Form}
use Rattle.list_tool.specs.Listing.{at_place, family_of, no_place}
use Rattle.list_tool.specs.Printed.{file_lines, first_odd, text_of_rules, within_limit}
use Rattle.list_tool.proofs.Commented.{IsLawfulFor, printable, rules_kept}

-- the lines of a set whose addresses have prefixes are such that can be printed
pub lines_printable : (its : Family) (head : List (List ℕ)) (form : Form) (lines : List (List ℕ))
    (by_line : List RuleView) (set : RuleSetView) (views : List LineView) →
    IsRuleSet set → set.layout ≡ fields_of its → first_odd its by_line 0 set.rules ≡ None →
    views ≡ file_lines head form lines by_line set.rules → All (IsPrintableLine its) views
lines_printable its head form lines by_line set views it layout none is =
    let lawful : All (IsLawfulFor its) set.rules =
    subst (λ l. All (λ (rule : RuleView). rule_fault l rule.tag rule.fields ≡ None) set.rules) layout it.lawful in
    subst (All (IsPrintableLine its)) (sym is)
    (All-from_recursion (IsPrintableLine its) (file_lines head form lines by_line set.rules)
    (printable its head form lines by_line set.rules (recursion_from_All (IsLawfulFor its) set.rules lawful) none))

module _ (head : List (List ℕ)) (form : Form) (bytes : List ℕ) (by_line rules : List RuleView) (text : List ℕ)
    (none : first_odd (family_of form) by_line 0 rules ≡ None)
    (is : text ≡ list_text (family_of form) (file_lines head form (lines_of bytes) by_line rules)) where
  -- all of it is judged by its length
  judged : text_of_rules head form bytes by_line rules ≡ within_limit form text
  judged = rw none (ap (within_limit form) (sym is))

  -- the text within the limit
  pub text_is : nat_lt max_rule_file (length text) ≡ false → text_of_rules head form bytes by_line rules ≡ Ok text
  text_is short = judged ∙ rw short refl

  -- and above it
  pub text_long : nat_lt max_rule_file (length text) ≡ true →
      text_of_rules head form bytes by_line rules ≡ Err (at_place (no_place form) TextTooLong)
  text_long long = judged ∙ rw long refl

  -- it is read as the rules
  pub text_read : length rules ≤ max_rules → nat_lt max_rule_file (length text) ≡ false →
      ReadsBack (family_of form) (file_lines head form (lines_of bytes) by_line rules) →
      rule_file_of text ≡ Ok (lists_of (family_of form) rules)
  text_read few short reads =
      let kept = rules_kept head form (lines_of bytes) by_line rules in
      let fits : length (list_text (family_of form) (file_lines head form (lines_of bytes) by_line rules))
      ≤ max_rule_file =
      subst (λ (t : List ℕ). length t ≤ max_rule_file) is (ltb-false max_rule_file (length text) short) in
      ap rule_file_of is
      ∙ reads (subst (λ (rs : List RuleView). length rs ≤ max_rules) (sym kept) few) fits
      ∙ ap (λ rs. Ok (lists_of (family_of form) rs)) kept
