-- The lines of a rule file: they have its rules, and each rule is one that a line can say.
use Rattle.std.proofs.Common.{◌≡◌, ℕ, ◌+◌, ◌==◌, List, [], ◌∷◌, ◌++◌, map, Some, None, refl, ap, ◌∙◌, inl, inr}
use Rattle.std.specs.List.{AllByRecursion}
use Rattle.std.proofs.lemmas.Bool.{cases_Bool}
use Rattle.field_defs.specs.declared.field.Family.{Family}
use Rattle.rule_set.specs.Rule.{RuleView}
use Rattle.rule_set.specs.Fault.{rule_fault}
use Rattle.classbench_reader.specs.Print.{IsPrintable, fields_of, has_prefixes}
use Rattle.printed_lists.specs.Listed.{Comment, IsPrintableLine, LineView, rules_of}
use Rattle.list_tool.specs.declared.words.Form.{Form}
use Rattle.list_tool.specs.Printed.{commented, file_lines, first_odd, number_at, number_before}

-- comments are no rules
rules_below : (form : Form) (lines : List (List ℕ)) (by_line : List RuleView) (place : ℕ) (rules : List RuleView) →
    rules_of (commented form lines by_line place rules) ≡ rules
rules_below form lines by_line place [] = refl
rules_below form lines by_line place (rule ∷ rules) =
    elim (cases_Bool (number_at by_line place == number_before by_line place)) [
      | inl e ↦ rw e (ap (λ (rs : List RuleView). rule ∷ rs) (rules_below form lines by_line (place + 1) rules))
      | inr e ↦ rw e (ap (λ (rs : List RuleView). rule ∷ rs) (rules_below form lines by_line (place + 1) rules))
    ]

-- a rule is lawful for the layout of its family
abbrev pub IsLawfulFor : Family → RuleView → Type 0
IsLawfulFor its rule = rule_fault (fields_of its) rule.tag rule.fields ≡ None

-- lawful rules whose addresses have prefixes can be said
printable_below : (its : Family) (form : Form) (lines : List (List ℕ)) (by_line : List RuleView) (place : ℕ)
    (rules : List RuleView) →
    AllByRecursion (IsLawfulFor its) rules → first_odd its by_line place rules ≡ None →
    AllByRecursion (IsPrintableLine its) (commented form lines by_line place rules)
printable_below its form lines by_line place [] lawful none = tt
printable_below its form lines by_line place (rule ∷ rules) lawful none =
    elim (cases_Bool (has_prefixes its rule.fields)) [
      | inl has ↦
          let rest = printable_below its form lines by_line (place + 1) rules lawful.1 (rw has at none) in
          let this : IsPrintable its rule = record { lawful = lawful.0; prefixes = has } in
          elim (cases_Bool (number_at by_line place == number_before by_line place)) [
            | inl e ↦ rw e (this, rest)
            | inr e ↦ rw e (tt, (this, rest))
          ]
      | inr not ↦ absurd (let no : Some (number_at by_line place) ≡ None = rw not at none in cc)
    ]

-- nor are those above all rules
after_head : (head : List (List ℕ)) (lines : List LineView) →
    rules_of (map (λ text. Comment text) head ++ lines) ≡ rules_of lines
after_head [] lines = refl
after_head (text ∷ head) lines = after_head head lines

pub rules_kept : (head : List (List ℕ)) (form : Form) (lines : List (List ℕ)) (by_line rules : List RuleView) →
    rules_of (file_lines head form lines by_line rules) ≡ rules
rules_kept head form lines by_line rules =
    after_head head (commented form lines by_line 0 rules) ∙ rules_below form lines by_line 0 rules

-- and they can be said
below_head : (its : Family) (head : List (List ℕ)) (lines : List LineView) →
    AllByRecursion (IsPrintableLine its) lines →
    AllByRecursion (IsPrintableLine its) (map (λ text. Comment text) head ++ lines)
below_head its [] lines all = all
below_head its (text ∷ head) lines all = (tt, below_head its head lines all)

pub printable : (its : Family) (head : List (List ℕ)) (form : Form) (lines : List (List ℕ))
    (by_line rules : List RuleView) →
    AllByRecursion (IsLawfulFor its) rules → first_odd its by_line 0 rules ≡ None →
    AllByRecursion (IsPrintableLine its) (file_lines head form lines by_line rules)
printable its head form lines by_line rules lawful none =
    below_head its head (commented form lines by_line 0 rules)
    (printable_below its form lines by_line 0 rules lawful none)
