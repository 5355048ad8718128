-- What is said of two lists, and what isn't.
use Rattle.std.proofs.Common.{◌≡◌, ℕ, ◌+◌, ◌<◌, List, inl, inr, ◌++◌, length, Bool, true, false, Result, Ok, Err}
use Rattle.std.proofs.Common.{refl, sym, ap, ◌∙◌}
use Rattle.std.specs.Prelude.{nat_lt, if◌then◌else◌}
use Rattle.std.proofs.lemmas.Bool.{cases_Bool, lt-ltb, ltb-true}
use Rattle.field_defs.specs.declared.field.Family.{Family}
use Rattle.field_defs.specs.declared.field.Family.TheVariants.{Ip4, Ip6}
use Rattle.table_sizes.specs.Sizes.{max_rules}
use Rattle.rule_set.specs.Rule.{RuleSetView}
use Rattle.acl_audit.specs.declared.compare.CompareFault.{CompareFault}
use Rattle.acl_audit.specs.declared.compare.CompareFault.TheVariants as faults
use Rattle.acl_audit.specs.Compared.{is_too_large}
use Rattle.classbench_reader.specs.RuleFile.{RuleLists}
use Rattle.audit_report.specs.Compare.{compared_text}
use Rattle.command_ending.specs.declared.status.Status.{Status}
use Rattle.command_ending.specs.declared.status.Status.TheVariants.{TooLarge, TooManyTogether}
use Rattle.acl_tool.specs.FamilySet.{set_of}
use Rattle.acl_tool.specs.Texts.{◌>>=◌, Refuses, is_refusal}
use Rattle.acl_tool.specs.CompareLines.{compare_of, compare_refused, compared_within}

-- a number that isn't above another isn't told so
le-ltb-false : (a b : ℕ) → (a < b → ⊥) → nat_lt a b ≡ false
le-ltb-false a b never = elim (cases_Bool (nat_lt a b)) [
  | inl above ↦ absurd (never (ltb-true a b above))
  | inr not_above ↦ not_above
]

module _ (budget : ℕ) (family : Family) (one two : RuleSetView) where
  -- what is said of a family, by both tests
  abbrev by_tests : Bool → Bool → Result (List ℕ) Status
  by_tests many large =
      if many then Err TooManyTogether
      else if large then Err (TooLarge family (budget + 1) budget)
      else Ok (compared_text family one two)

  -- the line that is said is that of the lists
  line_said : (text : List ℕ) → compared_within budget family one two ≡ Ok text → compared_text family one two ≡ text
  line_said text is = go (nat_lt max_rules (length one.rules + length two.rules)) (is_too_large one two budget) is
    where
      go : (many large : Bool) → by_tests many large ≡ Ok text → compared_text family one two ≡ text
      go true large e = absurd (cc)
      go false true e = absurd (cc)
      go false false e = cc

  -- and a fault is a refusal
  refusal_said : (status : Status) → compared_within budget family one two ≡ Err status → is_refusal status ≡ true
  refusal_said status is =
      go (nat_lt max_rules (length one.rules + length two.rules)) (is_too_large one two budget) is
    where
      go : (many large : Bool) → by_tests many large ≡ Err status → is_refusal status ≡ true
      go true large e = let same : TooManyTogether ≡ status = cc in rw (← same) refl
      go false true e = let same : TooLarge family (budget + 1) budget ≡ status = cc in rw (← same) refl
      go false false e = absurd (cc)

  -- rules that aren't too many and need no more words than the budget have a line
  pub line_is : (max_rules < length one.rules + length two.rules → ⊥) → is_too_large one two budget ≡ false →
      compared_within budget family one two ≡ Ok (compared_text family one two)
  line_is few fits =
      rw (le-ltb-false max_rules (length one.rules + length two.rules) few, fits) refl

  -- too many rules are refused as such
  many_is : max_rules < length one.rules + length two.rules →
      compared_within budget family one two ≡ Err TooManyTogether
  many_is many = rw (lt-ltb max_rules (length one.rules + length two.rules) many) refl

  -- and others that need more words, with one word more than the budget
  large_is : (words most : ℕ) → (max_rules < length one.rules + length two.rules → ⊥) →
      is_too_large one two budget ≡ true → words ≡ budget + 1 → most ≡ budget →
      compared_within budget family one two ≡ Err (TooLarge family words most)
  large_is words most few large told is =
      rw (le-ltb-false max_rules (length one.rules + length two.rules) few, large)
      (λ i. Err (TooLarge family (sym told i) (sym is i)))

  -- a comparison that is refused is refused as is said
  pub refused_is : (fault : CompareFault) →
      (fault ≡ faults.TooManyRules → max_rules < length one.rules + length two.rules) →
      (max_rules < length one.rules + length two.rules → fault ≡ faults.TooManyRules) →
      ((words most : ℕ) → fault ≡ faults.TooLarge words most →
      (is_too_large one two budget ≡ true) × (words ≡ budget + 1) × (most ≡ budget)) →
      Refuses (compared_within budget family one two) (compare_refused family fault)
  refused_is faults.TooManyRules many told large = inl (many_is (many refl), refl)
  refused_is (faults.TooLarge words most) many told large =
      let its = large words most refl in
      inl (large_is words most (λ above. absurd (let e = told above in cc)) its.0 its.1 its.2, refl)
  refused_is faults.OutOfMemory many told large = inr refl

module _ (budget : ℕ) (one two : RuleLists) where
  -- the lines of both families, each as it was compared
  abbrev lines_by : Result (List ℕ) Status → Result (List ℕ) Status → Result (List ℕ) Status
  lines_by first second = first >>= λ ip4. second >>= λ ip6. Ok (ip4 ++ ip6)

  -- the line of a family
  abbrev pub line_in : Family → Result (List ℕ) Status
  line_in family = compared_within budget family (set_of family one) (set_of family two)

  -- what is said of two lists are the lines of both families
  pub said_lines : (text : List ℕ) → compare_of budget one two ≡ Ok text →
      compared_text Ip4 (set_of Ip4 one) (set_of Ip4 two) ++ compared_text Ip6 (set_of Ip6 one) (set_of Ip6 two) ≡ text
  said_lines text is = go (line_in Ip4) (line_in Ip6) refl refl is
    where
      go : (first second : Result (List ℕ) Status) → line_in Ip4 ≡ first → line_in Ip6 ≡ second →
          lines_by first second ≡ Ok text →
          compared_text Ip4 (set_of Ip4 one) (set_of Ip4 two) ++ compared_text Ip6 (set_of Ip6 one) (set_of Ip6 two)
          ≡ text
      go (Ok ip4) (Ok ip6) at_ip4 at_ip6 e =
          ap (λ (l : List ℕ). l ++ compared_text Ip6 (set_of Ip6 one) (set_of Ip6 two))
          (line_said budget Ip4 (set_of Ip4 one) (set_of Ip4 two) ip4 at_ip4)
          ∙ ap (λ (l : List ℕ). ip4 ++ l) (line_said budget Ip6 (set_of Ip6 one) (set_of Ip6 two) ip6 at_ip6)
          ∙ (let same : ip4 ++ ip6 ≡ text = cc in same)
      go (Ok ip4) (Err fault) at_ip4 at_ip6 e = absurd (cc)
      go (Err fault) second at_ip4 at_ip6 e = absurd (cc)

  -- if nothing is said of two lists, their rules are refused
  pub said_refusal : (status : Status) → compare_of budget one two ≡ Err status → is_refusal status ≡ true
  said_refusal status is = go (line_in Ip4) (line_in Ip6) refl refl is
    where
      go : (first second : Result (List ℕ) Status) → line_in Ip4 ≡ first → line_in Ip6 ≡ second →
          lines_by first second ≡ Err status → is_refusal status ≡ true
      go (Ok ip4) (Ok ip6) at_ip4 at_ip6 e = absurd (cc)
      go (Ok ip4) (Err fault) at_ip4 at_ip6 e =
          let same : fault ≡ status = cc in
          refusal_said budget Ip6 (set_of Ip6 one) (set_of Ip6 two) status (at_ip6 ∙ ap Err same)
      go (Err fault) second at_ip4 at_ip6 e =
          let same : fault ≡ status = cc in
          refusal_said budget Ip4 (set_of Ip4 one) (set_of Ip4 two) status (at_ip4 ∙ ap Err same)

  -- where both families are compared, the text is that of both lines
  pub both_said : line_in Ip4 ≡ Ok (compared_text Ip4 (set_of Ip4 one) (set_of Ip4 two)) →
      line_in Ip6 ≡ Ok (compared_text Ip6 (set_of Ip6 one) (set_of Ip6 two)) →
      compare_of budget one two
      ≡ Ok (compared_text Ip4 (set_of Ip4 one) (set_of Ip4 two) ++ compared_text Ip6 (set_of Ip6 one) (set_of Ip6 two))
  both_said first second = λ i. lines_by (first i) (second i)

  -- the first family refuses, or the second one after it
  pub first_stops : (status : Status) → Refuses (line_in Ip4) status → Refuses (compare_of budget one two) status
  first_stops status (inl (is, refusal)) = inl (λ i. lines_by (is i) (line_in Ip6), refusal)
  first_stops status (inr full) = inr full

  -- a comparison is refused if the second family is and the first isn't
  pub second_stops : (status : Status) → line_in Ip4 ≡ Ok (compared_text Ip4 (set_of Ip4 one) (set_of Ip4 two)) →
      Refuses (line_in Ip6) status → Refuses (compare_of budget one two) status
  second_stops status first (inl (is, refusal)) = inl (λ i. lines_by (first i) (is i), refusal)
  second_stops status first (inr full) = inr full
