-- The text of a list is a rule file of its rules.
use Rattle.std.proofs.Common.{◌≡◌, ℕ, ◌+◌, ◌≤◌, true, false, eqb, List, [], ◌∷◌, ◌++◌}
use Rattle.std.proofs.Common.{length, map, drop, Ok, Result, refl, ap, ◌∙◌, arith, append_assoc, inl, inr}
use Rattle.std.specs.Prelude.{codes}
use Rattle.std.specs.List.{list_all, AllByRecursion}
use Rattle.std.proofs.lemmas.Bool.{cases_Bool, le-ltb}
use Rattle.std.proofs.lemmas.List.Concat.{flat_map-cons}
use Rattle.std.proofs.lemmas.List.Elements.{recursion_from_All}
use Rattle.field_defs.specs.declared.field.Family.{Family}
use Rattle.field_defs.specs.declared.field.Family.TheVariants as family
use Rattle.rule_set.specs.Rule.{RuleView}
use Rattle.table_sizes.specs.Sizes.{max_rules}
use Rattle.text_scan.specs.Parts.{line_feed, carriage_return, lines_of}
use Rattle.text_scan.proofs.Offered.{ends_no_line, after_blanks-other}
use Rattle.classbench_reader.specs.declared.line.RuleLine.{RuleLine}
use Rattle.classbench_reader.specs.declared.rules_fault.LineFault.{LineFault}
use Rattle.classbench_reader.specs.Limits.{max_rule_file}
use Rattle.classbench_reader.specs.Line.{is_comment, is_skipped}
use Rattle.classbench_reader.specs.RuleFile.{by_family, line_then, numbered_from}
use Rattle.classbench_reader.specs.RuleFile.{rule_lines_from, rules_of_family}
use Rattle.classbench_reader.specs.Print.{line_text, line_of_rule}
use Rattle.printed_lists.specs.Laws.{PrintedListsAreFiles}
use Rattle.printed_lists.specs.Listed.{LineView, Comment, Rule, FitsLineTag, IsPrintableLine, comment_byte}
use Rattle.printed_lists.specs.Listed.{written_line, list_text, lists_of, rules_of}
use Rattle.printed_lists.proofs.Lines.{lines_of-more}
use Rattle.printed_lists.proofs.Rules.{IsReadBack, rule_read_back}

-- a byte of a comment ends no line
comment_byte_line : (c : ℕ) → ends_no_line (comment_byte c) ≡ true
comment_byte_line c = elim (cases_Bool (eqb c line_feed)) [
  | inl feed ↦ rw feed refl
  | inr other ↦ elim (cases_Bool (eqb c carriage_return)) [
    | inl return ↦ rw (other, return) refl
    | inr neither ↦ rw (other, neither, other, neither) refl
  ]
]

-- nor do all of them
comment_line : (text : List ℕ) → list_all ends_no_line (map comment_byte text) ≡ true
comment_line [] = refl
comment_line (c ∷ text) = rw (comment_byte_line c) (comment_line text)

-- what each line of a list reads back as
abbrev ReadsBackLine : Family → LineView → Type 0
ReadsBackLine its (Comment text) = Unit {0}
ReadsBackLine its (Rule rule) = IsReadBack its rule

-- the lines of rules that a list has
abbrev said : Family → List LineView → List RuleLine
said its lines = map (line_of_rule its) (rules_of lines)

-- what the text of lines says as rules, from a number and an ordinal on
abbrev says : ℕ → ℕ → List ℕ → Result (List RuleLine) LineFault
says number ordinal text = rule_lines_from ordinal (numbered_from number (lines_of text))

-- a skipped line says nothing
says_skipped : (number ordinal : ℕ) (line rest : List ℕ) → list_all ends_no_line line ≡ true → is_skipped line ≡ true
    → says number ordinal (line ++ line_feed ∷ rest) ≡ says (number + 1) ordinal rest
says_skipped number ordinal line rest plain skipped =
    let cut : lines_of (line ++ line_feed ∷ rest) ≡ line ∷ lines_of rest = lines_of-more line rest plain in
    let numbered : numbered_from number (line ∷ lines_of rest) ≡ numbered_from (number + 1) (lines_of rest) =
    rw skipped refl in
    ap (λ lines. rule_lines_from ordinal (numbered_from number lines)) cut ∙ ap (rule_lines_from ordinal) numbered

-- the line of a rule says the rule, before what follows it
says_more : (its : Family) (rule : RuleView) (number ordinal : ℕ) (rest : List ℕ) → IsReadBack its rule
    → ordinal ≤ max_rules
    → says number ordinal (line_text (line_of_rule its rule) ++ line_feed ∷ rest)
    ≡ line_then number (Ok (line_of_rule its rule)) (says (number + 1) (ordinal + 1) rest)
says_more its rule number ordinal rest back within =
    let line = line_text (line_of_rule its rule) in
    let kept : is_skipped line ≡ false = ap is_comment (after_blanks-other 64 (drop 1 line) refl) in
    let cut : lines_of (line ++ line_feed ∷ rest) ≡ line ∷ lines_of rest = lines_of-more line rest back.line in
    let numbered : numbered_from number (line ∷ lines_of rest)
    ≡ (number, line) ∷ numbered_from (number + 1) (lines_of rest) = rw kept refl in
    ap (λ lines. rule_lines_from ordinal (numbered_from number lines)) cut ∙ ap (rule_lines_from ordinal) numbered
    ∙ rw (le-ltb max_rules ordinal within, back.read ordinal) refl

-- the text of a list says its rules
says_all : (its : Family) (lines : List LineView) (number ordinal : ℕ) → AllByRecursion (ReadsBackLine its) lines
    → ordinal + length (rules_of lines) ≤ max_rules + 1
    → says number ordinal (list_text its lines) ≡ Ok (said its lines)
says_all its [] number ordinal all few = refl
says_all its (Comment text ∷ lines) number ordinal all few =
    let line = codes "# " ++ map comment_byte text in
    let skipped : is_skipped line ≡ true = ap is_comment (after_blanks-other 35 (drop 1 line) refl) in
    ap (says number ordinal)
    (flat_map-cons (written_line its) (Comment text) lines
    ∙ append_assoc line (line_feed ∷ []) (list_text its lines))
    ∙ says_skipped number ordinal line (list_text its lines) (comment_line text) skipped
    ∙ says_all its lines (number + 1) ordinal all.1 few
says_all its (Rule rule ∷ lines) number ordinal all few =
    ap (says number ordinal)
    (flat_map-cons (written_line its) (Rule rule) lines
    ∙ append_assoc (line_text (line_of_rule its rule)) (line_feed ∷ []) (list_text its lines))
    ∙ says_more its rule number ordinal (list_text its lines) all.0 (omega (arith, few))
    ∙ ap (line_then number (Ok (line_of_rule its rule)))
    (says_all its lines (number + 1) (ordinal + 1) all.1 (omega (arith, few)))

-- with one rule more
one_more : (its : Family) (rule : RuleView) (rules : List RuleView) (others : List RuleLine) → IsReadBack its rule
    → rules_of_family its others ≡ rules
    → rules_of_family its (line_of_rule its rule ∷ others) ≡ rule ∷ rules
one_more family.Ip4 rule rules others back is = rw back.of_family (λ i. back.says i ∷ is i)
one_more family.Ip6 rule rules others back is = rw back.of_family (λ i. back.says i ∷ is i)

-- the rules of a family are those of the list
of_family : (its : Family) (lines : List LineView) → AllByRecursion (ReadsBackLine its) lines
    → rules_of_family its (said its lines) ≡ rules_of lines
of_family its [] all = refl
of_family its (Comment text ∷ lines) all = of_family its lines all.1
of_family its (Rule rule ∷ lines) all =
    one_more its rule (rules_of lines) (said its lines) all.0 (of_family its lines all.1)

-- the other family has none
none_of_ip6 : (lines : List LineView) → AllByRecursion (ReadsBackLine family.Ip4) lines
    → rules_of_family family.Ip6 (said family.Ip4 lines) ≡ []
none_of_ip6 [] all = refl
none_of_ip6 (Comment text ∷ lines) all = none_of_ip6 lines all.1
none_of_ip6 (Rule rule ∷ lines) all = rw all.0.of_family (none_of_ip6 lines all.1)

-- nor has IPv4 any of an IPv6 list
none_of_ip4 : (lines : List LineView) → AllByRecursion (ReadsBackLine family.Ip6) lines
    → rules_of_family family.Ip4 (said family.Ip6 lines) ≡ []
none_of_ip4 [] all = refl
none_of_ip4 (Comment text ∷ lines) all = none_of_ip4 lines all.1
none_of_ip4 (Rule rule ∷ lines) all = rw all.0.of_family (none_of_ip4 lines all.1)

-- so by family they are the list's
by_family_said : (its : Family) (lines : List LineView) → AllByRecursion (ReadsBackLine its) lines
    → by_family (Ok (said its lines)) ≡ Ok (lists_of its (rules_of lines))
by_family_said family.Ip4 lines all =
    λ i. Ok (record { ip4 = of_family family.Ip4 lines all i; ip6 = none_of_ip6 lines all i })
by_family_said family.Ip6 lines all =
    λ i. Ok (record { ip4 = none_of_ip4 lines all i; ip6 = of_family family.Ip6 lines all i })

-- each line reads back
lines_read_back : (its : Family) (lines : List LineView)
    → AllByRecursion (IsPrintableLine its) lines → AllByRecursion FitsLineTag lines
    → AllByRecursion (ReadsBackLine its) lines
lines_read_back its [] printable fits = tt
lines_read_back its (Comment text ∷ lines) printable fits = (tt, lines_read_back its lines printable.1 fits.1)
lines_read_back its (Rule rule ∷ lines) printable fits =
    (rule_read_back its rule printable.0 fits.0, lines_read_back its lines printable.1 fits.1)

-- the text of a list is a rule file of its rules
pub printed_lists_are_files : PrintedListsAreFiles
printed_lists_are_files its lines printable fits few short =
    let back = lines_read_back its lines (recursion_from_All (IsPrintableLine its) lines printable)
    (recursion_from_All FitsLineTag lines fits) in
    let said_all = says_all its lines 1 1 back (omega (arith, few)) in
    rw (le-ltb max_rule_file (length (list_text its lines)) short, said_all) (by_family_said its lines back)
