-- The rules of an accepted file are lawful.
use Rattle.std.proofs.Common.{◌≡◌, ℕ, ◌+◌, ◌<◌, ◌≤◌, ◌^◌, nat_lt, List, [], ◌∷◌, length, None, Result, Ok, Err, All}
use Rattle.std.proofs.Common.{refl, subst, arith, inl, inr}
use Rattle.std.proofs.lemmas.Bool.{cases_Bool}
use Rattle.std.proofs.lemmas.List.Elements.{All-nil, All-cons, All-head, All-tail}
use Rattle.field_defs.specs.Layout.{ip4_fields, ip6_fields}
use Rattle.field_defs.specs.declared.field.Family.{Family}
use Rattle.field_defs.specs.declared.field.Family.TheVariants as family
use Rattle.rule_set.specs.Fault.{rule_fault}
use Rattle.table_sizes.specs.Sizes.{max_rules}
use Rattle.rule_set.specs.Rule.{RuleView}
use Rattle.text_scan.specs.Parts.{lines_of}
use Rattle.classbench_reader.specs.declared.rules_fault.LineFault.{LineFault}
use Rattle.classbench_reader.specs.declared.rules_fault.LineKind.{LineKind}
use Rattle.classbench_reader.specs.declared.line.RuleLine.{RuleLine}
use Rattle.classbench_reader.specs.Accepted.{AcceptedRulesAreLawful, HoldsLawfulRules}
use Rattle.classbench_reader.specs.Limits.{max_rule_file}
use Rattle.classbench_reader.specs.Line.{family_of_line, rule_of, same_family}
use Rattle.classbench_reader.specs.RuleFile.{RuleLists, by_family, counted_line_of, line_then, numbered_from}
use Rattle.classbench_reader.specs.RuleFile.{rule_lines_from, rules_of_family}
use Rattle.classbench_reader.proofs.FileLines.{length-rules_of_family, within_limit}
use Rattle.classbench_reader.proofs.LawfulLines.{one_family, rule_fault-ip4, rule_fault-ip6}
use Rattle.classbench_reader.proofs.LineBounds.{IsReadLine, line_lawful}

-- a line that was read as one more rule is lawful
counted_lawful : (ordinal : ℕ) (text : List ℕ) (line : RuleLine) → counted_line_of ordinal text ≡ Ok line →
    IsReadLine line
counted_lawful ordinal text line is = elim (cases_Bool (nat_lt max_rules ordinal)) [
  | inl above ↦ absurd (let fault = rw above at is in cc)
  | inr within ↦ line_lawful ordinal text line (within_limit ordinal text line is) (rw within at is)
]

-- What a line and the lines after it say.
record IsLineThen (said : Result RuleLine LineKind) (others : Result (List RuleLine) LineFault) (lines : List RuleLine)
    : Type 0 where
  first : RuleLine
  left : List RuleLine
  first_said : said ≡ Ok first
  left_said : others ≡ Ok left
  are : first ∷ left ≡ lines

-- if a line and those after it were read, each was read, and they are all that was read
line_then_split : (number : ℕ) (said : Result RuleLine LineKind) (others : Result (List RuleLine) LineFault)
    (lines : List RuleLine) → line_then number said others ≡ Ok lines → IsLineThen said others lines
line_then_split number (Err kind) others lines is = absurd (cc)
line_then_split number (Ok line) (Err fault) lines is = absurd (cc)
line_then_split number (Ok line) (Ok left) lines is =
    record { first = line; left = left; first_said = refl; left_said = refl; are = cc }

-- The lines were read, and there are no more than there may be.
record AreRead (ordinal : ℕ) (lines : List RuleLine) : Type 0 where
  all : All IsReadLine lines
  few : ordinal + length lines ≤ max_rules + 1

-- numbered lines that were read are lawful, and there are no more than there may be
lines_lawful : (ordinal : ℕ) (numbered : List (ℕ × List ℕ)) (lines : List RuleLine) → ordinal ≤ max_rules + 1 →
    rule_lines_from ordinal numbered ≡ Ok lines → AreRead ordinal lines
lines_lawful ordinal [] lines few is =
    let none : [] ≡ lines = cc in
    subst (AreRead ordinal) none record { all = All-nil IsReadLine; few = omega (arith, few) }
lines_lawful ordinal (line ∷ numbered) lines few is =
    let split = line_then_split line.0 (counted_line_of ordinal line.1) (rule_lines_from (ordinal + 1) numbered) lines
    is in
    let within = within_limit ordinal line.1 split.first split.first_said in
    let left = lines_lawful (ordinal + 1) numbered split.left (omega (arith, within)) split.left_said in
    subst (AreRead ordinal) split.are
    record {
      all = All-cons IsReadLine split.first split.left
          (counted_lawful ordinal line.1 split.first split.first_said) left.all;
      few = omega (arith, left.few);
    }

-- what holds of the rule of each line of a family holds of the family's rules
family_rules : (kept : Family) (P : RuleView → Type 0) →
    ((line : RuleLine) → IsReadLine line → family_of_line line ≡ kept → P (rule_of line)) →
    (lines : List RuleLine) → All IsReadLine lines → All P (rules_of_family kept lines)
family_rules kept P holds [] all = All-nil P
family_rules kept P holds (line ∷ lines) all =
    let rest = family_rules kept P holds lines (All-tail IsReadLine line lines all) in
    elim (cases_Bool (same_family (family_of_line line) kept)) [
      | inl same ↦
          let here = holds line (All-head IsReadLine line lines all) (one_family (family_of_line line) kept same) in
          rw same (All-cons P (rule_of line) (rules_of_family kept lines) here rest)
      | inr other ↦ rw other rest
    ]

-- lawful lines make lawful rules of each family
file_lawful : (lines : List RuleLine) → AreRead 1 lines →
    HoldsLawfulRules (record { ip4 = rules_of_family family.Ip4 lines; ip6 = rules_of_family family.Ip6 lines })
file_lawful lines read = record {
  ip4_rules = record {
    lawful = family_rules family.Ip4 (λ rule. rule_fault ip4_fields rule.tag rule.fields ≡ None)
        (λ line its four. rule_fault-ip4 line its.lawful four) lines read.all;
    few = omega (arith, read.few, length-rules_of_family family.Ip4 lines);
  };
  ip6_rules = record {
    lawful = family_rules family.Ip6 (λ rule. rule_fault ip6_fields rule.tag rule.fields ≡ None)
        (λ line its six. rule_fault-ip6 line its.lawful six) lines read.all;
    few = omega (arith, read.few, length-rules_of_family family.Ip6 lines);
  };
  ip4_userdata = family_rules family.Ip4 (λ rule. rule.tag.userdata < 2 ^ 32) (λ line its four. its.userdata) lines
      read.all;
  ip6_userdata = family_rules family.Ip6 (λ rule. rule.tag.userdata < 2 ^ 32) (λ line its six. its.userdata) lines
      read.all;
}

-- and so do lines of which only is known that they are lawful if they were read
lists_lawful : (found : Result (List RuleLine) LineFault) (lists : RuleLists) →
    ((lines : List RuleLine) → found ≡ Ok lines → AreRead 1 lines) → by_family found ≡ Ok lists →
    HoldsLawfulRules lists
lists_lawful (Err fault) lists read is = absurd (cc)
lists_lawful (Ok lines) lists read is =
    let its : RuleLists =
    record { ip4 = rules_of_family family.Ip4 lines; ip6 = rules_of_family family.Ip6 lines } in
    let same : its ≡ lists = cc in
    subst HoldsLawfulRules same (file_lawful lines (read lines refl))

-- the rules of an accepted file are lawful, whatever its bytes are
pub accepted_rules_are_lawful : AcceptedRulesAreLawful
accepted_rules_are_lawful bytes lists is = elim (cases_Bool (nat_lt max_rule_file (length bytes))) [
  | inl long ↦ absurd (let fault = rw long at is in cc)
  | inr short ↦
      let numbered = numbered_from 1 (lines_of bytes) in
      lists_lawful (rule_lines_from 1 numbered) lists (λ lines. lines_lawful 1 numbered lines (omega arith))
      (rw short at is)
]
