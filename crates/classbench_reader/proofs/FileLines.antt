-- The rules of the lines that were read, and what the lines that are left say.
use Rattle.std.proofs.Common.{◌≡◌, ℕ, ◌+◌, ◌<◌, ◌≤◌, true, false, nat_lt, List, [], ◌∷◌, ◌++◌, length, ◌⊎◌, Result, Ok, Err}
use Rattle.std.proofs.Common.{refl, sym, ap, ◌∙◌, arith, inl, inr, append_assoc, append-nil, length-append}
use Rattle.std.proofs.lemmas.Bool.{cases_Bool, cond-true, ltb-false, le-ltb}
use Rattle.field_defs.specs.Layout.{ip4_fields, ip6_fields}
use Rattle.field_defs.specs.declared.field.Family.{Family}
use Rattle.field_defs.specs.declared.field.Family.TheVariants as family
use Rattle.table_sizes.specs.Sizes.{max_rules}
use Rattle.rule_set.specs.Rule.{RuleView, RuleSetView}
use Rattle.text_scan.specs.Parts.{lines_of}
use Rattle.classbench_reader.specs.declared.rules_fault.LineFault.{LineFault}
use Rattle.classbench_reader.specs.declared.rules_fault.LineKind.{LineKind}
use Rattle.classbench_reader.specs.declared.rules_fault.LineKind.TheVariants.{TooManyRules}
use Rattle.classbench_reader.specs.declared.rules_fault.RulesFault.{RulesFault}
use Rattle.classbench_reader.specs.declared.rules_fault.RulesFault.TheVariants.{Line, OutOfMemory}
use Rattle.classbench_reader.specs.declared.line.RuleLine.{RuleLine}
use Rattle.classbench_reader.specs.declared.rule_file.RuleFile.{RuleFile}
use Rattle.classbench_reader.specs.Limits.{max_rule_file}
use Rattle.classbench_reader.specs.Line.{is_skipped, rule_of, rule_line_of, family_of_line, same_family}
use Rattle.classbench_reader.specs.RuleFile.{numbered_from, counted_line_of, line_then, rule_lines_from}
use Rattle.classbench_reader.specs.RuleFile.{rules_of_family, rule_file_of}
use Rattle.classbench_reader.specs.Files.{HoldsRules, HasRoom, file_with, ReadsLine, IsFaulty, RefusesLine}

-- lines that were read before what the lines after them say
unfoldable pub after_lines : List RuleLine → Result (List RuleLine) LineFault → Result (List RuleLine) LineFault
after_lines lines (Ok others) = Ok (lines ++ others)
after_lines lines (Err fault) = Err fault

-- Of the lines of a file so many were read, and `left` comes after them. They said some rules, which the file
-- holds, and these and what the lines that are left say are what the lines of the file say.
pub record IsReadUpTo (bytes : List ℕ) (file : RuleFile) (number ordinal : ℕ) (left : List ℕ) : Type 0 where
  pub lines : List RuleLine
  pub counted : ordinal ≡ length lines + 1
  pub few : ordinal ≤ max_rules + 1
  pub long : number + length left ≤ length bytes
  pub ip4 : file.ip4 ≡ record { layout = ip4_fields; rules = rules_of_family family.Ip4 lines }
  pub ip6 : file.ip6 ≡ record { layout = ip6_fields; rules = rules_of_family family.Ip6 lines }
  pub joined :
      rule_lines_from 1 (numbered_from 1 (lines_of bytes))
      ≡ after_lines lines (rule_lines_from ordinal (numbered_from (number + 1) (lines_of left)))

-- with no line read before them, the others say what all say
after_lines-nil : (others : Result (List RuleLine) LineFault) → after_lines [] others ≡ others
unfolding after_lines
after_lines-nil (Ok lines) = refl
after_lines-nil (Err fault) = refl

-- one more line was read
after_lines-more : (lines : List RuleLine) (number : ℕ) (line : RuleLine) (others : Result (List RuleLine) LineFault)
    → after_lines lines (line_then number (Ok line) others) ≡ after_lines (lines ++ line ∷ []) others
unfolding after_lines
after_lines-more lines number line (Ok others) = ap Ok (sym (append_assoc lines (line ∷ []) others))
after_lines-more lines number line (Err fault) = refl

-- nothing was read
pub IsReadUpTo-none : (bytes : List ℕ) (file : RuleFile) → file.ip4 ≡ record { layout = ip4_fields; rules = [] }
    → file.ip6 ≡ record { layout = ip6_fields; rules = [] } → IsReadUpTo bytes file 0 1 bytes
IsReadUpTo-none bytes file four six = record {
  lines = [];
  counted = refl;
  few = omega arith;
  long = omega arith;
  ip4 = four;
  ip6 = six;
  joined = sym (after_lines-nil (rule_lines_from 1 (numbered_from 1 (lines_of bytes))));
}

-- a line that is not skipped is the next one that has a number among the rules
numbered-rule : (number : ℕ) (line : List ℕ) (lines : List (List ℕ)) → is_skipped line ≡ false
    → numbered_from number (line ∷ lines) ≡ (number, line) ∷ numbered_from (number + 1) lines
numbered-rule number line lines kept = rw kept refl

-- and one that is skipped has none
numbered-skipped : (number : ℕ) (line : List ℕ) (lines : List (List ℕ)) → is_skipped line ≡ true
    → numbered_from number (line ∷ lines) ≡ numbered_from (number + 1) lines
numbered-skipped number line lines skipped = rw skipped refl

-- the next line, and what comes after it
pub record IsNextLine (bytes : List ℕ) (file : RuleFile) (number ordinal : ℕ) (left line rest : List ℕ) : Type 0 where
  pub short : length bytes ≤ max_rule_file
  pub read : IsReadUpTo bytes file number ordinal left
  pub cut : lines_of left ≡ line ∷ lines_of rest
  pub shorter : length rest < length left

-- a fault is no line
no_line : (kind : LineKind) (says : RuleLine) → Err kind ≡ Ok says → ⊥
no_line kind says is = cc

-- there are no more rules than there may be
pub within_limit : (ordinal : ℕ) (line : List ℕ) (says : RuleLine) → counted_line_of ordinal line ≡ Ok says
    → ordinal ≤ max_rules
within_limit ordinal line says read =
    elim (cases_Bool (nat_lt max_rules ordinal)) [
      | inl above ↦ absurd (no_line TooManyRules says
          (sym (cond-true (nat_lt max_rules ordinal) (Err TooManyRules) (rule_line_of ordinal line) above) ∙ read))
      | inr within ↦ ltb-false max_rules ordinal within
    ]

-- the rules of a family with those of one line more
rules_of_family-more : (kept : Family) (lines : List RuleLine) (line : RuleLine)
    → rules_of_family kept (lines ++ line ∷ []) ≡ rules_of_family kept lines ++ rules_of_family kept (line ∷ [])
rules_of_family-more kept [] line = refl
rules_of_family-more kept (first ∷ lines) line =
    elim (cases_Bool (same_family (family_of_line first) kept)) [
      | inl same ↦ rw same (ap (λ rules. rule_of first ∷ rules) (rules_of_family-more kept lines line))
      | inr other ↦ rw other (rules_of_family-more kept lines line)
    ]

-- rules as a set of the IPv4 layout
abbrev ip4_set : List RuleView → RuleSetView
ip4_set rules = record { layout = ip4_fields; rules = rules }

-- rules as a set of the IPv6 layout
abbrev ip6_set : List RuleView → RuleSetView
ip6_set rules = record { layout = ip6_fields; rules = rules }

-- what the lines say stands in the file
record Holds (lines : List RuleLine) (file : RuleFile) : Type 0 where
  four : file.ip4 ≡ ip4_set (rules_of_family family.Ip4 lines)
  six : file.ip6 ≡ ip6_set (rules_of_family family.Ip6 lines)

-- a set with one rule more
abbrev set_with : RuleView → RuleSetView → RuleSetView
set_with rule set = record set { rules = set.rules ++ rule ∷ [] }

-- one more line adds its rule to those of its family
holds-more : (lines : List RuleLine) (line : RuleLine) (file : RuleFile) (its : Family) → family_of_line line ≡ its
    → Holds lines file → Holds (lines ++ line ∷ []) (file_with its (rule_of line) file)
holds-more lines line file family.Ip4 is holds =
    let one = rw is at (rules_of_family-more family.Ip4 lines line) in
    let none = rw is at (rules_of_family-more family.Ip6 lines line) in
    record {
      four = ap (set_with (rule_of line)) holds.four ∙ ap ip4_set (sym one);
      six = holds.six ∙ ap ip6_set (sym (none ∙ append-nil (rules_of_family family.Ip6 lines)));
    }
holds-more lines line file family.Ip6 is holds =
    let none = rw is at (rules_of_family-more family.Ip4 lines line) in
    let one = rw is at (rules_of_family-more family.Ip6 lines line) in
    record {
      four = holds.four ∙ ap ip4_set (sym (none ∙ append-nil (rules_of_family family.Ip4 lines)));
      six = ap (set_with (rule_of line)) holds.six ∙ ap ip6_set (sym one);
    }

-- The next line isn't skipped.
module _ {bytes : List ℕ} {file : RuleFile} {number ordinal : ℕ} {left line rest : List ℕ}
    (next : IsNextLine bytes file number ordinal left line rest) (kept : is_skipped line ≡ false) where
  -- it was read as a rule
  pub IsReadUpTo-more : (new : RuleFile) → ReadsLine ordinal line file new
      → IsReadUpTo bytes new (number + 1) (ordinal + 1) rest
  IsReadUpTo-more new says =
      let read = next.read in
      let others = numbered_from (number + 1 + 1) (lines_of rest) in
      let more = holds-more read.lines says.says file (family_of_line says.says) refl
      (record { four = read.ip4; six = read.ip6 }) in
      record {
        lines = read.lines ++ says.says ∷ [];
        counted = omega (arith, read.counted, length-append read.lines (says.says ∷ []));
        few = omega (arith, within_limit ordinal line says.says says.read);
        long = omega (arith, read.long, next.shorter);
        ip4 = ap (λ f. f.ip4) says.added ∙ more.four;
        ip6 = ap (λ f. f.ip6) says.added ∙ more.six;
        joined = read.joined
            ∙ ap (λ numbered. after_lines read.lines (rule_lines_from ordinal numbered))
            (ap (numbered_from (number + 1)) next.cut ∙ numbered-rule (number + 1) line (lines_of rest) kept)
            ∙ ap (λ found. after_lines read.lines (line_then (number + 1) found (rule_lines_from (ordinal + 1) others)))
            says.read
            ∙ after_lines-more read.lines (number + 1) says.says (rule_lines_from (ordinal + 1) others);
      }

  -- it is faulty
  rule_file-faulty : (fault : LineFault) → IsFaulty (number + 1) ordinal line fault → rule_file_of bytes ≡ Err fault
  unfolding after_lines
  rule_file-faulty fault faulty =
      let read = next.read in
      let others = rule_lines_from (ordinal + 1) (numbered_from (number + 1 + 1) (lines_of rest)) in
      let said : rule_lines_from 1 (numbered_from 1 (lines_of bytes)) ≡ Err fault =
      read.joined
      ∙ ap (λ numbered. after_lines read.lines (rule_lines_from ordinal numbered))
      (ap (numbered_from (number + 1)) next.cut ∙ numbered-rule (number + 1) line (lines_of rest) kept)
      ∙ ap (λ found. after_lines read.lines (line_then (number + 1) found others)) faulty.faulty
      ∙ ap (λ (n : ℕ). Err (record { line = n; kind = fault.kind })) (sym faulty.numbered) in
      rw (le-ltb max_rule_file (length bytes) next.short, said) refl

  -- where it isn't added, this is the fault of the file, unless memory lacks
  pub told_fault : (found : RulesFault) → RefusesLine (number + 1) ordinal line found → (fault : LineFault)
      → found ≡ Line fault → rule_file_of bytes ≡ Err fault
  told_fault (Line met) refuses fault same = rule_file-faulty met refuses ∙ (cc)
  told_fault OutOfMemory refuses fault same = absurd (cc)

  -- and the other way round
  pub met_fault : (found : RulesFault) → RefusesLine (number + 1) ordinal line found → (fault : LineFault)
      → rule_file_of bytes ≡ Err fault → (found ≡ Line fault) ⊎ (found ≡ OutOfMemory)
  met_fault (Line met) refuses fault is =
      let told = rule_file-faulty met refuses in
      inl (cc)
  met_fault OutOfMemory refuses fault is = inr refl

-- a line was skipped
pub IsReadUpTo-skipped : {bytes : List ℕ} {file : RuleFile} {number ordinal : ℕ} {left line rest : List ℕ}
    → IsNextLine bytes file number ordinal left line rest → is_skipped line ≡ true
    → IsReadUpTo bytes file (number + 1) ordinal rest
IsReadUpTo-skipped {number = number} {ordinal = ordinal} {line = line} {rest = rest} next skipped =
    let read = next.read in
    record {
      lines = read.lines;
      counted = read.counted;
      few = read.few;
      long = omega (arith, read.long, next.shorter);
      ip4 = read.ip4;
      ip6 = read.ip6;
      joined = read.joined
          ∙ ap (λ numbered. after_lines read.lines (rule_lines_from ordinal numbered))
          (ap (numbered_from (number + 1)) next.cut ∙ numbered-skipped (number + 1) line (lines_of rest) skipped);
    }

-- no line is left
pub rule_file-all : (bytes : List ℕ) (file : RuleFile) (number ordinal : ℕ) (left : List ℕ)
    → length bytes ≤ max_rule_file
    → IsReadUpTo bytes file number ordinal left → lines_of left ≡ [] → HoldsRules bytes file
unfolding after_lines
rule_file-all bytes file number ordinal left short read none =
    let said : rule_lines_from 1 (numbered_from 1 (lines_of bytes)) ≡ Ok read.lines =
    read.joined ∙ ap (λ lines. after_lines read.lines (rule_lines_from ordinal (numbered_from (number + 1) lines))) none
    ∙ ap Ok (append-nil read.lines) in
    record {
      ip4_layout = ap (λ set. set.layout) read.ip4;
      ip6_layout = ap (λ set. set.layout) read.ip6;
      rules = rw (le-ltb max_rule_file (length bytes) short, said, read.ip4, read.ip6) refl;
    }

-- a family has at most as many rules as there are lines
pub length-rules_of_family : (kept : Family) (lines : List RuleLine)
    → length (rules_of_family kept lines) ≤ length lines
length-rules_of_family kept [] = omega arith
length-rules_of_family kept (line ∷ lines) =
    elim (cases_Bool (same_family (family_of_line line) kept)) [
      | inl same ↦ rw same (omega (arith, length-rules_of_family kept lines))
      | inr other ↦ rw other (omega (arith, length-rules_of_family kept lines))
    ]

-- one more rule may come
pub has_room : (bytes : List ℕ) (file : RuleFile) (number ordinal : ℕ) (left : List ℕ)
    → IsReadUpTo bytes file number ordinal left → ordinal ≤ max_rules → HasRoom file
has_room bytes file number ordinal left read within = record {
  ip4_layout = ap (λ set. set.layout) read.ip4;
  ip6_layout = ap (λ set. set.layout) read.ip6;
  ip4_room = rw read.ip4 (omega (arith, read.counted, length-rules_of_family family.Ip4 read.lines));
  ip6_room = rw read.ip6 (omega (arith, read.counted, length-rules_of_family family.Ip6 read.lines));
}
