use Rattle.std.proofs.Common.{◌≡◌, Err, inl, inr, sym, ap, ◌∙◌, ⊎_elim, rules}
use Rattle.std.proofs.lemmas.Bool.{ltb-false}
use Rattle.classbench_reader.proofs.FileLines.{IsNextLine, IsReadUpTo-none, IsReadUpTo-more, IsReadUpTo-skipped}
use Rattle.classbench_reader.proofs.FileLines.{told_fault, met_fault, rule_file-all, has_room}
use Rattle.classbench_reader.proofs.rule_file.read_rules.Goals as goal

pub loop-line-init : goal.loop-line-init
loop-line-init c = IsReadUpTo-none _ _ c.new-file.ensures.ip4 c.new-file.ensures.ip6

pub add_line-requires : goal.add_line-requires
add_line-requires c = record { room = λ within. has_room _ _ _ _ _ c.loop-line.invariant within }

pub returns-in_err-add_line-clause-line : goal.returns-in_err-add_line-clause-line
returns-in_err-add_line-clause-line c = λ fault told.
    let next : IsNextLine c.args.bytes.now c.loop-line.file c.loop-line.number c.loop-line.ordinal c.loop-line.left.now
    c.in-Some.line.now c.in-Some.rest.now = record {
      short = ltb-false _ _ (sym c.is_too_long.ensures ∙ c.if-is_too_long.false);
      read = c.loop-line.invariant;
      cut = c.in-Some.ensures.lines;
      shorter = c.in-Some.ensures.shorter;
    } in
    let kept = sym c.is_skipped.ensures ∙ c.if-not-is_skipped.true in
    let found = c.in_err-add_line.field-0.0 in
    let answer : c.from_residual.result ≡ Err found = search rules in
    told_fault next kept found c.in_err-add_line.ensures.err fault (cc)

pub returns-in_err-add_line-clause-refused : goal.returns-in_err-add_line-clause-refused
returns-in_err-add_line-clause-refused c = λ fault is.
    let next : IsNextLine c.args.bytes.now c.loop-line.file c.loop-line.number c.loop-line.ordinal c.loop-line.left.now
    c.in-Some.line.now c.in-Some.rest.now = record {
      short = ltb-false _ _ (sym c.is_too_long.ensures ∙ c.if-is_too_long.false);
      read = c.loop-line.invariant;
      cut = c.in-Some.ensures.lines;
      shorter = c.in-Some.ensures.shorter;
    } in
    let kept = sym c.is_skipped.ensures ∙ c.if-not-is_skipped.true in
    let found = c.in_err-add_line.field-0.0 in
    let answer : c.from_residual.result ≡ Err found = search rules in
    ⊎_elim (λ line. inl (answer ∙ ap Err line)) (λ memory. inr (answer ∙ ap Err memory))
    (met_fault next kept found c.in_err-add_line.ensures.err fault is)

pub loop-line-preserved-in_ok-add_line : goal.loop-line-preserved-in_ok-add_line
loop-line-preserved-in_ok-add_line c =
    let next : IsNextLine c.args.bytes.now c.loop-line.file c.loop-line.number c.loop-line.ordinal c.loop-line.left.now
    c.in-Some.line.now c.in-Some.rest.now = record {
      short = ltb-false _ _ (sym c.is_too_long.ensures ∙ c.if-is_too_long.false);
      read = c.loop-line.invariant;
      cut = c.in-Some.ensures.lines;
      shorter = c.in-Some.ensures.shorter;
    } in
    let kept = sym c.is_skipped.ensures ∙ c.if-not-is_skipped.true in
    IsReadUpTo-more next kept _ c.in_ok-add_line.ensures.ok

pub loop-line-preserved : goal.loop-line-preserved
loop-line-preserved c =
    let next : IsNextLine c.args.bytes.now c.loop-line.file c.loop-line.number c.loop-line.ordinal c.loop-line.left.now
    c.in-Some.line.now c.in-Some.rest.now = record {
      short = ltb-false _ _ (sym c.is_too_long.ensures ∙ c.if-is_too_long.false);
      read = c.loop-line.invariant;
      cut = c.in-Some.ensures.lines;
      shorter = c.in-Some.ensures.shorter;
    } in
    let skipped = sym c.is_skipped.ensures ∙ c.if-not-is_skipped.false in
    IsReadUpTo-skipped next skipped

pub returns-clause-rules : goal.returns-clause-rules
returns-clause-rules c =
    let short = ltb-false _ _ (sym c.is_too_long.ensures ∙ c.if-is_too_long.false) in
    rule_file-all _ _ _ _ _ short c.loop-line.invariant c.in_default.ensures.lines

pub returns-clause-refused : goal.returns-clause-refused
returns-clause-refused c = λ fault refused.
    let short = ltb-false _ _ (sym c.is_too_long.ensures ∙ c.if-is_too_long.false) in
    let held = rule_file-all _ _ _ _ _ short c.loop-line.invariant c.in_default.ensures.lines in
    absurd (let rules = held.rules in cc)
