-- What a line makes, and the fault of one.
use Rattle.std.proofs.Common.{◌≡◌, ◌+◌, Err, sym, ap, ◌∙◌, subst}
use Rattle.iptables_reader.specs.Stops.{Refuses}
use Rattle.iptables_reader.specs.Table.{TableSoFar, with_line}
use Rattle.iptables_reader.proofs.ListLines.{IsReadUpTo-more, faulty_list, whole_list}
use Rattle.iptables_reader.proofs.table.read_list.Goals as goal

pub loop-line-preserved : goal.loop-line-preserved
loop-line-preserved c =
    IsReadUpTo-more c.in-Some.rest.now c.loop-line.invariant c.in-Some.ensures.lines c.in-Some.ensures.shorter _
    (c.in-Ok.ensures.number ∙ ap (λ (table : TableSoFar). table.number) c.count.ensures)
    (sym (ap (λ (table : TableSoFar). with_line table c.in-Some.line.now) c.count.ensures) ∙ c.in-Ok.ensures.made)

pub returns-in-Err-Faulty-clause-fault : goal.returns-in-Err-Faulty-clause-fault
returns-in-Err-Faulty-clause-fault c =
    let kind = c.in-Err-Faulty.kind in
    let short = sym c.is_too_long.ensures ∙ c.if-is_too_long.false in
    let line : c.add_line.new.self.number ≡ c.loop-line.table.number + 1 =
    c.in-Err-Faulty.ensures.number ∙ ap (λ (table : TableSoFar). table.number) c.count.ensures in
    faulty_list c.in-Some.rest.now c.loop-line.invariant c.in-Some.ensures.lines c.in-Some.ensures.shorter kind short
    (sym (ap (λ (table : TableSoFar). with_line table c.in-Some.line.now) c.count.ensures)
    ∙ subst (Refuses (with_line c.count.new.self c.in-Some.line.now)) c.in-Err-Faulty.field-0-is
    c.in-Err-Faulty.ensures.made)
    ∙ ap (λ n. Err (record { line = n; kind = kind })) (sym line)
    ∙ ap (λ k. Err (record { line = c.add_line.new.self.number; kind = k })) (sym c.in-Err-Faulty.kind-is)
    ∙ ap Err (sym c.fault.ensures)

pub returns-in-Ok-ended-clause-chains : goal.returns-in-Ok-ended-clause-chains
returns-in-Ok-ended-clause-chains c =
    let short = sym c.is_too_long.ensures ∙ c.if-is_too_long.false in
    whole_list c.loop-line.invariant c.in_default.ensures.lines short ∙ c.in-Ok-ended.ensures.chains

pub returns-in-Err-clause-fault : goal.returns-in-Err-clause-fault
returns-in-Err-clause-fault c =
    let short = sym c.is_too_long.ensures ∙ c.if-is_too_long.false in
    whole_list c.loop-line.invariant c.in_default.ensures.lines short ∙ c.in-Err.ensures.fault
