-- What is written after the other lines is the line of the packet of this number.
use Rattle.std.proofs.Common.{◌-◌, ◌++◌, ap, sym, ◌∙◌, take, length, arith}
use Rattle.pcap_reader.proofs.Offered.{take-put_mid}
use Rattle.capture_report.proofs.Shown.{line_by-is}
use Rattle.capture_report.proofs.Writing.{same_count}
use Rattle.capture_report.proofs.lines.write_line.Goals as goal

pub returns-clause-lines : goal.returns-clause-lines
returns-clause-lines c =
    let is_line =
    line_by-is c.args.form.now c.args.number.now c.args.packet.now c.args.class c.args.verdicts.now c.args.dashes.now
    c.requires.class c.requires.verdicts c.requires.dashes c.requires.by_tables in
    take-put_mid c.args.at (length c.args.lines.now - c.args.at) c.write_front.result c.args.lines.now
    c.write_front.new.lines (omega (arith, c.requires.room))
    (omega (arith, c.requires.room, c.write_front.ensures.within, c.write_front.ensures.len))
    ∙ ap (λ line. take c.args.at c.args.lines.now ++ line) (c.write_front.ensures.line ∙ is_line)

-- there is a dash or none for each verdict
pub write_front-requires-clause-dashes : goal.write_front-requires-clause-dashes
write_front-requires-clause-dashes c =
    ap length c.requires.dashes ∙ same_count c.args.form.now c.args.packet.now.class c.args.packet.now.key
    ∙ sym (ap length c.requires.verdicts)
