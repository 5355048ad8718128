-- The line stands within what was lent for it.
use Rattle.std.proofs.Common.{rules, ◌∙◌, ◌++◌, ◌≡◌, ◌≤◌, arith, drop, length}
use Rattle.std.proofs.lemmas.List.{take-append-le, length-append, length-drop}
use Rattle.acl_report.specs.declared.line.TheConstants.{LINE_ROOM}
use Rattle.capture_report.proofs.lines.write_front.Goals as goal

pub returns-clause-line : goal.returns-clause-line
returns-clause-line c =
    let line = c.numbered_line.new.into in
    let later = drop LINE_ROOM c.args.lines.now in
    let whole : length (line ++ later) ≡ length c.args.lines.now = search rules in
    let within : c.numbered_line.result ≤ length line =
    omega (
      arith,
      c.numbered_line.ensures.within,
      c.requires.room,
      whole,
      length-append line later,
      length-drop LINE_ROOM c.args.lines.now,
    ) in
    take-append-le c.numbered_line.result line later within ∙ c.numbered_line.ensures.line
