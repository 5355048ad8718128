use Rattle.std.proofs.Common.{◌≡◌}
use Rattle.iptables_reader.specs.declared.answers.Answers.TheVariants.{Line}
use Rattle.list_tool.specs.Requests.{request_of}
use Rattle.list_tool.proofs.Asked.{text_ends}
use Rattle.list_tool.proofs.printing.text_with.Goals as goal

pub returns-in-Line : goal.returns-in-Line
returns-in-Line c =
    let by_line = c.args.by_line.now in
    let told = c.in-Line.is in
    let asked : c.args.request.now.options.answers ≡ Line = cc in
    text_ends (request_of c.args.request.now) c.args.bytes.now by_line Line c.requires asked by_line c.requires
    c.text_of_rules.result c.text_of_rules.ensures
