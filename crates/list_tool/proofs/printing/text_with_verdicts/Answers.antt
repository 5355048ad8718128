use Rattle.iptables_reader.specs.declared.answers.Answers.TheVariants.{Verdict}
use Rattle.list_tool.specs.Requests.{request_of}
use Rattle.list_tool.proofs.Asked.{refused_second, text_ends}
use Rattle.list_tool.proofs.printing.text_with_verdicts.Goals as goal

pub returns-in-Ok : goal.returns-in-Ok
returns-in-Ok c =
    let by_line = c.args.by_line.now in
    let set = c.in-Ok.rules in
    text_ends (request_of c.args.request.now) c.args.bytes.now by_line Verdict c.requires.listed c.requires.verdicts
    set c.in-Ok.ensures.listed c.text_of_rules.result c.text_of_rules.ensures

pub returns-in-Err : goal.returns-in-Err
returns-in-Err c =
    refused_second (request_of c.args.request.now) c.args.bytes.now c.args.by_line.now Verdict c.requires.listed
    c.requires.verdicts c.in-Err.refusal c.in-Err.ensures.refused
