use Rattle.list_tool.specs.Requests.{request_of}
use Rattle.list_tool.proofs.Asked.{refused_first}
use Rattle.list_tool.proofs.printing.rule_file_text.Goals as goal

pub returns-in-Err : goal.returns-in-Err
returns-in-Err c =
    refused_first (request_of c.args.request.now) c.args.bytes.now c.in-Err.refusal c.in-Err.ensures.refused
