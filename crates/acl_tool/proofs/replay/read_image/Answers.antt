use Rattle.std.proofs.Common.{List, ℕ, subst}
use Rattle.command_ending.specs.StepEffects.{Parses}
use Rattle.command_ending.proofs.Offered.{Takes-read, Takes-unread}
use Rattle.acl_tool.specs.ReplayPlan.{tables_of_bytes}
use Rattle.acl_tool.specs.ReplayLoaded.{tables_of}
use Rattle.acl_tool.proofs.ReplayEnds.{tables_of_bytes-more}
use Rattle.acl_tool.proofs.replay.read_image.Goals as goal

pub returns-in-Ok-clause-taken : goal.returns-in-Ok-clause-taken
returns-in-Ok-clause-taken g c =
    let view = g.D.Desk.view in
    let loads = c.load_image.ensures in
    let parses : Parses tables_of_bytes tables_of c.deref.result.now c.load_image.result = record {
      value = loads.tables;
      fault = loads.fault;
      unread = loads.unread;
      unreported = loads.unreported;
      lawful = loads.lawful;
    } in
    Takes-read c.args.name.now _ tables_of_bytes tables_of (view c.args.desk.now) (view c.read_file.new.desk)
    c.in-Ok.bytes c.load_image.result c.in-Ok.ensures tables_of_bytes-more
    (subst (λ (bytes : List ℕ). Parses tables_of_bytes tables_of bytes c.load_image.result) c.deref.ensures.value
    parses)

pub returns-in-Err-clause-taken : goal.returns-in-Err-clause-taken
returns-in-Err-clause-taken g c =
    let view = g.D.Desk.view in
    Takes-unread c.args.name.now _ _ tables_of (view c.args.desk.now) (view c.read_file.new.desk) c.in-Err.status
    c.in-Err.ensures
