-- The rules are those of the chains that were read, and so is the fault.
use Rattle.std.proofs.Common.{refl, sym, subst}
use Rattle.list_tool.specs.Listing.{rules_for}
use Rattle.list_tool.specs.Printed.{Refuses}
use Rattle.list_tool.specs.Requests.{request_of, way_view}
use Rattle.list_tool.proofs.Turning.{turned_refused, turned_rules}
use Rattle.list_tool.proofs.listing.listed_rules.Goals as goal

pub returns-in-Ok-clause-rules : goal.returns-in-Ok-clause-rules
returns-in-Ok-clause-rules c =
    turned_rules (request_of c.args.request.now) c.args.bytes.now c.args.answers (way_view c.in_ok-way.way)
    c.layout_of-layout.result c.deref.result.now c.in_ok-way.ensures.way c.layout_of-layout.ensures
    c.deref.ensures.value c.in-Ok.set.rules c.in-Ok.ensures.rules.rules

pub returns-clause-refused : goal.returns-clause-refused
returns-clause-refused c =
    subst (Refuses (rules_for (request_of c.args.request.now) c.args.bytes.now c.args.answers))
    (sym c.unturned.ensures)
    (turned_refused (request_of c.args.request.now) c.args.bytes.now c.args.answers (way_view c.in_ok-way.way)
    c.layout_of-layout.result c.deref.result.now c.in_ok-way.ensures.way c.layout_of-layout.ensures
    c.deref.ensures.value c.in-Err.fault (c.in-Err.ensures.fault c.in-Err.fault refl))
