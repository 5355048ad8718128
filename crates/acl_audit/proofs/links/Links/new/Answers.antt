use Rattle.std.proofs.Common.{[], get_or, ◌∙◌, ap, arith}
use Rattle.acl_audit.specs.Links.{runs_linked}
use Rattle.acl_audit.proofs.LinkSteps.{one_state_more, all_states}
use Rattle.acl_audit.proofs.links.Links.new.Goals as goal

pub loop-state-preserved : goal.loop-state-preserved
loop-state-preserved c =
    let l = c.loop-state in
    let states = get_or c.args.levels.now.levels c.args.depth [] in
    one_state_more l.links.items c.link_runs.new.links.items _ l.state states
    (omega (arith, c.loop-state-test.true, c.states-state-end.ensures)) l.invariant
    (c.in_ok-link_runs.ensures ∙ ap (runs_linked l.links.items l.state 0) c.runs.ensures)

pub returns : goal.returns
returns c =
    let l = c.loop-state in
    all_states l.links.items l.state (get_or c.args.levels.now.levels c.args.depth [])
    (omega (arith, c.loop-state-test.false, c.states-state-end.ensures)) l.invariant
