use Rattle.group_states.specs.declared.run.Run.{Run}
use Rattle.group_states.specs.declared.run.Succ.TheVariants.{Dead}
use Rattle.acl_audit.proofs.LinkSteps.{one_run_more, all_runs}
use Rattle.acl_audit.proofs.links.link_runs.Goals as goal

pub loop-run-preserved : goal.loop-run-preserved
loop-run-preserved c =
    let l = c.loop-run in
    let none : Run = record { last = 0; to = Dead } in
    one_run_more l.links.items c.push_link.new.links.items _ c.args.before l.byte l.run-index c.args.runs.now none
    c.loop-run-test.true l.invariant c.in_ok-push_link.ensures

pub returns : goal.returns
returns c =
    let l = c.loop-run in
    all_runs l.links.items _ c.args.before l.byte l.run-index c.args.runs.now c.loop-run-test.false l.invariant
