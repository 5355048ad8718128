use Rattle.acl_tool.proofs.tool.answer_request.Goals as goal

-- `bench` answers so for every desk, this one too
pub returns-in-Bench : goal.returns-in-Bench
returns-in-Bench g c = rw c.in-Bench.is (c.bench.ensures (g.D.Desk.view c.args.desk.now))

-- and so does `build` for every output
pub returns-in-Build : goal.returns-in-Build
returns-in-Build g c = rw c.in-Build.is (c.build.ensures (g.O.Sink.view c.args.out.now) c.args.steps.now)

-- and `audit`, `compare` and `session` for every number of transitions
pub returns-in-Audit : goal.returns-in-Audit
returns-in-Audit g c = rw c.in-Audit.is (c.audit.ensures c.args.steps.now)

pub returns-in-Compare : goal.returns-in-Compare
returns-in-Compare g c = rw c.in-Compare.is (c.compare.ensures c.args.steps.now)

pub returns-in-Session : goal.returns-in-Session
returns-in-Session g c = rw c.in-Session.is (c.session.ensures c.args.steps.now)
