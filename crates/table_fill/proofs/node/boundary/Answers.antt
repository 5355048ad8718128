use Rattle.table_fill.proofs.Given.{boundary_past}
use Rattle.table_fill.proofs.node.boundary.Goals as goal

pub returns-else-n-runs : goal.returns-else-n-runs
returns-else-n-runs c = boundary_past c.args.runs.now c.args.n c.requires c.if-n-runs.false
