use Rattle.table_fill.proofs.Deciding.{filled_tables_decide}
use Rattle.table_fill.proofs.laws.filled_tables_decide.Goals as goal

pub returns : goal.returns
returns c = filled_tables_decide
