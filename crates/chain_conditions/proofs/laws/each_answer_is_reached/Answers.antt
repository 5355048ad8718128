use Rattle.std.proofs.Common.{List}
use Rattle.list_chains.specs.declared.span.Span.{Span}
use Rattle.chain_conditions.proofs.laws.each_answer_is_reached.Goals as goal
use Rattle.chain_conditions.proofs.Conditions.{each_answer_is_reached}

-- src/laws.rt:27:1
pub returns : goal.returns
returns c = each_answer_is_reached {B = List Span}
