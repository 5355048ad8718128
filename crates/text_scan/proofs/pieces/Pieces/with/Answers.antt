use Rattle.std.proofs.Common.{arith}
use Rattle.text_scan.proofs.pieces.Pieces.with.Goals as goal
use Rattle.list_lemmas.proofs.Powers.{seven_pieces}

pub overflow_mul-result : goal.overflow_mul-result
overflow_mul-result c = omega (arith, seven_pieces c.args.self.value c.args.self.count c.requires (omega arith))

pub overflow_add-result-2 : goal.overflow_add-result-2
overflow_add-result-2 c = omega (arith, seven_pieces c.args.self.value c.args.self.count c.requires (omega arith))
