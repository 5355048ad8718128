use Rattle.std.proofs.Common.{arith}
use Rattle.table_image.proofs.Written.{words_typed}
use Rattle.table_image.proofs.saving.put_portion.Goals as goal

pub returns-clause-typed : goal.returns-clause-typed
returns-clause-typed c = words_typed c.args.words.now (λ k. omega (arith, c.type_inv.words k))
