-- The transitions of the keys are bounded.
use Rattle.std.proofs.Common.{arith}
use Rattle.std.proofs.lemmas.Result.{on_ok_weaker}
use Rattle.command_words.specs.CommandLine.{numbers_in}
use Rattle.bench_command.proofs.Measuring.{transitions-bound}
use Rattle.bench_command.proofs.workload.measure.Goals as goal

pub returns-clause-bound : goal.returns-clause-bound
returns-clause-bound g c =
    on_ok_weaker c.measure_workload.result
    (λ is. omega (arith, is, transitions-bound (numbers_in c.args.numbers))) c.measure_workload.ensures.steps
