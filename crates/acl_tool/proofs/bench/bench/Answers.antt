-- The lines of what was measured are put, or nothing was measured.
use Rattle.std.proofs.Common.{ℕ, subst, sym}
use Rattle.bench_command.specs.declared.lines.Measured.{Measured}
use Rattle.bench_command.specs.Bench.{bench_text}
use Rattle.command_words.specs.Command.{Bench}
use Rattle.command_words.specs.CommandLine.{numbers_in}
use Rattle.command_ending.specs.StepEffects.{PutsLast, outside}
use Rattle.std.proofs.Common.{Ok}
use Rattle.acl_tool.specs.CommandEffects.{Answers}
use Rattle.acl_tool.proofs.BenchEnds.{Answers-measured, Answers-refused}
use Rattle.acl_tool.proofs.bench.bench.Goals as goal

pub returns-in-Ok : goal.returns-in-Ok
returns-in-Ok g c =
    let numbers = numbers_in c.args.numbers in
    let out_old = g.O.Sink.view c.args.out.now in
    let out_new = g.O.Sink.view c.put_lines.new.out in
    let puts = subst (λ (m : Measured). PutsLast (bench_text m) out_old out_new c.put_lines.result)
    c.in-Ok.ensures.measured c.put_lines.ensures in
    λ desk. subst (λ (n : ℕ).
    Answers (Ok (Bench numbers)) (outside desk out_old c.args.steps.now) (outside desk out_new n) c.put_lines.result)
    (sym c.in-Ok.ensures.steps)
    (Answers-measured numbers desk out_old out_new c.args.steps.now c.put_lines.result c.in-Ok.ensures.fits puts)

pub returns-in-Err : goal.returns-in-Err
returns-in-Err g c =
    let numbers = numbers_in c.args.numbers in
    let out = g.O.Sink.view c.args.out.now in
    λ desk. subst (λ (n : ℕ).
    Answers (Ok (Bench numbers)) (outside desk out c.args.steps.now) (outside desk out n) c.in-Err.status)
    (sym c.in-Err.ensures.idle)
    (Answers-refused numbers (outside desk out c.args.steps.now) c.in-Err.status c.in-Err.ensures.refused)
