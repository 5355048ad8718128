use Rattle.std.proofs.Common.{◌++◌, refl, ℕ, List, ap, ◌∙◌, arith}
use Rattle.list_lemmas.proofs.Loops.{writes_all}
use Rattle.table_fill.proofs.Nodes.{no_run}
use Rattle.table_fill.proofs.Given.{run_holds, run_written, many_is}
use Rattle.table_fill.proofs.node.push_many.Goals as goal

pub overflow_sub-after : goal.overflow_sub-after
overflow_sub-after c =
    omega (
      arith,
      (run_holds c.args.runs.now c.loop-run.run-index no_run c.loop-run-test.true c.loop-run.first _
          c.from-after.ensures c.loop-run.invariant.1).0,
    )

pub succ_word-requires : goal.succ_word-requires
succ_word-requires c =
    c.requires.runs.targets c.loop-run.run-index no_run c.loop-run-test.true

pub push_copies-requires : goal.push_copies-requires
push_copies-requires c =
    let within = run_holds c.args.runs.now c.loop-run.run-index no_run c.loop-run-test.true
    c.loop-run.first c.from-after.result c.from-after.ensures c.loop-run.invariant.1 in
    omega (arith, within.0, within.1)

pub loop-run-preserved : goal.loop-run-preserved
loop-run-preserved c =
    run_written c.args.targets.now no_run c.loop-run-test.true c.from-after.ensures c.succ_word.ensures
    c.in_ok-push_copies.ensures c.loop-run.invariant.0 c.loop-run.invariant.1

pub returns : goal.returns
returns c =
    writes_all c.loop-run.invariant.0 refl c.loop-run-test.false
    ∙ ap (λ (node : List ℕ). c.args.words.now.items ++ node)
    (many_is c.args.targets.now c.args.runs.now c.requires.many c.requires.runs.bytes)
