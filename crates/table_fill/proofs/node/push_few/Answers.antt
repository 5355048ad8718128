-- After the words of the runs stand the unused ones.
use Rattle.std.proofs.Common.{◌-◌, ◌++◌, List, ℕ, length, replicate, refl, ap, sym, ◌∙◌, arith}
use Rattle.std.proofs.lemmas.Bool.Decides.{nat_tests}
use Rattle.std.proofs.lemmas.List.{append_assoc}
use Rattle.std.proofs.lemmas.Result.{on_ok_weaker}
use Rattle.table_sizes.specs.Sizes.{cost_of}
use Rattle.table_fill.specs.Filled.{match_of}
use Rattle.list_lemmas.proofs.Loops.{mapped_more, mapped_all}
use Rattle.table_fill.proofs.Nodes.{no_run, run_words, few_words}
use Rattle.table_fill.proofs.node.push_few.Goals as goal

pub overflow_sub-unused : goal.overflow_sub-unused
overflow_sub-unused c = grind (arith, nat_tests, c.requires.few, c.node_len.ensures.value)

pub loop-run-preserved : goal.loop-run-preserved
loop-run-preserved c =
    mapped_more no_run c.loop-run.invariant c.loop-run-test.true refl
    c.in_ok-push.ensures.items c.succ_word.ensures

pub returns : goal.returns
returns c =
    let runs = c.args.runs.now in
    let old : List ℕ = c.args.words.now.items in
    let words : List ℕ = run_words c.args.targets.now runs in
    let of_runs = mapped_all c.loop-run.invariant c.loop-run-test.false in
    on_ok_weaker c.push_copies.result
    (λ pushed. pushed
    ∙ (λ i. of_runs i ++ replicate (c.node_len.ensures.value i - length runs) (c.match_of.ensures i))
    ∙ append_assoc old words (replicate (cost_of (length runs) - length runs) (match_of 0))
    ∙ ap (λ (node : List ℕ). old ++ node) (sym (few_words c.args.targets.now runs c.requires.few)))
    c.push_copies.ensures
