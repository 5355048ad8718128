-- Each turn adds the verdict of one category more.
use Rattle.std.proofs.Common.{◌∷◌, [], ap, sym, ◌∙◌, arith}
use Rattle.std.proofs.lemmas.List.FromFn.{map-range_with_len_more}
use Rattle.rule_set.specs.Winner.{verdict}
use Rattle.bench_command.specs.Tally.{with_verdicts}
use Rattle.bench_command.specs.Bench.{verdicts_on_key}
use Rattle.bench_command.proofs.Tallies.{with-append}
use Rattle.bench_command.proofs.keys.add_plain.Goals as goal

pub loop-category-preserved : goal.loop-category-preserved
loop-category-preserved c =
    let at = c.loop-category.category in
    let rules = c.args.rules.now in
    let key = c.args.key.now in
    let before = c.args.tally.now in
    let so_far = verdicts_on_key rules at key in
    let held = c.loop-category.invariant in
    record {
      tally = c.add.ensures.tally
          ∙ ap (λ t. with_verdicts t (c.plain_verdict.result ∷ [])) held.tally
          ∙ ap (λ v. with_verdicts (with_verdicts before so_far) (v ∷ [])) c.plain_verdict.ensures
          ∙ with-append before so_far (verdict rules.layout rules.rules key at ∷ [])
          ∙ ap (with_verdicts before)
          (sym (map-range_with_len_more (verdict rules.layout rules.rules key) 0 at at (omega arith)));
      hits = omega arith;
      sum = omega arith;
    }
