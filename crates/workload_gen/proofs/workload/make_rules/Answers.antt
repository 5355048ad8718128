-- Each turn draws one more rule, which is lawful.
use Rattle.std.proofs.Common.{◌≡◌, ◌+◌, ap, ◌∙◌, arith}
use Rattle.workload_gen.specs.Draws.{seeded, words_of}
use Rattle.workload_gen.specs.Rule.{rule_of}
use Rattle.workload_gen.specs.Workload.{rule_words}
use Rattle.workload_gen.proofs.Drawing.{length-rules_of, rules_more, state_more}
use Rattle.workload_gen.proofs.Words.{after_none}
use Rattle.workload_gen.proofs.workload.make_rules.Goals as goal

pub loop-place-init : goal.loop-place-init
loop-place-init c = record {
  rules = cc;
  state = c.seeded-generator.ensures ∙ after_none (seeded c.args.seed);
}

pub push_lawful-requires : goal.push_lawful-requires
push_lawful-requires c =
    let held = ap (λ s. s.rules) c.loop-place.invariant.rules in
    let layout = ap (λ s. s.layout) c.loop-place.invariant.rules in
    record {
      room = rw held (omega (arith, length-rules_of c.args.seed c.loop-place.place));
      lawful = rw layout c.in_ok-drawn.ensures.lawful;
    }

pub loop-place-preserved : goal.loop-place-preserved
loop-place-preserved c =
    let place = c.loop-place.place in
    let seed = c.args.seed in
    let held = c.loop-place.invariant in
    let words : c.draw.result ≡ rule_words seed place = c.draw.ensures.words ∙ ap (words_of 6) held.state in
    let drawn = c.in_ok-drawn.ensures.ok ∙ ap (rule_of (place + 1)) words in
    record {
      rules = c.in_ok-push_lawful.ensures.ok
          ∙ rules_more seed place c.loop-place.rules c.in_ok-drawn.drawn held.rules drawn;
      state = c.draw.ensures.state ∙ state_more seed place c.loop-place.generator held.state;
    }
