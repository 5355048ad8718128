-- Each turn draws one more key, and the rules answer for it.
use Rattle.std.proofs.Common.{◌≡◌, ◌++◌, ap, ◌∙◌, sym, arith, rules}
use Rattle.std.specs.List.{concat}
use Rattle.field_defs.specs.Layout.{ip4_fields}
use Rattle.rule_set.specs.Rule.{RuleSetView}
use Rattle.workload_gen.specs.declared.packet.TheConstants.{KEY_WORDS}
use Rattle.workload_gen.specs.Draws.{after_words, words_of}
use Rattle.workload_gen.specs.Packet.{key_of_words}
use Rattle.workload_gen.specs.Workload.{WorkloadView, keys_of}
use Rattle.bench_command.specs.Tally.{tally_of, with_verdicts}
use Rattle.bench_command.specs.Bench.{verdicts_on_key, verdicts_on_keys}
use Rattle.bench_command.proofs.Drawing.{next_key, state-none, state-more, bytes-more, verdicts-more}
use Rattle.bench_command.proofs.Tallies.{of-append}
use Rattle.bench_command.proofs.keys.draw_keys.Goals as goal

pub loop-init : goal.loop-init
loop-init c = record {
  workload = ap (λ g. record { rules = c.args.workload.now.rules; generator = g })
      (state-none c.args.workload.now.generator);
  keys = c.in_ok-keys.ensures.items;
  plain = ap (λ n. record { hits = n; sum = c.default-plain.result.sum }) (c.default-plain.ensures.0)
      ∙ ap (λ n. record { hits = 0; sum = n }) (c.default-plain.ensures.1);
  hits = search rules;
  sum = search rules;
}

pub loop-preserved : goal.loop-preserved
loop-preserved c =
    let at = c.loop.counter in
    let drawn = c.args.workload.now in
    let held = c.loop.invariant in
    let set : RuleSetView = record { layout = ip4_fields; rules = drawn.rules } in
    let count = c.args.cats.count in
    let key : c.next_key.new.key ≡ next_key drawn.rules drawn.generator at =
    c.next_key.ensures.key ∙ ap (λ (w : WorkloadView). key_of_words w.rules (words_of KEY_WORDS w.generator))
    held.workload in
    let rules : c.rules.result.now ≡ set =
    c.rules.ensures
    ∙ ap (λ (w : WorkloadView). record { layout = ip4_fields; rules = w.rules }) c.next_key.ensures.state
    ∙ ap (λ (w : WorkloadView). record { layout = ip4_fields; rules = w.rules }) held.workload in
    let was = c.in_ok-extend_from_slice.was in
    let items : c.extend_from_slice.new.self.items ≡ c.loop.keys.items ++ c.next_key.new.key =
    c.in_ok-extend_from_slice.ensures.items in
    record {
      workload = c.next_key.ensures.state
          ∙ ap (λ (w : WorkloadView). record w { generator = after_words KEY_WORDS w.generator }) held.workload
          ∙ ap (λ g. record { rules = drawn.rules; generator = g }) (state-more at drawn.generator);
      keys = items
          ∙ ap (λ bytes. bytes ++ c.next_key.new.key) held.keys
          ∙ ap (λ k. concat (keys_of drawn.rules drawn.generator at) ++ k) key
          ∙ sym (bytes-more drawn.rules drawn.generator at);
      plain = c.add_plain.ensures.tally
          ∙ ap (λ t. with_verdicts t (verdicts_on_key c.rules.result.now count c.next_key.new.key)) held.plain
          ∙ ap (λ s. with_verdicts (tally_of (verdicts_on_keys set count (keys_of drawn.rules drawn.generator at)))
          (verdicts_on_key s count c.next_key.new.key)) rules
          ∙ ap (λ k. with_verdicts (tally_of (verdicts_on_keys set count (keys_of drawn.rules drawn.generator at)))
          (verdicts_on_key set count k)) key
          ∙ of-append (verdicts_on_keys set count (keys_of drawn.rules drawn.generator at))
          (verdicts_on_key set count (next_key drawn.rules drawn.generator at))
          ∙ ap tally_of (sym (verdicts-more set count drawn.rules drawn.generator at));
      hits = omega arith;
      sum = omega arith;
    }
