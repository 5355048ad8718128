-- Rules and keys are those of the seed.
use Rattle.std.proofs.Common.{◌≡◌, ℕ, List, length, Some, ap, subst, ◌∙◌}
use Rattle.std.specs.List.{concat}
use Rattle.field_defs.specs.Layout.{ip4_fields}
use Rattle.rule_set.specs.Rule.{RuleSetView}
use Rattle.table_fill.specs.Serves.{Serves}
use Rattle.acl_context.specs.Context.{ContextView, built_of}
use Rattle.workload_gen.specs.Workload.{WorkloadView, keys_of}
use Rattle.command_words.specs.CommandLine.{numbers_in}
use Rattle.bench_command.specs.Tally.{tally_of}
use Rattle.bench_command.specs.Bench.{bench_budget, keys_drawn, set_drawn, verdicts_on_keys}
use Rattle.bench_command.proofs.Measuring.{length-rules}
use Rattle.bench_command.proofs.workload.measure_workload.Goals as goal

-- the keys that a workload gives
abbrev keys_by : ℕ → WorkloadView → List (List ℕ)
keys_by count drawn = keys_of drawn.rules drawn.generator count

-- its rules, as a set
abbrev set_by : WorkloadView → RuleSetView
set_by drawn = record { layout = ip4_fields; rules = drawn.rules }

pub built_context-requires-clause-few : goal.built_context-requires-clause-few
built_context-requires-clause-few g c =
    let len : length c.rules.result.now.rules ≡ c.args.numbers.rules =
    ap (λ (s : RuleSetView). length s.rules) c.rules.ensures
    ∙ ap (λ (w : WorkloadView). length w.rules) c.requires ∙ length-rules (numbers_in c.args.numbers) in
    rw len c.args.numbers.few_rules

pub measure_keys-requires : goal.measure_keys-requires
measure_keys-requires g c =
    let numbers = numbers_in c.args.numbers in
    let context = c.in_ok-context.ensures.context in
    let count = c.all_categories-cats.ensures in
    let rules : c.rules.result.now ≡ set_drawn numbers = c.rules.ensures ∙ ap set_by c.requires in
    record {
      set = ap (λ (x : ContextView). x.set) context ∙ rules;
      table = ap (λ (x : ContextView). x.table) context
          ∙ ap (λ (s : RuleSetView). Some (built_of s bench_budget)) rules;
      serves = subst (λ (s : RuleSetView). Serves s (built_of s bench_budget)) rules
          c.in_ok-context.ensures.serves;
      keys = c.in_ok-drawn.ensures.keys
          ∙ ap (λ (w : WorkloadView). concat (keys_by numbers.packets w)) c.requires;
      plain = c.in_ok-drawn.ensures.plain
          ∙ ap (λ (w : WorkloadView). tally_of (verdicts_on_keys (set_by w) c.all_categories-cats.result.count
          (keys_by numbers.packets w))) c.requires
          ∙ ap (λ n. tally_of (verdicts_on_keys (set_drawn numbers) n (keys_drawn numbers))) count;
      all = count;
    }
