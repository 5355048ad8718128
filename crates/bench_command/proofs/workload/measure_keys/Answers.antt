-- Rules and table say the same of the keys.
use Rattle.std.proofs.Common.{◌≡◌, ◌+◌, length, Option, Some, IfSome, ap, subst, ◌∙◌}
use Rattle.std.specs.List.{concat}
use Rattle.std.specs.Option.{unwrap_or}
use Rattle.rule_set.specs.Rule.{RuleSetView}
use Rattle.table_sizes.specs.Sizes.{max_keys}
use Rattle.flat_table.specs.Batch.{batch_transitions}
use Rattle.flat_table.specs.Table.{TableView, words_of}
use Rattle.acl_context.specs.Batch.{verdicts_by_rules}
use Rattle.command_words.specs.CommandLine.{numbers_in}
use Rattle.bench_command.specs.Tally.{tally_of}
use Rattle.bench_command.specs.Bench.{keys_drawn, set_drawn, table_drawn, verdicts_on_keys}
use Rattle.bench_command.proofs.Measuring.{few_bytes, length-drawn, measured-is, transitions-drawn, verdicts-drawn}
use Rattle.bench_command.proofs.Measuring.{whole_bytes}
use Rattle.bench_command.proofs.workload.measure_keys.Goals as goal

pub table_tally-requires-clause-whole : goal.table_tally-requires-clause-whole
table_tally-requires-clause-whole g c =
    let numbers = numbers_in c.args.numbers in
    let bytes : c.deref.result.now ≡ concat (keys_drawn numbers) = c.deref.ensures.value ∙ c.requires.keys in
    whole_bytes c.deref.result.now numbers.packets (ap (λ b. length b) bytes ∙ length-drawn numbers)

pub table_tally-requires-clause-few : goal.table_tally-requires-clause-few
table_tally-requires-clause-few g c =
    let numbers = numbers_in c.args.numbers in
    let bytes : c.deref.result.now ≡ concat (keys_drawn numbers) = c.deref.ensures.value ∙ c.requires.keys in
    few_bytes c.deref.result.now numbers.packets max_keys (ap (λ b. length b) bytes ∙ length-drawn numbers)
    c.args.numbers.few_packets

pub returns-clause-measured : goal.returns-clause-measured
returns-clause-measured g c =
    let numbers = numbers_in c.args.numbers in
    let bytes : c.deref.result.now ≡ concat (keys_drawn numbers) = c.deref.ensures.value ∙ c.requires.keys in
    let some : Some c.in-Some.built.now ≡ Some (table_drawn numbers) = c.in-Some.ensures.table ∙ c.requires.table in
    let built : c.in-Some.built.now ≡ table_drawn numbers =
    ap (λ (o : Option TableView). unwrap_or o (table_drawn numbers)) some in
    measured-is numbers c.args.drawn.now.plain c.in_ok-table.table c.tries.result c.total_words.result
    c.requires.plain
    (c.in_ok-table.ensures.tally
    ∙ ap (λ (s : RuleSetView). tally_of (verdicts_by_rules s c.args.cats.count c.deref.result.now)) c.requires.set
    ∙ ap (λ b. tally_of (verdicts_by_rules (set_drawn numbers) c.args.cats.count b)) bytes
    ∙ ap tally_of (verdicts-drawn numbers c.args.cats.count)
    ∙ ap (λ n. tally_of (verdicts_on_keys (set_drawn numbers) n (keys_drawn numbers))) c.requires.all)
    (c.tries.ensures.value ∙ ap (λ (t : TableView). length t.roots) built)
    (c.total_words.ensures ∙ ap words_of built)

pub returns-clause-steps : goal.returns-clause-steps
returns-clause-steps g c =
    let numbers = numbers_in c.args.numbers in
    let old = c.args.steps.now in
    let bytes : c.deref.result.now ≡ concat (keys_drawn numbers) = c.deref.ensures.value ∙ c.requires.keys in
    let taken : c.table_tally.new.steps ≡ old + batch_transitions (table_drawn numbers) c.deref.result.now =
    subst (λ (o : Option TableView). IfSome o
    (λ t. c.table_tally.new.steps ≡ old + batch_transitions t c.deref.result.now))
    c.requires.table c.in_ok-table.ensures.steps in
    taken ∙ ap (λ b. old + batch_transitions (table_drawn numbers) b) bytes
    ∙ ap (λ n. old + n) (transitions-drawn numbers c.requires.serves)
