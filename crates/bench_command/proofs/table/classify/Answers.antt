-- The table that serves the rules says what they say.
use Rattle.std.proofs.Common.{◌≡◌, List, ℕ, Option, Some, None, IfSome, IsSome, ap, ◌∙◌}
use Rattle.std.proofs.lemmas.Bool.{false≢true}
use Rattle.rule_set.specs.Rule.{RuleSetView}
use Rattle.flat_table.specs.Table.{TableView}
use Rattle.table_fill.specs.Serves.{Serves}
use Rattle.acl_context.specs.Batch.{verdicts_by_rules}
use Rattle.bench_command.specs.Tally.{tally_of}
use Rattle.bench_command.proofs.table.classify.Goals as goal

served_by : (table : Option TableView) (set : RuleSetView) (out said : List ℕ) → IsSome table →
    IfSome table (λ t. Serves set t) → IfSome table (λ t. Serves set t → out ≡ said) → out ≡ said
served_by None set out said some serves served = absurd (false≢true some)
served_by (Some table) set out said some serves served = served serves

pub returns-clause-tally : goal.returns-clause-tally
returns-clause-tally g c =
    let set = c.args.context.now.set in
    c.tally_of.ensures
    ∙ ap tally_of (served_by c.args.context.now.table set c.classify.new.out
    (verdicts_by_rules set c.args.cats.count c.args.keys.now) c.requires.built c.requires.serves
    (c.classify.ensures.served set))
