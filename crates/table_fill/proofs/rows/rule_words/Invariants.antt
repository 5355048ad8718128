-- the words of the rules so far, whose userdata is small
use Rattle.std.proofs.Common.{◌≡◌, ◌<◌, map, take, All}
use Rattle.std.specs.List.{range_with_len}
use Rattle.rule_set.specs.Rule.{RuleView}
use Rattle.flat_table.specs.Walk.{userdatas}
use Rattle.table_fill.specs.Filled.{rule_word}
use Rattle.table_fill.proofs.rows.rule_words.Given as goal

abbrev pub invariant-loop-place : goal.invariant-loop-place
invariant-loop-place l =
    (l.words.items ≡ map (rule_word l.rules.rules) (range_with_len 0 l.place))
    × All (λ (rule : RuleView). rule.tag.userdata < userdatas) (take l.place l.rules.rules)
