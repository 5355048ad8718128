use Rattle.std.proofs.Common.{◌≡◌, ◌+◌, ◌*◌, ◌≤◌, take}
use Rattle.std.specs.List.{sum_by}
use Rattle.table_sizes.specs.Sizes.{max_words, row_len}
use Rattle.rule_split.specs.Counted.{words_counted}
use Rattle.rule_split.proofs.turn.total.Given as goal

-- the words of the groups so far, which are few
abbrev pub invariant-loop-group : goal.invariant-loop-group
invariant-loop-group l =
    (l.words ≡ row_len + sum_by (words_counted l.budget) (take l.group-index l.groups))
    × (l.words ≤ row_len + l.group-index * (max_words + 1))
