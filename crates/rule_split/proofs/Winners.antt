-- The winner of all rules is one of the groups' winners.
use Rattle.rule_set.proofs.Offered.{groups_decide}
use Rattle.rule_split.specs.Split.{groups_of}
use Rattle.rule_split.specs.Laws.{TheWinnerHasTheGreatestRank}
use Rattle.rule_split.proofs.Groups.{split_once}

-- the winner of all rules is the groups' winner of greatest rank
pub winner_ranks : TheWinnerHasTheGreatestRank
winner_ranks = record {
  rank = λ set budget key category.
      groups_decide.rank set.layout set.rules (groups_of set budget) key category (split_once set budget).0;
  wins = λ set budget key category place group at is same.
      groups_decide.wins set.layout set.rules (groups_of set budget) key category place group
      (split_once set budget).0
      at is same;
}
