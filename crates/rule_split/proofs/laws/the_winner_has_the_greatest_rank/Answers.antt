use Rattle.rule_split.proofs.Winners.{winner_ranks}
use Rattle.rule_split.proofs.laws.the_winner_has_the_greatest_rank.Goals as goal

pub returns : goal.returns
returns c = winner_ranks
