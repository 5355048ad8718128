use Rattle.rule_set.proofs.RankOrder.{best_has_greatest_rank}
use Rattle.rule_set.proofs.laws.the_best_has_the_greatest_rank.Goals as goal

pub returns : goal.returns
returns c = best_has_greatest_rank
