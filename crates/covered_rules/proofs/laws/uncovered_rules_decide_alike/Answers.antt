use Rattle.covered_rules.proofs.Choosing.{decide_alike}
use Rattle.covered_rules.proofs.laws.uncovered_rules_decide_alike.Goals as goal

pub returns : goal.returns
returns c = decide_alike c.the_winner_is_among_all_places.ensures c.the_winner_is_uncovered.ensures
