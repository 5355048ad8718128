use Rattle.covered_rules.proofs.Staying.{winner_is_uncovered}
use Rattle.covered_rules.proofs.laws.the_winner_is_uncovered.Goals as goal

pub returns : goal.returns
returns c =
    winner_is_uncovered c.ranks_order_rules.ensures c.the_best_wins_over_all_others.ensures
    c.the_best_has_the_greatest_rank.ensures c.the_winner_is_among_all_places.ensures
