use Rattle.rule_split.proofs.Totals.{total_of_words}
use Rattle.rule_split.proofs.laws.the_total_is_of_all_words.Goals as goal

pub returns : goal.returns
returns c = total_of_words
