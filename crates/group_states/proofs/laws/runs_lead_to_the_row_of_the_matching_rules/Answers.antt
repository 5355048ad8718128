use Rattle.group_states.proofs.laws.runs_lead_to_the_row_of_the_matching_rules.Goals as goal
use Rattle.group_states.proofs.Following.{runs_lead}

pub returns : goal.returns
returns c = runs_lead
