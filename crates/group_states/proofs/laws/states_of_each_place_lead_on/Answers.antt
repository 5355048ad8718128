use Rattle.group_states.proofs.laws.states_of_each_place_lead_on.Goals as goal
use Rattle.group_states.proofs.StateLaws.{states_of_each_place_lead_on}

pub returns : goal.returns
returns c = states_of_each_place_lead_on
