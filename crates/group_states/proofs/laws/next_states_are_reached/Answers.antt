use Rattle.group_states.proofs.laws.next_states_are_reached.Goals as goal
use Rattle.group_states.proofs.StateLaws.{next_states_are_reached}

pub returns : goal.returns
returns c = next_states_are_reached
