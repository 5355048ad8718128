use Rattle.group_states.proofs.laws.states_go_byte_by_byte.Goals as goal
use Rattle.group_states.proofs.StateLaws.{states_go_byte_by_byte}

pub returns : goal.returns
returns c = states_go_byte_by_byte
