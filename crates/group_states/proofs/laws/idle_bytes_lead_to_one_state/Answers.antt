use Rattle.group_states.proofs.laws.idle_bytes_lead_to_one_state.Goals as goal
use Rattle.group_states.proofs.StateLaws.{idle_bytes_lead_to_one_state}

pub returns : goal.returns
returns c = idle_bytes_lead_to_one_state
