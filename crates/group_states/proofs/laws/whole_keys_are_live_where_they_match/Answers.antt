use Rattle.group_states.proofs.laws.whole_keys_are_live_where_they_match.Goals as goal
use Rattle.group_states.proofs.StateLaws.{whole_keys_are_live_where_they_match}

pub returns : goal.returns
returns c = whole_keys_are_live_where_they_match
