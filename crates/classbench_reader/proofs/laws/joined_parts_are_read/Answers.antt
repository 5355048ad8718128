use Rattle.classbench_reader.proofs.JoinedParts as joined
use Rattle.classbench_reader.proofs.laws.joined_parts_are_read.Goals as goal

pub returns : goal.returns
returns c = joined.joined_parts_are_read
