use Rattle.classbench_reader.proofs.SplitLines.{read_lines_are_joined_parts}
use Rattle.classbench_reader.proofs.laws.read_lines_are_joined_parts.Goals as goal

pub returns : goal.returns
returns c = read_lines_are_joined_parts
