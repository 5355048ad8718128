use Rattle.std.proofs.Common.{arith}
use Rattle.classbench_reader.proofs.PrintedLines.{rule_line_of-text}
use Rattle.classbench_reader.proofs.laws.printed_lines_read_back.Goals as goal

pub returns : goal.returns
returns c = rule_line_of-text c.args.ordinal c.args.line c.requires
    (record { categories = omega arith; userdata = omega arith })
