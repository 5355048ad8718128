use Rattle.std.proofs.Common.{arith}
use Rattle.classbench_reader.proofs.PrintedFiles.{rule_file_of-text}
use Rattle.classbench_reader.proofs.laws.printed_lines_are_files.Goals as goal

pub returns : goal.returns
returns c = rule_file_of-text c.args.line c.requires (record { categories = omega arith; userdata = omega arith })
