use Rattle.std.proofs.Common.{arith}
use Rattle.std.specs.Fmt.{decimal}
use Rattle.text_scan.proofs.Numerals.{whole_number-spelled}
use Rattle.text_scan.proofs.Numerals.{decimal_spelled}
use Rattle.text_scan.proofs.laws.number_reads_back.Goals as goal

pub returns : goal.returns
returns c =
    let value = c.args.value in
    whole_number-spelled _ value (decimal value) (decimal_spelled value (omega arith)) (omega arith)
