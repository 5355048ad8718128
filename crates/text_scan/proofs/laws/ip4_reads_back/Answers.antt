use Rattle.std.proofs.Common.{arith}
use Rattle.text_scan.proofs.Addresses.{ip4_of-ip4_spelling}
use Rattle.text_scan.proofs.laws.ip4_reads_back.Goals as goal

pub returns : goal.returns
returns c = ip4_of-ip4_spelling c.args.value (omega arith)
