use Rattle.std.proofs.Common.{arith}
use Rattle.text_scan.proofs.Addresses.{ip6_of-ip6_spelling}
use Rattle.text_scan.proofs.laws.ip6_reads_back.Goals as goal

pub returns : goal.returns
returns c = ip6_of-ip6_spelling c.args.value (omega arith)
