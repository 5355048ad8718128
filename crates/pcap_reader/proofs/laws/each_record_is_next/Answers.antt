use Rattle.pcap_reader.proofs.CaptureLaws.{records_from-step}
use Rattle.pcap_reader.proofs.laws.each_record_is_next.Goals as goal

pub returns : goal.returns
returns c = λ state. records_from-step state c.args.left.now
