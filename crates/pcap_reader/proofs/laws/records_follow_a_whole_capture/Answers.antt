use Rattle.pcap_reader.proofs.CaptureLaws.{capture_of-append}
use Rattle.pcap_reader.proofs.laws.records_follow_a_whole_capture.Goals as goal

pub returns : goal.returns
returns c = capture_of-append c.args.front.now c.args.after.now
