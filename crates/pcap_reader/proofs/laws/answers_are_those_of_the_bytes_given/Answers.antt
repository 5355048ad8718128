use Rattle.pcap_reader.proofs.AnswersLaws.{whole_records-none, whole_records-answers, capture_of-answers}
use Rattle.pcap_reader.proofs.laws.answers_are_those_of_the_bytes_given.Goals as goal

pub returns : goal.returns
returns c = record {
  none = whole_records-none c.args.header.now;
  records = whole_records-answers c.args.header.now;
  capture = capture_of-answers c.args.header.now;
}
