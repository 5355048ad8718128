use Rattle.std.proofs.Common.{refl}
use Rattle.pcap_reader.specs.State.{begun}
use Rattle.pcap_reader.proofs.AnswersLaws.{records_given-link}
use Rattle.pcap_reader.proofs.laws.records_have_the_link_type_of_the_header.Goals as goal

pub returns : goal.returns
returns c = λ start pieces answers is to. records_given-link (begun start) start.link pieces answers refl to
