use Rattle.pcap_reader.proofs.AnswersLaws.{capture_of-answers_on}
use Rattle.pcap_reader.proofs.laws.answers_are_those_of_the_file.Goals as goal

pub returns : goal.returns
returns c = capture_of-answers_on c.args.file.now
