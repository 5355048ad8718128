use Rattle.pcapng_reader.proofs.AnswersLaws.{capture_answers_on}
use Rattle.pcapng_reader.proofs.laws.answers_are_those_of_the_file.Goals as goal

pub returns : goal.returns
returns c = capture_answers_on c.args.file.now
