use Rattle.pcapng_reader.proofs.AnswersLaws.{whole_answers, capture_answers}
use Rattle.pcapng_reader.proofs.BeginLaws.{whole-none}
use Rattle.pcapng_reader.proofs.laws.answers_are_those_of_the_bytes_given.Goals as goal

pub returns : goal.returns
returns c = record {
  none = whole-none c.args.header.now;
  records = whole_answers c.args.header.now;
  capture = capture_answers c.args.header.now;
}
