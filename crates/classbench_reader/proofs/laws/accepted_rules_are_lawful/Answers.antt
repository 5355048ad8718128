use Rattle.classbench_reader.proofs.AcceptedFiles.{accepted_rules_are_lawful}
use Rattle.classbench_reader.proofs.laws.accepted_rules_are_lawful.Goals as goal

pub returns : goal.returns
returns c = accepted_rules_are_lawful
