use Rattle.acl_tool.proofs.BeforeLeft.{classify_puts, printing_puts, replay_puts}
use Rattle.acl_tool.proofs.laws.lines_are_of_the_bytes_before_left.Goals as goal

pub returns-clause-classify : goal.returns-clause-classify
returns-clause-classify c = classify_puts

pub returns-clause-replay : goal.returns-clause-replay
returns-clause-replay c = replay_puts

pub returns-clause-printing : goal.returns-clause-printing
returns-clause-printing c = printing_puts
