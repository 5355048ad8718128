use Rattle.acl_outside.proofs.TogetherLaws.{desks_begin, openings, reads, creations, writes, finishes, readings}
use Rattle.acl_outside.proofs.laws.heard_and_left_are_the_file.Goals as goal

pub returns-clause-begins : goal.returns-clause-begins
returns-clause-begins c = desks_begin

pub returns-clause-opening : goal.returns-clause-opening
returns-clause-opening c = openings

pub returns-clause-reading : goal.returns-clause-reading
returns-clause-reading c = reads

pub returns-clause-creation : goal.returns-clause-creation
returns-clause-creation c = creations

pub returns-clause-writing : goal.returns-clause-writing
returns-clause-writing c = writes

pub returns-clause-finish : goal.returns-clause-finish
returns-clause-finish c = finishes

pub returns-clause-up_to : goal.returns-clause-up_to
returns-clause-up_to c = readings
