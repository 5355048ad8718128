use Rattle.cisco_reader.proofs.JoinedWords.{read_words_are_parts}
use Rattle.cisco_reader.proofs.MemberWords.{read_members_are_parts}
use Rattle.cisco_reader.proofs.ServiceWords.{read_services_are_parts}
use Rattle.cisco_reader.proofs.laws.read_words_are_parts.Goals as goal

pub returns-clause-entries : goal.returns-clause-entries
returns-clause-entries c = read_words_are_parts

pub returns-clause-members : goal.returns-clause-members
returns-clause-members c = read_members_are_parts

pub returns-clause-services : goal.returns-clause-services
returns-clause-services c = read_services_are_parts
