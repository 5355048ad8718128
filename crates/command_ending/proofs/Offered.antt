-- What the proofs of other crates may cite of this one.

-- what a sink gained that was given nothing
pub use Rattle.command_ending.proofs.Gained.{Gains-none}
-- BeginsWith: a text begins with another
-- BeginsWith-nothing: and each text with the one of no byte
pub use Rattle.command_ending.proofs.Told.{BeginsWith, BeginsWith-nothing}
-- IsFaithful: what a plan prints while it reads a file is the first part of what is printed in all
-- faithful_unless: so it is of a plan that stops where a result is refused, and else goes on faithfully with its value
pub use Rattle.command_ending.proofs.Told.{IsFaithful, faithful_unless}
-- where the files are told, a command ends by the outcome of the files
pub use Rattle.command_ending.proofs.Told.{Ends-told}
-- a status within a file isn't decided, however the file ended
pub use Rattle.command_ending.proofs.Told.{undecided_within}
-- where the outside has no fault, only memory keeps a command from its outcome
pub use Rattle.command_ending.proofs.Told.{Ends-complete}
-- a desk that was left alone
pub use Rattle.command_ending.proofs.Stops.{KeepsFiles-same}
-- what was heard of the opened file and what is left of it stay the file
pub use Rattle.command_ending.proofs.Stops.{Keeps-together}
-- a status that comes with no report is no write fault
pub use Rattle.command_ending.proofs.Stops.{unwritten}
-- a plan that stops asks for nothing
pub use Rattle.command_ending.proofs.Stops.{Ends-stopped}
-- memory ran out before anything was asked for, whatever the plan is
pub use Rattle.command_ending.proofs.Stops.{Ends-full}
-- the lines of an outcome were put, and the transitions counted
pub use Rattle.command_ending.proofs.Stops.{Ends-put}
-- Ends-made: the file of an outcome was made, and the command ends with Done
-- Ends-broken: it couldn't be made whole, and the command ends with a write fault
pub use Rattle.command_ending.proofs.Stops.{Ends-made, Ends-broken}
-- Takes-read: a file was read, and its bytes give a value or are refused
-- Takes-unread: it wasn't read to its end, and the step ends with the status of the reading
pub use Rattle.command_ending.proofs.Links.{Takes-read, Takes-unread}
-- Ends-cut: a step ended the command
-- Ends-then: a step gave its value, and the rest ended the command
pub use Rattle.command_ending.proofs.Links.{Ends-cut, Ends-then}
-- a fault of the desk, for a reason that follows from another
pub use Rattle.command_ending.proofs.Links.{CannotRead-because}
-- heard_file: what was heard of a file that was opened and read stands before what was heard earlier
-- part_told: what was read is a part of the told file
pub use Rattle.command_ending.proofs.Inputs.{heard_file, part_told}
-- opened_told: where files are told, so is the opened one, and it is the one of the name
-- opened_absent: an opened file was there, so no absent one is counted
pub use Rattle.command_ending.proofs.Inputs.{opened_told, opened_absent}
-- kept_files: the files are kept where one was opened and read
-- unopened_kept: and where one couldn't be opened
pub use Rattle.command_ending.proofs.Inputs.{kept_files, unopened_kept}
-- no file is told to be opened where none could be
pub use Rattle.command_ending.proofs.Inputs.{unopened_told}
-- a file that can't be opened is a fault of the desk, or it is absent
pub use Rattle.command_ending.proofs.Inputs.{cannot_open}
