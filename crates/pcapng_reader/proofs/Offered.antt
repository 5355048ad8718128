-- The lemmas that proofs of other crates may cite, and the words in which they are said.

-- what stands next, and more bytes after it
-- what decides is there: more bytes change nothing but what stands after a record
unfoldable pub use Rattle.pcapng_reader.proofs.NextLaws.{IsDecidedNext}
-- what stands next, with more bytes after it
unfoldable pub use Rattle.pcapng_reader.proofs.NextLaws.{next_more}
-- where what decides is there, more bytes after it change nothing
pub use Rattle.pcapng_reader.proofs.NextLaws.{next-append}
-- a record takes bytes away
unfoldable pub use Rattle.pcapng_reader.proofs.NextLaws.{IsShorterNext}
-- and so does what stands next
pub use Rattle.pcapng_reader.proofs.NextLaws.{next-shorter}
-- what stands next is one of three
pub use Rattle.pcapng_reader.proofs.NextLaws.{next_cases}
-- the records that follow
-- the records after a record
pub use Rattle.pcapng_reader.proofs.CaptureLaws.{records-record}
-- the end has no records
pub use Rattle.pcapng_reader.proofs.CaptureLaws.{records-end}
-- nor has a fault
pub use Rattle.pcapng_reader.proofs.CaptureLaws.{records-fault}
-- nor have bytes that begin with none
pub use Rattle.pcapng_reader.proofs.CaptureLaws.{records-none}
-- what the first bytes say
-- bytes that are no cut header say the same with more bytes after them
pub use Rattle.pcapng_reader.proofs.StartLaws.{start-append}
-- what a capture is whose header was read
pub use Rattle.pcapng_reader.proofs.BeginLaws.{capture-read}
-- and that of a file whose first bytes say what follows
pub use Rattle.pcapng_reader.proofs.BeginLaws.{capture-start}
-- where the first bytes say a fault, the capture is that fault
pub use Rattle.pcapng_reader.proofs.BeginLaws.{start-fault}
-- and has no records
pub use Rattle.pcapng_reader.proofs.BeginLaws.{whole-none}
-- the start of a reader
-- it has given no record, and goes on
pub use Rattle.pcapng_reader.proofs.StartLaws.{start-begun}
-- it has read four bytes of a block at most
pub use Rattle.pcapng_reader.proofs.StartLaws.{start-first}
-- the bytes that it has read ahead, and then what is left, are the end of the file
pub use Rattle.pcapng_reader.proofs.StartLaws.{start-left}
-- it was said by the first bytes
pub use Rattle.pcapng_reader.proofs.StartLaws.{len_cases}
-- what follows
-- a reader that gave a record has counted it, and goes on as before
unfoldable pub use Rattle.pcapng_reader.proofs.FollowLaws.{CountsNext}
-- and so it has
pub use Rattle.pcapng_reader.proofs.FollowLaws.{next-counts}
-- a reader that gave a record has read no bytes of the next block
unfoldable pub use Rattle.pcapng_reader.proofs.NextLaws.{FirstNone}
-- and so it has
pub use Rattle.pcapng_reader.proofs.NextLaws.{next-first}
-- fewer bytes than a block has are no record
pub use Rattle.pcapng_reader.proofs.AnswersLaws.{records-nothing}
-- a fault is the answer to bytes with no record
pub use Rattle.pcapng_reader.proofs.AnswersLaws.{unanswered}
-- one byte more after a whole capture is a fault
pub use Rattle.pcapng_reader.proofs.FollowLaws.{whole-last}
