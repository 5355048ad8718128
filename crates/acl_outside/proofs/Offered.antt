-- The lemmas that proofs of other crates may cite.

-- what is told, step by step
-- two steps, one after the other
pub use Rattle.acl_outside.proofs.ToldLaws.{Changes-join}
-- a step of one relation is one of each weaker relation
pub use Rattle.acl_outside.proofs.ToldLaws.{Changes-weaker}
-- what calls leave as it is
-- no count fell where nothing was asked
pub use Rattle.acl_outside.proofs.KeptLaws.{KeepsCounts-same}
-- no count fell, and then none again
pub use Rattle.acl_outside.proofs.KeptLaws.{KeepsCounts-join}
-- nothing was made where nothing was asked
pub use Rattle.acl_outside.proofs.KeptLaws.{KeepsMade-same}
-- nothing was made, and then nothing again
pub use Rattle.acl_outside.proofs.KeptLaws.{KeepsMade-join}
-- an opening makes nothing
pub use Rattle.acl_outside.proofs.KeptLaws.{KeepsMade-opening}
-- a read makes nothing
pub use Rattle.acl_outside.proofs.KeptLaws.{KeepsMade-read}
-- nothing was heard where nothing was asked
pub use Rattle.acl_outside.proofs.KeptLaws.{KeepsHeard-same}
-- nothing was heard, and then nothing again
pub use Rattle.acl_outside.proofs.KeptLaws.{KeepsHeard-join}
-- a creation says nothing of what is read
pub use Rattle.acl_outside.proofs.KeptLaws.{KeepsHeard-creation}
-- nor does a write
pub use Rattle.acl_outside.proofs.KeptLaws.{KeepsHeard-write}
-- nor does a finish
pub use Rattle.acl_outside.proofs.KeptLaws.{KeepsHeard-finish}
-- what was heard of a file, read by read
-- nothing was asked yet
pub use Rattle.acl_outside.proofs.HeardLaws.{ReadsOn-none}
-- bytes were read, and then more, after which the reading stands so
pub use Rattle.acl_outside.proofs.HeardLaws.{ReadsOn-then}
-- a read gave bytes, at least one
pub use Rattle.acl_outside.proofs.HeardLaws.{ReadsOn-given}
-- a read gave nothing, with room for something: the end was met
pub use Rattle.acl_outside.proofs.HeardLaws.{ReadsOn-ended}
-- a read failed
pub use Rattle.acl_outside.proofs.HeardLaws.{ReadsOn-failed}
-- what was made of a file, write by write
-- nothing was asked yet
pub use Rattle.acl_outside.proofs.MadeLaws.{WritesOn-none}
-- bytes were written, and then more, after which the file stands so
pub use Rattle.acl_outside.proofs.MadeLaws.{WritesOn-then}
-- a write took bytes
pub use Rattle.acl_outside.proofs.MadeLaws.{WritesOn-taken}
-- a write failed
pub use Rattle.acl_outside.proofs.MadeLaws.{WritesOn-failed}
-- a creation is the newest of what was made
pub use Rattle.acl_outside.proofs.MadeLaws.{made-creation}
-- a finish says how the newest stands
pub use Rattle.acl_outside.proofs.MadeLaws.{made-finish}
-- what a sink gains, piece by piece
-- bytes at the end, and then more bytes
pub use Rattle.acl_outside.proofs.WritingLaws.{Appends-then}
-- a text, and then another
pub use Rattle.acl_outside.proofs.WritingLaws.{Gains-then}
-- a prefix of a text is one of a longer text
pub use Rattle.acl_outside.proofs.WritingLaws.{GainsPrefix-more}
-- the first n bytes of a piece, and then m bytes more
pub use Rattle.acl_outside.proofs.WritingLaws.{Gains-more}
-- the first n bytes of a piece, and then nothing more
pub use Rattle.acl_outside.proofs.WritingLaws.{GainsPrefix-failed}
-- what was heard of the opened file, and what is left of it, are together the file
-- so it is after an opening, whatever comes of it
pub use Rattle.acl_outside.proofs.TogetherLaws.{HoldsTogether-opening}
-- and after a file was read on
pub use Rattle.acl_outside.proofs.TogetherLaws.{HoldsTogether-reads_on}
-- and after a file was read up to a cap
pub use Rattle.acl_outside.proofs.TogetherLaws.{readings as HoldsTogether-reading}
-- and after a creation
pub use Rattle.acl_outside.proofs.TogetherLaws.{HoldsTogether-creation}
-- and after bytes were written while no file was read
pub use Rattle.acl_outside.proofs.TogetherLaws.{HoldsTogether-writing}
-- and after a finish
pub use Rattle.acl_outside.proofs.TogetherLaws.{HoldsTogether-finish}
-- where a file is told to be opened, the newest that was heard of is that file, and is whole
pub use Rattle.acl_outside.proofs.TogetherLaws.{whole_where_opened}
