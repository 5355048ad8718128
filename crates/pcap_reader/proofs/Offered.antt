-- The lemmas that proofs of other crates may cite, and the words in which they are said.

-- a slice that is filled part by part
-- what was read after the first len bytes stands after them
pub use Rattle.pcap_reader.proofs.FillLaws.{take-put_mid}
-- a file stays opened where nothing was asked
pub use Rattle.pcap_reader.proofs.FillLaws.{KeepsReading-same}
-- some was read, and then more
pub use Rattle.pcap_reader.proofs.FillLaws.{KeepsReading-join}
-- a fault that is counted in a later call is counted over both
pub use Rattle.pcap_reader.proofs.FillLaws.{Rose-later}
-- a slice that is full leaves the reading as it stands
pub use Rattle.pcap_reader.proofs.FillLaws.{reads-full}
-- and a slice that isn't full met the end
pub use Rattle.pcap_reader.proofs.FillLaws.{reads-short}
-- a number is read from its own bytes
pub use Rattle.pcap_reader.proofs.NextLaws.{part-append}
-- and so it is the same whatever stands after them
pub use Rattle.pcap_reader.proofs.NextLaws.{number_in-append}
-- what stands next, and more bytes after it
-- what decides is there: more bytes change nothing but what stands after a record
unfoldable pub use Rattle.pcap_reader.proofs.NextLaws.{IsDecided}
-- what stands next, with more bytes after it
unfoldable pub use Rattle.pcap_reader.proofs.NextLaws.{with_more}
-- where what decides is there, more bytes after it change nothing
pub use Rattle.pcap_reader.proofs.NextLaws.{next_of-append}
-- at least one byte is too many after the last record
pub use Rattle.pcap_reader.proofs.NextLaws.{next_of-too_many}
-- a record takes its header away at least
unfoldable pub use Rattle.pcap_reader.proofs.CaptureLaws.{IsShorter}
-- and so does what stands next
pub use Rattle.pcap_reader.proofs.CaptureLaws.{next_of-shorter}
-- what stands next is one of three
pub use Rattle.pcap_reader.proofs.CaptureLaws.{next_cases}
-- the records that follow
-- the state after a record
unfoldable pub use Rattle.pcap_reader.proofs.CaptureLaws.{state_next}
-- the records after a record
pub use Rattle.pcap_reader.proofs.CaptureLaws.{records_from-record}
-- the end has no records
pub use Rattle.pcap_reader.proofs.CaptureLaws.{records_from-end}
-- nor has a fault
pub use Rattle.pcap_reader.proofs.CaptureLaws.{records_from-fault}
-- some records, and then more
pub use Rattle.pcap_reader.proofs.CaptureLaws.{followed_by-then}
-- after a whole capture the records of the bytes after it follow
pub use Rattle.pcap_reader.proofs.CaptureLaws.{capture_of-append}
-- the state after records
-- some records, and then more
pub use Rattle.pcap_reader.proofs.CaptureLaws.{state_past-then}
-- it has counted the records
pub use Rattle.pcap_reader.proofs.CaptureLaws.{state_past-count}
-- it stands as before
pub use Rattle.pcap_reader.proofs.CaptureLaws.{state_past-progress}
-- and it has the file header of before
pub use Rattle.pcap_reader.proofs.CaptureLaws.{state_past-start}
-- what answers come to
-- where what stands next has no record, the bytes have none
pub use Rattle.pcap_reader.proofs.AnswersLaws.{no_records}
-- a fault is the answer to bytes with no record
pub use Rattle.pcap_reader.proofs.AnswersLaws.{unanswered}
-- what a capture is whose header was read
pub use Rattle.pcap_reader.proofs.AnswersLaws.{capture_of-read}
-- a file header with a fault has no records after it
pub use Rattle.pcap_reader.proofs.AnswersLaws.{whole_records-none}
