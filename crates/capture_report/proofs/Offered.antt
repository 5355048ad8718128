-- What the proofs of other crates may cite of this one's.

-- the lines of the whole records of the first bytes of a capture are the first part of its report
pub use Rattle.capture_report.proofs.WholeRecords.{report-begins}
-- a report tells at most a transition for each trie and byte of the key of each packet
pub use Rattle.capture_report.proofs.Bounds.{report_bound}
-- report_alike: what answers as the tables do reports the same of a capture whose packets are of bytes
-- categories_few: a lawful number of categories is at most the most verdicts of a packet
pub use Rattle.capture_report.proofs.Alike.{report_alike, categories_few}
