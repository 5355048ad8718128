-- What follows a whole capture.
use Rattle.std.specs.Prelude.{◌≡◌, ℕ, List, [], ◌++◌, length, Ok}
use Rattle.pcap_reader.specs.declared.state.Progress.TheVariants as progress
use Rattle.pcap_reader.specs.State.{CaptureRecord}
use Rattle.pcapng_reader.specs.Capture.{AnyState, capture_of, first_of, followed_by, records_from}
use Rattle.pcapng_reader.specs.Reader.{count_of, progress_of}

-- After a whole capture with these records those of the bytes after it follow, from a state of the
-- reader that has counted the records, and has read no byte ahead.
pub record FollowsWhole (records : List CaptureRecord) (front after : List ℕ) : Type 0 where
  pub state : AnyState
  pub count : count_of state ≡ length records
  pub reading : progress_of state ≡ progress.Reading
  pub first : first_of state ≡ []
  pub capture : capture_of (front ++ after) ≡ Ok (followed_by records (records_from state after))
