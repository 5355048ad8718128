-- The next record of a capture, as this crate asks for it: the reader's state is one value, and
-- each answer has a record with its own link. Captures are of either format, and only the lemmas of
-- Reader know which there are.
use Rattle.std.specs.Prelude.{◌≡◌, ◌<◌, List, [], ◌∷◌, length, Some, None, Ok, Err}
use Rattle.pcap_reader.specs.declared.state.Progress.TheVariants as progress
use Rattle.pcap_reader.specs.State.{Answer, CaptureRecord}
use Rattle.pcapng_reader.specs.Block.{front_len}
use Rattle.pcapng_reader.specs.Capture.{AnyState, first_of}
use Rattle.pcapng_reader.specs.Reader.{count_of, progress_of}

-- the record of an answer, if there is one
abbrev pub record_in : Answer → List CaptureRecord
record_in (Ok None) = []
record_in (Ok (Some captured)) = captured ∷ []
record_in (Err fault) = []

-- The next record may be asked for: the reader has neither ended nor failed, and has read no block
-- ahead.
pub record MayGoOn (state : AnyState) : Type 0 where
  pub reading : progress_of state ≡ progress.Reading
  pub ahead : length (first_of state) < front_len

-- The first bytes were read, and no record yet.
abbrev pub IsBegun : AnyState → Type 0
IsBegun state = MayGoOn state × (count_of state ≡ 0)
