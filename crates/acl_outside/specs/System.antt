-- What the desk and the sink over the system are.
use Rattle.std.specs.Prelude.{ℕ, List, [], Bool, Option, None}
use Rattle.acl_outside.specs.Desk.{Answer, DeskView}
use Rattle.acl_outside.specs.Sink.{SinkView}

-- A desk over the system: the bytes that were read of the opened file and not given yet, what is
-- still to come of it with these, where that is known, the bytes that the created file holds, where
-- they are known, its answers so far, whether a file is opened, whether one is created and not
-- finished, and the counts of its faults.
pub record StdDeskView : Type 0 where
  pub held : List ℕ
  pub remaining : Option (List ℕ)
  pub contents : Option (List ℕ)
  pub answers : List Answer
  pub reading : Bool
  pub writing : Bool
  pub read_faults : ℕ
  pub write_faults : ℕ

-- what it shows as a desk: no content, and no file is told to be absent
abbrev pub shown_std_desk : StdDeskView → DeskView
shown_std_desk desk = record {
  content = None;
  answers = desk.answers;
  reading = desk.reading;
  writing = desk.writing;
  read_faults = desk.read_faults;
  absent = 0;
  write_faults = desk.write_faults;
}

-- A sink over a writer: what the writer holds, if that is known; what it held at first and the bytes
-- that the sink took after them, if the former is known; those bytes alone, and the count of faults.
pub record StdSinkView : Type 0 where
  pub contents : Option (List ℕ)
  pub written : Option (List ℕ)
  pub taken : List ℕ
  pub faults : ℕ

-- what it shows as a sink
abbrev pub shown_std_sink : StdSinkView → SinkView
shown_std_sink sink = record { taken = sink.taken; written = sink.written; faults = sink.faults }

-- a sink that took nothing yet, over a writer that holds these bytes, if that is known
abbrev pub std_sink_over : Option (List ℕ) → StdSinkView
std_sink_over held = record { contents = held; written = held; taken = []; faults = 0 }
