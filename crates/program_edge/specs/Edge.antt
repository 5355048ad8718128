-- What holds of a run whose desk and sinks the program makes itself, over writers that it is given.
use Rattle.std.specs.Prelude.{ℕ, List, [], false, Option, None}
use Rattle.acl_outside.specs.Desk.{DeskView}
use Rattle.acl_outside.specs.Sink.{SinkView, Holds}

-- what a run reads and changes: files, output and error
pub record World : Type 0 where
  pub desk : DeskView
  pub out : SinkView
  pub err : SinkView

-- a desk over the system of which nothing was asked
abbrev pub desk_anew : DeskView
desk_anew = record {
  content = None;
  answers = [];
  reading = false;
  writing = false;
  read_faults = 0;
  absent = 0;
  write_faults = 0;
}

-- a sink that took nothing yet, over a writer that holds these bytes, if that is known
abbrev pub sink_over : Option (List ℕ) → SinkView
sink_over held = record { taken = []; written = held; faults = 0 }

-- such a desk, and two such sinks
abbrev pub world_over : Option (List ℕ) → Option (List ℕ) → World
world_over out err = record { desk = desk_anew; out = sink_over out; err = sink_over err }

-- The run kept its promise, from a new desk and new sinks over the two writers to what stands of
-- them afterwards, and each writer holds then what its sink wrote.
pub record RunsOver (Promise : World → World → ℕ → Type 0)
    (out_old out_new err_old err_new : Option (List ℕ)) (code : ℕ) : Type 0 where
  pub after : World
  pub kept : Promise (world_over out_old err_old) after code
  pub out : Holds after.out out_new
  pub err : Holds after.err err_new

-- Nothing was written to either writer.
pub record LeavesWriters (out_old out_new err_old err_new : Option (List ℕ)) : Type 0 where
  pub out : Holds (sink_over out_old) out_new
  pub err : Holds (sink_over err_old) err_new
