-- What a sink that grows shows.
use Rattle.std.specs.Prelude.{ℕ, List, [], Some}
use Rattle.acl_outside.specs.Sink.{SinkView}

-- the text that was put, and how many puts found no memory
pub record GrownView : Type 0 where
  pub text : List ℕ
  pub faults : ℕ

-- what it shows as a sink
abbrev pub shown_grown : GrownView → SinkView
shown_grown grown = record { taken = grown.text; written = Some grown.text; faults = grown.faults }

-- nothing was put
abbrev pub nothing_put : GrownView
nothing_put = record { text = []; faults = 0 }
