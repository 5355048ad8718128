-- What a sink shows of what it was given, and what writing changes of that.
use Rattle.std.specs.Prelude.{◌≡◌, ℕ, ◌<◌, ◌≤◌, List, [], ◌++◌, length, take, Option, Some, Result, Ok, IfOk, OnOk, OnErr}
use Rattle.acl_outside.specs.Fault.{Rose}
use Rattle.acl_outside.specs.Told.{Changes}

-- What a sink shows: the bytes that it took so far, what was written, where it tells that, and the
-- count of its faults.
pub record SinkView : Type 0 where
  pub taken : List ℕ
  pub written : Option (List ℕ)
  pub faults : ℕ

-- If the sink tells which bytes were written, its writer holds exactly these.
abbrev pub Holds : SinkView → Option (List ℕ) → Type 0
Holds sink held = (bytes : List ℕ) → sink.written ≡ Some bytes → held ≡ Some bytes

-- The bytes were written at the end.
abbrev pub Appends : List ℕ → List ℕ → List ℕ → Type 0
Appends bytes old new = new ≡ old ++ bytes

-- The bytes were taken after those that were taken before, and they were written, where that is
-- told.
pub record Gains (bytes : List ℕ) (old new : SinkView) : Type 0 where
  pub taken : new.taken ≡ old.taken ++ bytes
  pub written : Changes (Appends bytes) old.written new.written

-- Some prefix of the text was taken.
pub record GainsPrefix (text : List ℕ) (old new : SinkView) : Type 0 where
  pub prefix : List ℕ
  pub rest : List ℕ
  pub parts : text ≡ prefix ++ rest
  pub gains : Gains prefix old new

-- All that a sink promises of a put: it takes a prefix of the piece, of the length that it answers,
-- or nothing where it fails.
pub record PutsPrefix {E : Type 0} (piece : List ℕ) (old new : SinkView) (result : Result ℕ E) :
    Type 0 where
  pub within : IfOk result (λ count. count ≤ length piece)
  pub taken : IfOk result (λ count. Gains (take count piece) old new)
  pub progress : IfOk result (λ count. 0 < length piece → 0 < count)
  pub empty : piece ≡ [] → result ≡ Ok 0
  pub took_nothing : OnErr result (Gains [] old new)
  pub cause : OnErr result (Rose old.faults new.faults)
  pub count : old.faults ≤ new.faults

-- A text was put as a whole, or a prefix of it where the sink failed.
pub record Puts {T E : Type 0} (text : List ℕ) (old new : SinkView) (result : Result T E) :
    Type 0 where
  pub whole : OnOk result (Gains text old new)
  pub prefix : OnErr result (GainsPrefix text old new)
  pub cause : OnErr result (Rose old.faults new.faults)
  pub count : old.faults ≤ new.faults
