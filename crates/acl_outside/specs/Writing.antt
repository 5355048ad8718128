-- What writing to the created file changes of a desk.
use Rattle.std.specs.Prelude.{◌≡◌, ℕ, List, ◌++◌, Result, OnOk, OnErr}
use Rattle.acl_outside.specs.Fault.{Rose}
use Rattle.acl_outside.specs.Told.{Changes}
use Rattle.acl_outside.specs.Desk.{DeskView, Writes, KeepsCounts}
use Rattle.acl_outside.specs.Heard.{KeepsHeard, change_newest}
use Rattle.acl_outside.specs.Made.{Made, Broken, made, and_stands, with_written, with_standing}

-- The created file took these bytes, and then stands as the change says. Nothing else was asked.
pub record WritesOn (change : Made → Made) (bytes : List ℕ) (old new : DeskView) : Type 0 where
  pub made : made new.answers ≡ change_newest (λ file. change (with_written bytes file))
      (made old.answers)
  pub told : Changes (Writes bytes) old.content new.content

-- Some prefix of the piece was taken before a write failed.
pub record WritesPrefix (piece : List ℕ) (old new : DeskView) : Type 0 where
  pub prefix : List ℕ
  pub rest : List ℕ
  pub parts : piece ≡ prefix ++ rest
  pub writes : WritesOn (with_standing Broken) prefix old new

-- A piece was written as a whole, or a prefix of it where the desk failed.
pub record WritesAll {T E : Type 0} (piece : List ℕ) (old new : DeskView) (result : Result T E) :
    Type 0 where
  pub whole : OnOk result (WritesOn and_stands piece old new)
  pub prefix : OnErr result (WritesPrefix piece old new)
  pub reading : new.reading ≡ old.reading
  pub writing : new.writing ≡ old.writing
  pub cause : OnErr result (Rose old.write_faults new.write_faults)
  pub heard : KeepsHeard old new
  pub counts : KeepsCounts old new
