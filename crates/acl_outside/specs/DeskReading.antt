-- What reading the opened file on changes of a desk.
use Rattle.std.specs.Prelude.{◌≡◌, ℕ, ◌<◌, ◌≤◌, ◌⊎◌, List, length, take, drop, Result, Err, IfOk, IfErr}
use Rattle.std.specs.declared.vec.Vec.{Vec}
use Rattle.std.specs.declared.alloc.Global.{Global}
use Rattle.acl_outside.specs.Fault.{Rose}
use Rattle.acl_outside.specs.Told.{Changes}
use Rattle.acl_outside.specs.Desk.{Content, DeskView, Gives, KeepsCounts}
use Rattle.acl_outside.specs.Heard.{Heard, BrokenOff, Ended, heard, change_newest, with_bytes, with_ending}
use Rattle.acl_outside.specs.Made.{KeepsMade}
use Rattle.acl_outside.specs.declared.reading.ReadAll.{ReadAll}
use Rattle.acl_outside.specs.declared.reading.ReadAll.TheVariants.{ReadFault, OutOfMemory}

-- These bytes are the first of what was left, as many as the cap allows, and what was left has lost
-- exactly them.
pub record GivesUpTo (cap : ℕ) (bytes : List ℕ) (old new : Content) : Type 0 where
  pub files : new.files ≡ old.files
  pub opened : new.opened ≡ old.opened
  pub given : bytes ≡ take cap old.left
  pub left : new.left ≡ drop cap old.left
  pub created : new.created ≡ old.created

-- The opened file gave these bytes, and then its reading stands as the change says. Nothing else
-- was asked.
pub record ReadsOn (change : Heard → Heard) (bytes : List ℕ) (old new : DeskView) : Type 0 where
  pub heard : heard new.answers ≡ change_newest (λ file. change (with_bytes bytes file))
      (heard old.answers)
  pub told : Changes (Gives bytes) old.content new.content

-- nothing more is known of how the reading stands
abbrev pub and_goes_on : Heard → Heard
and_goes_on file = file

-- The end of the file was met before the cap, or as many bytes were read as the cap allows.
abbrev pub ReadsToEndOrCap : ℕ → List ℕ → DeskView → DeskView → Type 0
ReadsToEndOrCap cap bytes old new =
    (ReadsOn (with_ending Ended) bytes old new × (length bytes < cap)) ⊎
    (ReadsOn and_goes_on bytes old new × (length bytes ≡ cap))

-- how the reading stands after a fault: want of memory says nothing of the file
abbrev pub after_fault : ReadAll → Heard → Heard
after_fault ReadFault file = with_ending BrokenOff file
after_fault OutOfMemory file = file

-- All that reading the opened file up to a cap promises.
pub record ReadsUpTo (cap : ℕ) (old new : DeskView) (result : Result (Vec ℕ Global) ReadAll) :
    Type 0 where
  pub within : IfOk result (λ bytes. length bytes.items ≤ cap)
  pub bytes : IfOk result (λ bytes. Changes (GivesUpTo cap bytes.items) old.content new.content)
  pub heard : IfOk result (λ bytes. ReadsToEndOrCap cap bytes.items old new)
  pub lost : IfErr result (λ fault. (bytes : List ℕ) × ReadsOn (after_fault fault) bytes old new)
  pub reading : new.reading ≡ old.reading
  pub writing : new.writing ≡ old.writing
  pub read_fault : result ≡ Err ReadFault → Rose old.read_faults new.read_faults
  pub absent : new.absent ≡ old.absent
  pub made : KeepsMade old new
  pub counts : KeepsCounts old new
