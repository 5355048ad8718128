-- What filling a slice from the opened file changes of a desk.
use Rattle.std.specs.Prelude.{◌≡◌, ℕ, ◌<◌, ◌≤◌, List, [], length, take, nat_lt, Some, Result, IfOk, OnErr, if◌then◌else◌}
use Rattle.acl_outside.specs.Fault.{Rose}
use Rattle.acl_outside.specs.Desk.{Content, DeskView, KeepsCounts}
use Rattle.acl_outside.specs.Heard.{Heard, BrokenOff, Ended, with_ending}
use Rattle.acl_outside.specs.Made.{KeepsMade}
use Rattle.acl_outside.specs.DeskReading.{ReadsOn, and_goes_on}

-- A file stays opened, none is looked for or made, and no count of faults falls.
pub record KeepsReading (old new : DeskView) : Type 0 where
  pub reading : new.reading ≡ old.reading
  pub writing : new.writing ≡ old.writing
  pub absent : new.absent ≡ old.absent
  pub made : KeepsMade old new
  pub counts : KeepsCounts old new

-- how the reading of the file stands where a slice with this room got so many bytes: the end was
-- met, or more may come
abbrev pub after_fill : ℕ → ℕ → Heard → Heard
after_fill room count = if nat_lt count room then with_ending Ended else and_goes_on

-- Nothing is left of a file that is told.
abbrev pub IsAtEnd : DeskView → Type 0
IsAtEnd view = (content : Content) → view.content ≡ Some content → content.left ≡ []

-- The reading broke off before there were so many bytes.
pub record BreaksOff (room : ℕ) (old new : DeskView) : Type 0 where
  pub bytes : List ℕ
  pub few : length bytes < room
  pub reads : ReadsOn (with_ending BrokenOff) bytes old new

-- All that filling a slice promises: it is full, or the end of the file was met, or the desk
-- failed.
pub record Fills {E : Type 0} (into_old into_new : List ℕ) (old new : DeskView)
    (result : Result ℕ E) : Type 0 where
  pub within : IfOk result (λ count. count ≤ length into_old)
  pub reads : IfOk result (λ count. ReadsOn (after_fill (length into_old) count)
      (take count into_new) old new)
  pub end : IfOk result (λ count. count < length into_old → IsAtEnd new)
  pub breaks_off : OnErr result (BreaksOff (length into_old) old new)
  pub cause : OnErr result (Rose old.read_faults new.read_faults)
  pub keeps : KeepsReading old new

-- All that it promises where so many bytes were read since a desk was as `before`.
abbrev pub FillsOn : {E : Type 0} → ℕ → List ℕ → List ℕ → DeskView → DeskView → Result ℕ E → Type 0
FillsOn so_far into_old into_new old new result =
    (before : DeskView) → ReadsOn and_goes_on (take so_far into_old) before old →
    KeepsReading before old → Fills into_old into_new before new result
