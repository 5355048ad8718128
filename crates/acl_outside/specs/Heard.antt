-- What a desk gave of its files, read off its answers.
use Rattle.std.specs.Prelude.{◌≡◌, ℕ, ◌==◌, List, [], ◌∷◌, ◌++◌, Bool, true, false, Option, Some, None, if◌then◌else◌}
use Rattle.acl_outside.specs.View.{Answer, Opening, Reading, DeskView}

-- How the reading of a file stands: it couldn't be opened, more of it may come, its end was met, or
-- a read failed.
pub data Ending : Type 0 where
  NotOpened : Ending
  GoesOn : Ending
  Ended : Ending
  BrokenOff : Ending

-- an opening of a file: its name, the bytes that were given since, and how its reading stands
pub record Heard : Type 0 where
  pub name : List ℕ
  pub bytes : List ℕ
  pub ending : Ending

-- the same opening with these bytes more
abbrev pub with_bytes : List ℕ → Heard → Heard
with_bytes [] file = file
with_bytes (b ∷ bs) file = record {
  name = file.name;
  bytes = file.bytes ++ b ∷ bs;
  ending = GoesOn;
}

-- the same opening with this ending
abbrev pub with_ending : Ending → Heard → Heard
with_ending ending file = record { name = file.name; bytes = file.bytes; ending = ending }

-- the opening after a read: no bytes where there was room for some are the end of the file
abbrev pub after_read : ℕ → Option (List ℕ) → Heard → Heard
after_read room None file = with_ending BrokenOff file
after_read room (Some []) file = if room == 0 then file else with_ending Ended file
after_read room (Some (b ∷ bs)) file = with_bytes (b ∷ bs) file

-- the newest of some is changed
abbrev pub change_newest : {A : Type 0} → (A → A) → List A → List A
change_newest change [] = []
change_newest change (newest ∷ earlier) = change newest ∷ earlier

-- an opening begins with no bytes
abbrev pub opening_of : List ℕ → Bool → Heard
opening_of name true = record { name = name; bytes = []; ending = GoesOn }
opening_of name false = record { name = name; bytes = []; ending = NotOpened }

-- what was heard with one answer more, which says something only where it is an opening or a read
abbrev pub hear : Answer → List Heard → List Heard
hear (Opening name succeeded) files = opening_of name succeeded ∷ files
hear (Reading room given) files = change_newest (after_read room given) files
hear answer files = files

-- what was heard of each opening, newest first, from the answers, newest first
abbrev pub heard : List Answer → List Heard
heard [] = []
heard (answer ∷ earlier) = hear answer (heard earlier)

-- Nothing was asked of any file to read.
pub record KeepsHeard (old new : DeskView) : Type 0 where
  pub heard : heard new.answers ≡ heard old.answers
  pub read_faults : new.read_faults ≡ old.read_faults
  pub absent : new.absent ≡ old.absent
