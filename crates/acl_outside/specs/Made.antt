-- What a desk made of the files that it created, read off its answers.
use Rattle.std.specs.Prelude.{◌≡◌, ℕ, List, [], ◌∷◌, ◌++◌, Bool, true, false, Option, Some, None}
use Rattle.acl_outside.specs.Desk.{Answer, Creating, Writing, Finishing, DeskView}
use Rattle.acl_outside.specs.Heard.{change_newest}

-- How a created file stands: it couldn't be created, more may be written, it is finished, or a
-- write or its finish failed.
pub data Standing : Type 0 where
  NotCreated : Standing
  Unfinished : Standing
  Finished : Standing
  Broken : Standing

-- a creation of a file: its name, the bytes that were written since, and how it stands
pub record Made : Type 0 where
  pub name : List ℕ
  pub bytes : List ℕ
  pub standing : Standing

-- the same creation with these bytes more
abbrev pub with_written : List ℕ → Made → Made
with_written [] file = file
with_written (b ∷ bs) file = record {
  name = file.name;
  bytes = file.bytes ++ b ∷ bs;
  standing = Unfinished;
}

-- the same creation, standing so
abbrev pub with_standing : Standing → Made → Made
with_standing standing file = record { name = file.name; bytes = file.bytes; standing = standing }

-- nothing more is known of how the file stands
abbrev pub and_stands : Made → Made
and_stands file = file

-- the creation after a write
abbrev pub after_write : Option (List ℕ) → Made → Made
after_write None = with_standing Broken
after_write (Some bytes) = with_written bytes

-- the creation after a finish
abbrev pub after_finish : Bool → Made → Made
after_finish true = with_standing Finished
after_finish false = with_standing Broken

-- a creation begins with no bytes
abbrev pub creation_of : List ℕ → Bool → Made
creation_of name true = record { name = name; bytes = []; standing = Unfinished }
creation_of name false = record { name = name; bytes = []; standing = NotCreated }

-- what was made with one answer more, which says nothing where it is an opening or a read
abbrev pub make : Answer → List Made → List Made
make (Creating name succeeded) files = creation_of name succeeded ∷ files
make (Writing taken) files = change_newest (after_write taken) files
make (Finishing succeeded) files = change_newest (after_finish succeeded) files
make answer files = files

-- what was made at each creation, newest first, from the answers, newest first
abbrev pub made : List Answer → List Made
made [] = []
made (answer ∷ earlier) = make answer (made earlier)

-- Nothing was asked of any file to make.
pub record KeepsMade (old new : DeskView) : Type 0 where
  pub made : made new.answers ≡ made old.answers
  pub write_faults : new.write_faults ≡ old.write_faults
