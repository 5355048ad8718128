-- What each call of a desk changes of what the desk shows.
use Rattle.std.specs.Prelude.{◌≡◌, ◌≢◌, ℕ, ◌<◌, ◌≤◌, ◌⊎◌, List, [], ◌∷◌, ◌++◌, length, take, Bool, false, Option, Some, None, Result, Ok, Err, is_ok, IsSome, IfOk, OnOk, OnErr, if◌then◌else◌}
use Rattle.std.specs.Str.{bytes_eq}
pub use Rattle.acl_outside.specs.View.{File, Content, DeskView}
pub use Rattle.acl_outside.specs.View.{Answer, Opening, Reading, Creating, Writing, Finishing}
use Rattle.acl_outside.specs.Fault.{Rose}
use Rattle.acl_outside.specs.Told.{Changes}

-- the last call that wasn't a read or a write was a finish that succeeded
abbrev pub is_finished : List Answer → Bool
is_finished [] = false
is_finished (Opening name succeeded ∷ earlier) = false
is_finished (Reading room given ∷ earlier) = is_finished earlier
is_finished (Creating name succeeded ∷ earlier) = false
is_finished (Writing taken ∷ earlier) = is_finished earlier
is_finished (Finishing succeeded ∷ earlier) = succeeded

-- the created file is finished, and no file was opened or created since
abbrev pub finished : DeskView → Bool
finished desk = is_finished desk.answers

-- the bytes of the named file, or none where no such file is there
abbrev pub bytes_of : List File → List ℕ → Option (List ℕ)
bytes_of [] name = None
bytes_of (file ∷ files) name = if bytes_eq file.name name then Some file.bytes else bytes_of files
    name

-- The named file has these bytes now, and every other file is as it was.
pub record Holds (name bytes : List ℕ) (old new : List File) : Type 0 where
  pub named : bytes_of new name ≡ Some bytes
  pub others : (other : List ℕ) → other ≢ name → bytes_of new other ≡ bytes_of old other

-- The named file is opened, at its beginning.
pub record Opens (name : List ℕ) (old new : Content) : Type 0 where
  pub files : new.files ≡ old.files
  pub opened : new.opened ≡ Some name
  pub left : bytes_of old.files name ≡ Some new.left
  pub created : new.created ≡ None

-- No file is opened or created any more.
pub record GivesUp (old new : Content) : Type 0 where
  pub files : new.files ≡ old.files
  pub opened : new.opened ≡ None
  pub left : new.left ≡ []
  pub created : new.created ≡ None

-- These bytes were read: they are the first of what was left.
pub record Gives (bytes : List ℕ) (old new : Content) : Type 0 where
  pub files : new.files ≡ old.files
  pub opened : new.opened ≡ old.opened
  pub left : old.left ≡ bytes ++ new.left
  pub created : new.created ≡ old.created

-- The named file is created: it is empty, whether or not it was there.
pub record Creates (name : List ℕ) (old new : Content) : Type 0 where
  pub files : Holds name [] old.files new.files
  pub opened : new.opened ≡ None
  pub left : new.left ≡ []
  pub created : new.created ≡ Some name

-- These bytes were written at the end of the created file. All other files stay, also where the
-- created one isn't among them.
pub record Writes (bytes : List ℕ) (old new : Content) : Type 0 where
  pub files : (name had : List ℕ) → old.created ≡ Some name → bytes_of old.files name ≡ Some had →
      Holds name (had ++ bytes) old.files new.files
  pub others : (other : List ℕ) → old.created ≢ Some other →
      bytes_of new.files other ≡ bytes_of old.files other
  pub opened : new.opened ≡ old.opened
  pub left : new.left ≡ old.left
  pub created : new.created ≡ old.created

-- Counts of faults never fall.
pub record KeepsCounts (old new : DeskView) : Type 0 where
  pub read_faults : old.read_faults ≤ new.read_faults
  pub absent : old.absent ≤ new.absent
  pub write_faults : old.write_faults ≤ new.write_faults

-- All that a desk promises of an opening.
pub record OpensFile {T E : Type 0} (name : List ℕ) (old new : DeskView) (result : Result T E) :
    Type 0 where
  pub opened : OnOk result (Changes (Opens name) old.content new.content)
  pub given_up : OnErr result (Changes GivesUp old.content new.content)
  pub reading : new.reading ≡ is_ok result
  pub writing : new.writing ≡ false
  pub answer : new.answers ≡ Opening name (is_ok result) ∷ old.answers
  pub cause : OnErr result (Rose old.read_faults new.read_faults ⊎ Rose old.absent new.absent)
  -- a file that is there is never told to be absent
  pub there : (content : Content) → old.content ≡ Some content →
      IsSome (bytes_of content.files name) →
      (new.absent ≡ old.absent) × OnErr result (Rose old.read_faults new.read_faults)
  pub write_faults : new.write_faults ≡ old.write_faults
  pub counts : KeepsCounts old new

-- the bytes of a slice that a read or a write moved, or none where it failed
abbrev pub moved_by : {E : Type 0} → Result ℕ E → List ℕ → Option (List ℕ)
moved_by (Ok count) slice = Some (take count slice)
moved_by (Err fault) slice = None

-- All that a desk promises of a read into a slice.
pub record ReadsInto {E : Type 0} (into_old into_new : List ℕ) (old new : DeskView)
    (result : Result ℕ E) : Type 0 where
  pub within : IfOk result (λ count. count ≤ length into_old)
  pub given : IfOk result (λ count. Changes (Gives (take count into_new)) old.content new.content)
  pub end : result ≡ Ok 0 → (into_old ≡ []) ⊎ ((content : Content) → old.content ≡ Some content →
      content.left ≡ [])
  pub empty : into_old ≡ [] → result ≡ Ok 0
  pub lost_nothing : OnErr result (new.content ≡ old.content)
  pub reading : new.reading ≡ old.reading
  pub writing : new.writing ≡ old.writing
  pub answer : new.answers ≡ Reading (length into_old) (moved_by result into_new) ∷ old.answers
  pub cause : OnErr result (Rose old.read_faults new.read_faults)
  pub absent : new.absent ≡ old.absent
  pub write_faults : new.write_faults ≡ old.write_faults
  pub counts : KeepsCounts old new

-- All that a desk promises of a creation.
pub record CreatesFile {T E : Type 0} (name : List ℕ) (old new : DeskView) (result : Result T E) :
    Type 0 where
  pub created : OnOk result (Changes (Creates name) old.content new.content)
  pub given_up : OnErr result (Changes GivesUp old.content new.content)
  pub reading : new.reading ≡ false
  pub writing : new.writing ≡ is_ok result
  pub answer : new.answers ≡ Creating name (is_ok result) ∷ old.answers
  pub cause : OnErr result (Rose old.write_faults new.write_faults)
  pub read_faults : new.read_faults ≡ old.read_faults
  pub absent : new.absent ≡ old.absent
  pub counts : KeepsCounts old new

-- All that a desk promises of a write: it takes a prefix of the piece, of the length that it
-- answers, or nothing where it fails.
pub record WritesPiece {E : Type 0} (piece : List ℕ) (old new : DeskView) (result : Result ℕ E) :
    Type 0 where
  pub within : IfOk result (λ count. count ≤ length piece)
  pub taken : IfOk result (λ count. Changes (Writes (take count piece)) old.content new.content)
  pub progress : IfOk result (λ count. 0 < length piece → 0 < count)
  pub empty : piece ≡ [] → result ≡ Ok 0
  pub took_nothing : OnErr result (new.content ≡ old.content)
  pub reading : new.reading ≡ old.reading
  pub writing : new.writing ≡ old.writing
  pub answer : new.answers ≡ Writing (moved_by result piece) ∷ old.answers
  pub cause : OnErr result (Rose old.write_faults new.write_faults)
  pub read_faults : new.read_faults ≡ old.read_faults
  pub absent : new.absent ≡ old.absent
  pub counts : KeepsCounts old new

-- All that a desk promises of a finish: the writing ends, also where it fails.
pub record FinishesFile {T E : Type 0} (old new : DeskView) (result : Result T E) : Type 0 where
  pub ended : Changes GivesUp old.content new.content
  pub reading : new.reading ≡ false
  pub writing : new.writing ≡ false
  pub answer : new.answers ≡ Finishing (is_ok result) ∷ old.answers
  pub cause : OnErr result (Rose old.write_faults new.write_faults)
  pub read_faults : new.read_faults ≡ old.read_faults
  pub absent : new.absent ≡ old.absent
  pub counts : KeepsCounts old new
