-- The files of a desk over memory, as its fields hold them.
use Rattle.std.specs.Prelude.{◌≡◌, ℕ, ◌<◌, ◌≤◌, List, ◌∷◌, length, drop, map, filter, Bool, not, ◌&&◌, ◌||◌, nat_le, Option, Some, None, IsTrue, slice_get, string_bytes, ⊤, if◌then◌else◌}
use Rattle.std.specs.Str.{bytes_eq}
use Rattle.acl_outside.specs.Desk.{File, bytes_of}
use Rattle.acl_outside.specs.declared.mem_desk.MemFile.{MemFile}
use Rattle.acl_outside.specs.declared.mem_desk.InHand.{InHand}
use Rattle.acl_outside.specs.declared.mem_desk.InHand.TheVariants as in_hand

-- the files' names and bytes
abbrev pub files_of : List MemFile → List File
files_of files = map (λ file. record { name = string_bytes file.name; bytes = file.bytes.items })
    files

-- The room for the one file that a desk over memory may create: whether that file is there, its
-- name and its bytes, and how many bytes it may have.
pub record MadeView : Type 0 where
  pub there : Bool
  pub name : List ℕ
  pub bytes : List ℕ
  pub room : ℕ

-- how many bytes the name of a created file may have
abbrev pub max_name : ℕ
max_name = 255

-- the created file is there and has this name
abbrev pub is_made : MadeView → List ℕ → Bool
is_made made name = made.there && bytes_eq made.name name

-- a file of this name can be created: its name isn't too long, and no other file was created before
abbrev pub takes_name : MadeView → List ℕ → Bool
takes_name made name = nat_le (length name) max_name && (not made.there || bytes_eq made.name name)

-- the files but those of this name
abbrev pub without : List ℕ → List File → List File
without name files = filter (λ file. not (bytes_eq file.name name)) files

-- the given files with the created one, which stands in place of a given one of its name
abbrev pub files_with : MadeView → List File → List File
files_with made given =
    if made.there then record { name = made.name; bytes = made.bytes } ∷ without made.name given
    else given

-- What a desk over memory has in hand: no file, a file that is read with what is left of it, or the
-- created file, which is written.
pub data Hand : Type 0 where
  NoFile : Hand
  Opened : (name left : List ℕ) → Hand
  Created : Hand

-- a file that is read, from this byte on
abbrev pub opened_at : Option MemFile → ℕ → Hand
opened_at None at = NoFile
opened_at (Some file) at = Opened (string_bytes file.name) (drop at file.bytes.items)

-- what is in hand, of which so many bytes were read
abbrev pub hand_of : List MemFile → MadeView → InHand → ℕ → Hand
hand_of files made in_hand.Nothing at = NoFile
hand_of files made (in_hand.Given place) at = opened_at (slice_get files place) at
hand_of files made in_hand.Made at = Opened made.name (drop at made.bytes)
hand_of files made in_hand.Writing at = Created

-- no more bytes were read than the file has
abbrev pub IsReadTo : Option MemFile → ℕ → Type 0
IsReadTo None at = ⊥
IsReadTo (Some file) at = at ≤ length file.bytes.items

-- what is in hand is there, and no more bytes of it were read than it has
abbrev pub IsInHand : List MemFile → MadeView → InHand → ℕ → Type 0
IsInHand files made in_hand.Nothing at = ⊤
IsInHand files made (in_hand.Given place) at = (place < length files) ×
    IsReadTo (slice_get files place) at
IsInHand files made in_hand.Made at = at ≤ length made.bytes
IsInHand files made in_hand.Writing at = IsTrue made.there

-- The file of that name was found and can be taken in hand, or there is none.
abbrev pub IsFound : List MemFile → MadeView → List ℕ → Option InHand → Type 0
IsFound files made name None = bytes_of (files_with made (files_of files)) name ≡ None
IsFound files made name (Some found) = (bytes : List ℕ) ×
    (bytes_of (files_with made (files_of files)) name ≡ Some bytes)
    × (hand_of files made found 0 ≡ Opened name bytes) × IsInHand files made found 0

-- The first file of that name stands there, or there is none.
abbrev pub StandsAt : List MemFile → List ℕ → Option ℕ → Type 0
StandsAt files name None = bytes_of (files_of files) name ≡ None
StandsAt files name (Some place) = (file : MemFile) × (slice_get files place ≡ Some file) ×
    (string_bytes file.name ≡ name)
    × (bytes_of (files_of files) name ≡ Some file.bytes.items)
