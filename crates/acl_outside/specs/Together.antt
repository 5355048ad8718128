-- Desks that tell their files: what was heard of the opened file, and what is left to read of it,
-- are together the file.
use Rattle.std.specs.Prelude.{◌≡◌, List, [], ◌∷◌, ◌++◌, false, Some, None, IsTrue}
use Rattle.acl_outside.specs.Desk.{Content, DeskView, bytes_of}
use Rattle.acl_outside.specs.Heard.{Heard, heard}

-- The newest file that was heard of is the opened one, and what was given of it, before what is
-- left, is the whole file.
pub record IsWhole (content : Content) (file : Heard) : Type 0 where
  pub opened : content.opened ≡ Some file.name
  pub bytes : bytes_of content.files file.name ≡ Some (file.bytes ++ content.left)

-- of what was heard the newest is whole
abbrev pub NewestIsWhole : Content → List Heard → Type 0
NewestIsWhole content [] = ⊥
NewestIsWhole content (file ∷ earlier) = IsWhole content file

-- What a desk tells, where it tells it: the opened file is whole, no file is opened where none is
-- read, and none is read while one is written.
pub record HoldsTogether (desk : DeskView) : Type 0 where
  pub whole : (content : Content) → desk.content ≡ Some content → IsTrue desk.reading →
      NewestIsWhole content (heard desk.answers)
  pub none : (content : Content) → desk.content ≡ Some content → desk.reading ≡ false →
      content.opened ≡ None
  pub apart : IsTrue desk.reading → desk.writing ≡ false
