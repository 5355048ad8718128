-- What a reader of a header gives, and what `extract` promises of its answer and the key's bytes.
use Rattle.std.specs.Prelude.{◌≡◌, ℕ, List, ◌++◌, length, drop, Option, Some, None, Result, Ok, Err}
use Rattle.table_sizes.specs.Groups.{ip4_key_len, ip6_key_len}
use Rattle.header_extract.specs.declared.class.Class.{Class}
use Rattle.header_extract.specs.declared.class.Class.TheVariants.{Ip4, Ip6, Other, Short}
use Rattle.header_extract.specs.Class.{FrameClass, settled}

-- what a reader of a header gives, where none stands for a frame that is Short
abbrev pub or_short : {A : Type 0} → Option A → Result A Class
or_short None = Err Short
or_short (Some value) = Ok value

-- how many bytes the key of a class has
abbrev pub key_len : Class → ℕ
key_len Ip4 = ip4_key_len
key_len Ip6 = ip6_key_len
key_len Other = 0
key_len Short = 0

-- The answer is the class of the frame. The key has the length of that class. It is written at the
-- front, and all bytes after it stay as they were.
pub record Extracts (frame : Result FrameClass Class) (old new : List ℕ) (answer : Class)
    : Type 0 where
  pub class : answer ≡ (settled frame).class
  pub len : length (settled frame).key ≡ key_len answer
  pub key : new ≡ (settled frame).key ++ drop (length (settled frame).key) old
