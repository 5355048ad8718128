-- The class of a frame and the key of the packet in it, and how layers follow one another.
use Rattle.std.specs.Prelude.{ℕ, List, [], length, nat_le, Result, Ok, Err, if◌then◌else◌}
use Rattle.header_extract.specs.declared.class.Class.{Class}
use Rattle.header_extract.specs.declared.class.Class.TheVariants.{Short}

-- the class of a frame, and the bytes of its key
pub record FrameClass : Type 0 where
  pub class : Class
  pub key : List ℕ

infixl 10 ◌>>=◌
-- what a layer gives goes into the layer after it; a layer that ends the work with a class has no
-- layer after it
abbrev pub ◌>>=◌ : {A B : Type 0} → Result A Class → (A → Result B Class) → Result B Class
Ok value >>= f = f value
Err class >>= f = Err class

-- the bytes, where there are at least so many; with fewer of them the frame is Short
abbrev pub at_least : ℕ → List ℕ → Result (List ℕ) Class
at_least n bytes = if nat_le n (length bytes) then Ok bytes else Err Short

-- what the layers come to: a frame without a packet has no key
abbrev pub settled : Result FrameClass Class → FrameClass
settled (Ok frame) = frame
settled (Err class) = record { class = class; key = [] }
