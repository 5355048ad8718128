-- Options that a function was given, or that it made.
use Rattle.std.proofs.Common.{ℕ, ◌<◌, arith, ap, ◌≡◌, Some, None, Option, refl}
use Rattle.std.specs.Prelude.{unwrap_or}
use Rattle.std.specs.Option.{option_map, option_or}

-- a function makes None of None alone
pub no_number : {A B : Type 0} (f : A → B) (found : Option A) → option_map f found ≡ None → found ≡ None
no_number f None is = refl
no_number f (Some x) is = absurd (cc)

-- what an option is made of, where a function makes it
pub from_option_map : {A B : Type 0} (f : A → B) (found : Option A) (made : B) → option_map f found ≡ Some made →
    (x : A) × (found ≡ Some x) × (f x ≡ made)
from_option_map f None made is = absurd cc
from_option_map f (Some x) made is = (x, refl, cc)

-- what was read with a default, and isn't that default, was there
pub some_below : (read : Option ℕ) (default n : ℕ) → unwrap_or read default ≡ n → n < default → read ≡ Some n
some_below None default n is small = absurd (omega arith)
some_below (Some m) default n is small = ap Some is

-- where two answers together are none, both are
pub both_none : {A : Type 0} (one other : Option A) → option_or one other ≡ None → (one ≡ None) × (other ≡ None)
both_none None other none = (refl, none)
both_none (Some x) other none = absurd cc
