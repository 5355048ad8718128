-- Digits in text. A digit of a base up to 16 is `0` to `9`, or `a` to `f` of either case for 10 to
-- 15, and below the base: `is_digit` and `digit_value` of std say so for each byte.
use Rattle.std.specs.Prelude.{ℕ, ◌+◌, ◌*◌, ◌^◌, Bool, ◌&&◌, nat_le, List, [], ◌∷◌, length}
use Rattle.std.specs.Char.{is_digit, digit_value}
use Rattle.std.specs.List.{list_all, take_while}

-- what digits spell: each counts as often as the power of the base that its place stands for, and
-- no bound is kept to
abbrev pub place_value : ℕ → List ℕ → ℕ
place_value base [] = 0
place_value base (c ∷ cs) = digit_value c * base ^ length cs + place_value base cs

-- digits of the base and nothing else
abbrev pub are_digits : ℕ → List ℕ → Bool
are_digits base text = list_all (λ c. is_digit c base) text

-- digits of the base and nothing else, at least one and at most `most`
abbrev pub is_group : ℕ → ℕ → List ℕ → Bool
is_group base most text =
    nat_le 1 (length text) && nat_le (length text) most && are_digits base text

-- the longest run of digits of the base that the text begins with
abbrev pub run_of : ℕ → List ℕ → List ℕ
run_of base text = take_while (λ c. is_digit c base) text
