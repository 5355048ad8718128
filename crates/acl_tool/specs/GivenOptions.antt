-- What the words of options say, to each command that takes them.
use Rattle.std.specs.Prelude.{ℕ, List, [], ◌∷◌, length, take, drop, codes, Bool, false, Option}
use Rattle.std.specs.Prelude.{Some, None, if◌then◌else◌}
use Rattle.std.specs.Option.{option_map_or}
use Rattle.std.specs.Str.{bytes_eq}
use Rattle.text_scan.specs.Digits.{place_value}

-- what stands after the name of an option, in the first word that begins with the name
abbrev pub value_given : List ℕ → List (List ℕ) → Option (List ℕ)
value_given name [] = None
value_given name (word ∷ words) =
    if bytes_eq (take (length name) word) name then Some (drop (length name) word)
    else value_given name words

-- how many categories are shown: as many as `categories=` says, or 1
abbrev pub categories_shown : List (List ℕ) → ℕ
categories_shown options =
    option_map_or (place_value 10) (value_given (codes "categories=") options) 1

-- whether the option of this name is on
abbrev pub is_on : List ℕ → List (List ℕ) → Bool
is_on name options =
    option_map_or (λ value. bytes_eq value (codes "on")) (value_given name options) false
