-- What words name: a meaning among names that have one each, or a number in a table of words such
-- as `udp=17`.
use Rattle.std.specs.Prelude.{ℕ, if◌then◌else◌, List, [], ◌∷◌, Option, Some, None}
use Rattle.std.specs.Str.{bytes_eq}
use Rattle.text_scan.specs.Parts.{cut_at}
use Rattle.list_packets.specs.Values.{first_of, plain_number}

-- the meaning at the place of the first name that the word is
abbrev pub named : {A : Type 0} → List ℕ → List (List ℕ) → List A → Option A
named word names [] = None
named word [] (meaning ∷ meanings) = None
named word (name ∷ names) (meaning ∷ meanings) =
    if bytes_eq name word then Some meaning else named word names meanings

-- the number after the `=` around which a word is cut, if the name stands before it
abbrev pub number_of_cut : List ℕ → Option (List ℕ × List ℕ) → Option ℕ
number_of_cut name None = None
number_of_cut name (Some cut) = if bytes_eq cut.0 name then plain_number 255 cut.1 else None

-- the number of a word, if it is that of the name; 61 is `=`
abbrev pub number_said : List ℕ → List ℕ → Option ℕ
number_said name word = number_of_cut name (cut_at 61 word)

-- the number that the first word has that is one of the name
abbrev pub number_in : List ℕ → List (List ℕ) → Option ℕ
number_in name [] = None
number_in name (word ∷ words) = first_of (number_said name word) (number_in name words)
