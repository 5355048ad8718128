-- What a message shows of a text that others wrote: no byte of it does anything to a terminal.
use Rattle.std.specs.Prelude.{◌≡◌, ℕ, ◌-◌, ◌==◌, ◌&&◌, List, [], ◌∷◌, ◌++◌, length, map, take, nat_le, nat_lt}
use Rattle.std.specs.Prelude.{if◌then◌else◌, codes, replicate, slice_get, Option, Some, None, refl}
use Rattle.text_scan.specs.Parts.{lines_of}

-- a byte of ASCII that is printed stays, and every other one becomes `?`
abbrev pub shown_byte : ℕ → ℕ
shown_byte c = if nat_le 32 c && nat_lt c 127 then c else 63

-- how many bytes of a text are shown
abbrev pub max_shown : ℕ
max_shown = 100

-- a longer text ends with two dots
abbrev pub shown : List ℕ → List ℕ
shown text =
    if nat_lt max_shown (length text) then map shown_byte (take max_shown text) ++ codes ".."
    else map shown_byte text

-- the line of a number, from 1
abbrev pub line_at : List ℕ → ℕ → Option (List ℕ)
line_at bytes number = if number == 0 then None else slice_get (lines_of bytes) (number - 1)

-- ---- examples

-- a tab, an escape of a terminal, and a letter of two bytes
of_bytes : shown (codes "-s\t" ++ 27 ∷ codes "[2J ~" ++ 195 ∷ 188 ∷ 127 ∷ [])
    ≡ codes "-s??[2J ~???"
of_bytes = refl

-- all of 100 bytes are shown
of_many : shown (replicate 100 97) ≡ replicate 100 97
of_many = refl

-- and of 101 the first 100, and two dots
of_more : shown (replicate 101 97) ≡ replicate 100 97 ++ codes ".."
of_more = refl

-- lines are counted from 1
of_lines : line_at (codes "a\r\nb\n") 1 ≡ Some (codes "a")
of_lines = refl

-- without what ends them
of_second : line_at (codes "a\r\nb\n") 2 ≡ Some (codes "b")
of_second = refl

-- after the LF of the last line there is none
of_third : line_at (codes "a\r\nb\n") 3 ≡ None
of_third = refl

-- and none has the number 0
of_none : line_at (codes "a\r\nb\n") 0 ≡ None
of_none = refl
