-- An IPv6 address as the text that is written of it.
use Rattle.std.specs.Prelude.{ℕ, ◌-◌, ◌/◌, ◌%◌, ◌^◌}
use Rattle.std.specs.Prelude.{false, List, [], ◌∷◌, map}
use Rattle.std.specs.Fmt.{digits}
use Rattle.std.specs.List.{join_with_byte}
use Rattle.text_scan.specs.Parts.{colon}

-- the eight pieces of an address, the most significant first
abbrev pub ip6_pieces : ℕ → List ℕ
ip6_pieces value = map (λ place. value / 65536 ^ place % 65536) (7 ∷ 6 ∷ 5 ∷ 4 ∷ 3 ∷ 2 ∷ 1 ∷ 0 ∷ [])

-- the text of an address: its eight pieces in lower-case hexadecimal without leading zeros, and
-- without `::`
abbrev pub ip6_spelling : ℕ → List ℕ
ip6_spelling value = join_with_byte colon (map (digits 16 false) (ip6_pieces value))
