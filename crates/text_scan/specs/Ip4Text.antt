-- An IPv4 address as the text that is written of it.
use Rattle.std.specs.Prelude.{ℕ, ◌/◌, ◌%◌, List, [], ◌∷◌}
use Rattle.std.specs.Prelude.{map}
use Rattle.std.specs.Fmt.{decimal}
use Rattle.std.specs.List.{join_with_byte}
use Rattle.text_scan.specs.Parts.{dot}

-- the four bytes of an address, the most significant first
abbrev pub ip4_bytes : ℕ → List ℕ
ip4_bytes value =
    value / 0x100_0000 % 256 ∷ value / 0x1_0000 % 256 ∷ value / 0x100 % 256 ∷ value % 256 ∷ []

-- the text of an address, its bytes in decimal without leading zeros
abbrev pub ip4_spelling : ℕ → List ℕ
ip4_spelling value = join_with_byte dot (map decimal (ip4_bytes value))
