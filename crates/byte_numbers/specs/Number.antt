-- Numbers that are spelled by bytes. Network order is that of RFC 791, appendix B: the most
-- significant byte stands first. The mirror order is that of a capture written on a little-endian
-- machine (libpcap savefile format 2.4).
use Rattle.std.specs.Prelude.{ℕ, ◌+◌, ◌*◌, List, fold, take, drop, reverse}

-- the number that bytes spell in network order
abbrev pub number_of : List ℕ → ℕ
number_of bytes = fold (λ n b. n * 256 + b) 0 bytes

-- the number in network order of the `size` bytes from place `at` on
abbrev pub number_at : List ℕ → ℕ → ℕ → ℕ
number_at bytes at size = number_of (take size (drop at bytes))

-- the number that bytes spell in the mirror order, the least significant byte first
abbrev pub mirrored_number_of : List ℕ → ℕ
mirrored_number_of bytes = number_of (reverse bytes)

-- the number in the mirror order of the `size` bytes from place `at` on
abbrev pub mirrored_number_at : List ℕ → ℕ → ℕ → ℕ
mirrored_number_at bytes at size = mirrored_number_of (take size (drop at bytes))
