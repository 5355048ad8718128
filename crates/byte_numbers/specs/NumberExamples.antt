-- Examples of the numbers that bytes spell, each checked by evaluation.
use Rattle.std.specs.Prelude.{◌≡◌, [], ◌∷◌, refl}
use Rattle.byte_numbers.specs.Number.{number_of, number_at, mirrored_number_of, mirrored_number_at}

no_bytes : number_of [] ≡ 0
no_bytes = refl

one_byte : number_of (255 ∷ []) ≡ 255
one_byte = refl

-- 192.168.1.5, as an address stands in a header
an_address : number_of (192 ∷ 168 ∷ 1 ∷ 5 ∷ []) ≡ 0xC0A80105
an_address = refl

-- port 80 after port 1234
the_second_port : number_at (4 ∷ 210 ∷ 0 ∷ 80 ∷ []) 2 2 ≡ 80
the_second_port = refl

-- past the end there are no bytes
past_the_end : number_at (1 ∷ 2 ∷ []) 1 4 ≡ 2
past_the_end = refl

-- the greatest number of eight bytes
eight_bytes : number_of (255 ∷ 255 ∷ 255 ∷ 255 ∷ 255 ∷ 255 ∷ 255 ∷ 255 ∷ []) ≡ 0xFFFF_FFFF_FFFF_FFFF
eight_bytes = refl

-- a captured length of 38 on a little-endian machine
a_captured_length : mirrored_number_of (38 ∷ 0 ∷ 0 ∷ 0 ∷ []) ≡ 38
a_captured_length = refl

-- the magic of a capture as its first four bytes spell it
a_magic : mirrored_number_at (0xD4 ∷ 0xC3 ∷ 0xB2 ∷ 0xA1 ∷ 2 ∷ 0 ∷ []) 0 4 ≡ 0xA1B2C3D4
a_magic = refl
