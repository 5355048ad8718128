-- The dotted form of the addresses of RFC 791: four numbers of one to three decimal digits, each at
-- most 255, separated by dots (RFC 1123, section 2.1, names the form; RFC 3986, section 3.2.2, has
-- it as IPv4address, without leading zeros). Here leading zeros are accepted within the three
-- digits, and the group stays decimal.
use Rattle.std.specs.Prelude.{ℕ, ◌==◌, Bool, ◌&&◌, nat_le, if◌then◌else◌, List}
use Rattle.std.specs.Prelude.{map, length, Option, Some, None}
use Rattle.std.specs.Fmt.{decimal}
use Rattle.std.specs.List.{list_all}
use Rattle.byte_numbers.specs.Number.{number_of}
use Rattle.text_scan.specs.Digits.{place_value, is_group}
use Rattle.text_scan.specs.Parts.{dot, parts_of}

-- one to three decimal digits, at most 255
abbrev pub is_ip4_group : List ℕ → Bool
is_ip4_group text = is_group 10 3 text && nat_le (place_value 10 text) 255

-- the whole text is an address: four groups separated by `.`
abbrev pub is_ip4 : List ℕ → Bool
is_ip4 text = length (parts_of dot text) == 4 && list_all is_ip4_group (parts_of dot text)

-- the address: its groups are bytes, the most significant first
abbrev pub ip4_value : List ℕ → ℕ
ip4_value text = number_of (map (place_value 10) (parts_of dot text))

-- the address that the whole text spells
abbrev pub ip4_of : List ℕ → Option ℕ
ip4_of text = if is_ip4 text then Some (ip4_value text) else None

-- the address that groups spell, where each is one
abbrev pub address_of : List (List ℕ) → Option ℕ
address_of groups =
    if list_all is_ip4_group groups then Some (number_of (map (place_value 10) groups)) else None
