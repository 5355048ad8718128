-- Addresses with a prefix length, as the source and the destination of a filter are written (the
-- notation of RFC 4632, section 3.1, and of RFC 4291, section 2.3).
use Rattle.std.specs.Prelude.{ℕ, ◌<◌, ◌≤◌, ◌^◌, ◌==◌, if◌then◌else◌, List, Option, Some, None}
use Rattle.std.specs.Prelude.{Result, Ok, Err}
use Rattle.std.specs.List.{list_any}
use Rattle.std.specs.Option.{option_map, ok_or}
use Rattle.field_defs.specs.declared.field.Family.{Family}
use Rattle.field_defs.specs.declared.field.Family.TheVariants as family
use Rattle.text_scan.specs.Parts.{colon, slash, cut_at}
use Rattle.text_scan.specs.Numeral.{whole_number}
use Rattle.text_scan.specs.Ip4.{ip4_of}
use Rattle.text_scan.specs.Ip6.{ip6_of}
use Rattle.classbench_reader.specs.declared.network.Address.{Address}
use Rattle.classbench_reader.specs.declared.network.Address.TheVariants.{Ip4, Ip6}
use Rattle.classbench_reader.specs.declared.network.Network.{Network}
use Rattle.classbench_reader.specs.declared.rules_fault.LineKind.{LineKind}
use Rattle.classbench_reader.specs.declared.rules_fault.LineKind.TheVariants.{BadAddress, BadPrefix}
use Rattle.classbench_reader.specs.LineReading.{◌>>=◌}

-- the family of an address
abbrev pub family_of_address : Address → Family
family_of_address (Ip4 address) = family.Ip4
family_of_address (Ip6 address) = family.Ip6

-- the family of a network, which is that of its address
abbrev pub family_of : Network → Family
family_of network = family_of_address network.address

-- how many bits an address has
abbrev pub most_bits : Address → ℕ
most_bits (Ip4 address) = 32
most_bits (Ip6 address) = 128

-- a text with a `:` is an IPv6 address, and any other an IPv4 address
abbrev pub address_of : List ℕ → Option Address
address_of text =
    if list_any (λ c. c == colon) text then option_map Ip6 (ip6_of text) else option_map Ip4
    (ip4_of text)

-- an address and, after the `/`, a number of at most as many bits as it has
abbrev pub network_with_prefix : List ℕ → List ℕ → Result Network LineKind
network_with_prefix address_text bits_text = do
  address ← ok_or (address_of address_text) BadAddress
  bits ← ok_or (whole_number (most_bits address) bits_text) BadPrefix
  Ok (record { address = address; bits = bits })

-- a word without `/` is no network, even where it is an address
abbrev pub network_without_prefix : List ℕ → Result Network LineKind
network_without_prefix word = do
  address ← ok_or (address_of word) BadAddress
  Err BadPrefix

-- the network that a word spells, by what stands around its first `/`, if it has one
abbrev pub network_of_cut : List ℕ → Option (List ℕ × List ℕ) → Result Network LineKind
network_of_cut word None = network_without_prefix word
network_of_cut word (Some cut) = network_with_prefix cut.0 cut.1

-- the network that a word spells: an address, `/` and a prefix length
abbrev pub network_of : List ℕ → Result Network LineKind
network_of word = network_of_cut word (cut_at slash word)

-- the number that the bits of an address spell
abbrev pub address_number : Address → ℕ
address_number (Ip4 address) = address
address_number (Ip6 address) = address

-- The address fits in the bits of its family, and the prefix has at most as many bits.
pub record IsLawfulNetwork (network : Network) : Type 0 where
  pub fits : address_number network.address < 2 ^ most_bits network.address
  pub within : network.bits ≤ most_bits network.address
