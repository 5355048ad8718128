-- Networks that are read are lawful: an address fits in the bits of its family, and the prefix has no more.
use Rattle.std.proofs.Common.{◌≡◌, ℕ, zero, suc, ◌+◌, ◌-◌, ◌*◌, ◌/◌, ◌%◌, ◌^◌, ◌<◌, ◌≤◌, Bool, true, ◌&&◌, eqb}
use Rattle.std.proofs.Common.{nat_le, nat_lt, List, [], ◌∷◌, ◌++◌, length, map, take, replicate, Option, Some, None}
use Rattle.std.proofs.Common.{Ok, Err, refl, sym, ap, subst, ◌∙◌, arith, inl, inr, length-append}
use Rattle.std.specs.List.{fold, list_all, list_any}
use Rattle.std.specs.Option.{ok_or}
use Rattle.std.proofs.Math.Nat.{pow-suc, pow-zero, mul-le-mul, le_refl, pow-le-pow_right}
use Rattle.std.proofs.lemmas.Bool.{and_parts, cases_Bool, eqb-true, leb-true, lt-ltb, ltb-true}
use Rattle.std.proofs.lemmas.List.{length-map, length-replicate}
use Rattle.std.proofs.lemmas.List.Concat.{flat_map-cons}
use Rattle.std.proofs.lemmas.List.Folds.{list_all-map}
use Rattle.std.proofs.lemmas.Nat.{div_below, mod_below}
use Rattle.list_lemmas.proofs.Elements.{list_all_weaker, list_all_both}
use Rattle.list_lemmas.proofs.Options.{from_option_map}
use Rattle.text_scan.specs.Digits.{place_value, are_digits, is_group}
use Rattle.text_scan.specs.Parts.{colon, dot, slash, cut_at, parts_of}
use Rattle.text_scan.specs.Numeral.{whole_number}
use Rattle.text_scan.specs.Ip4.{is_ip4_group, is_ip4, ip4_value, ip4_of}
use Rattle.text_scan.specs.Ip6.{is_ip6_group, is_ip6_end, pieces_of, groups_of, are_groups, are_last_groups}
use Rattle.text_scan.specs.Ip6.{has_gap, groups_before, groups_after, is_full, is_shortened, filled_pieces, joined}
use Rattle.text_scan.specs.Ip6.{shortened_pieces, pieces_of_all, ip6_of}
use Rattle.text_scan.proofs.Offered.{whole_within, place_value-lt}
use Rattle.classbench_reader.specs.declared.network.Address.{Address}
use Rattle.classbench_reader.specs.declared.network.Address.TheVariants.{Ip4, Ip6}
use Rattle.classbench_reader.specs.declared.network.Network.{Network}
use Rattle.classbench_reader.specs.declared.rules_fault.LineKind.{LineKind}
use Rattle.classbench_reader.specs.declared.rules_fault.LineKind.TheVariants.{BadAddress, BadPrefix}
use Rattle.classbench_reader.specs.LineReading.{◌>>=◌}
use Rattle.classbench_reader.specs.Network.{most_bits, address_number, address_of, network_with_prefix}
use Rattle.classbench_reader.specs.Network.{network_of_cut, network_of, IsLawfulNetwork}
use Rattle.classbench_reader.proofs.SplitParts.{bound}

-- the numbers are below the base
abbrev are_below : ℕ → List ℕ → Bool
are_below base numbers = list_all (λ n. nat_lt n base) numbers

-- such numbers, spelled one after the other, are below the power of their count
below_power : (base value most : ℕ) (numbers : List ℕ) → are_below base numbers ≡ true → value < most →
    fold (λ n x. n * base + x) value numbers < most * base ^ length numbers
below_power base value most [] all low = rw (pow-zero base) (omega (arith, low))
below_power base value most (x ∷ numbers) all low =
    let parts = and_parts (nat_lt x base) (are_below base numbers) all in
    let here : x < base = ltb-true x base parts.0 in
    let step : value * base + x < most * base = omega (arith, here, mul-le-mul low (le_refl base)) in
    rw (pow-suc base (length numbers))
    (omega (arith, below_power base (value * base + x) (most * base) numbers parts.1 step))

-- four bytes
ip4_byte : (group : List ℕ) → is_ip4_group group ≡ true → nat_lt (place_value 10 group) 256 ≡ true
ip4_byte group is =
    lt-ltb (place_value 10 group) 256
    (omega (arith, leb-true (place_value 10 group) 255 (and_parts (is_group 10 3 group) _ is).1))

-- the value of an IPv4 text has 32 bits
ip4_value_below : (text : List ℕ) → is_ip4 text ≡ true → ip4_value text < 2 ^ 32
ip4_value_below text is =
    let groups = parts_of dot text in
    let bytes = map (place_value 10) groups in
    let parts = and_parts (eqb (length groups) 4) (list_all is_ip4_group groups) is in
    let four : length bytes ≡ 4 = length-map groups (place_value 10) ∙ eqb-true (length groups) 4 parts.0 in
    let below : are_below 256 bytes ≡ true =
    list_all-map (λ n. nat_lt n 256) (place_value 10) groups
    ∙ list_all_weaker is_ip4_group (λ group. nat_lt (place_value 10 group) 256) groups ip4_byte parts.1 in
    let number : ip4_value text < 1 * 256 ^ length bytes = below_power 256 0 1 bytes below (omega arith) in
    let whole = rw four at number in
    omega (arith, whole)

-- the number of an IPv4 address that was read has 32 bits
ip4_of_below : (text : List ℕ) (number : ℕ) → ip4_of text ≡ Some number → number < 2 ^ 32
ip4_of_below text number is = elim (cases_Bool (is_ip4 text)) [
  | inl spelled ↦
      let found = rw spelled at is in
      let same : ip4_value text ≡ number = cc in
      rw (sym same) (ip4_value_below text spelled)
  | inr none ↦ absurd (let fault = rw none at is in cc)
]

-- a group is a number of 16 bits
ip6_group_below : (group : List ℕ) → is_ip6_group group ≡ true → place_value 16 group < 65536
ip6_group_below group is =
    let parts = and_parts (nat_le 1 (length group) && nat_le (length group) 4) (are_digits 16 group) is in
    let short : length group ≤ 4 =
    leb-true (length group) 4 (and_parts (nat_le 1 (length group)) (nat_le (length group) 4) parts.0).1 in
    omega (
      arith,
      place_value-lt 16 group parts.1,
      pow-le-pow_right {n = 16} (omega arith) {i = length group} {j = 4} short,
    )

-- and so are both halves of an IPv4 address
pieces_below : (text : List ℕ) → is_ip6_end text ≡ true → are_below 65536 (pieces_of text) ≡ true
pieces_below text is = elim (cases_Bool (is_ip4 text)) [
  | inl four ↦
      let value = ip4_value text in
      let high = div_below value 65536 65536 (omega arith) (omega (arith, ip4_value_below text four)) in
      let low = mod_below value 65536 (omega arith) in
      rw (four, lt-ltb (value / 65536) 65536 high, lt-ltb (value % 65536) 65536 low) refl
  | inr none ↦ elim (cases_Bool (is_ip6_group text)) [
    | inl group ↦ rw (none, lt-ltb (place_value 16 text) 65536 (ip6_group_below text group)) refl
    | inr other ↦ absurd (let fault = rw (other, none) at is in cc)
  ]
]

-- each piece of groups in a row has 16 bits
all_pieces_below : (groups : List (List ℕ)) → list_all is_ip6_end groups ≡ true →
    are_below 65536 (pieces_of_all groups) ≡ true
all_pieces_below [] all = refl
all_pieces_below (group ∷ groups) all =
    let parts = and_parts (is_ip6_end group) (list_all is_ip6_end groups) all in
    ap (are_below 65536) (flat_map-cons pieces_of group groups)
    ∙ list_all_both (λ n. nat_lt n 65536) (pieces_of group) (pieces_of_all groups) (pieces_below group parts.0)
    (all_pieces_below groups parts.1)

-- a group may stand at the end of an address
group_is_end : (group : List ℕ) → is_ip6_group group ≡ true → is_ip6_end group ≡ true
group_is_end group is = rw is refl

-- pieces of zero have 16 bits
zeros_below : (n : ℕ) → are_below 65536 (replicate n 0) ≡ true
zeros_below zero = refl
zeros_below (suc n) = zeros_below n

-- eight pieces are a number of 128 bits
eight_below : (pieces : List ℕ) → length pieces ≡ 8 → are_below 65536 pieces ≡ true → joined pieces < 2 ^ 128
eight_below pieces eight below =
    let number : joined pieces < 1 * 65536 ^ length pieces = below_power 65536 0 1 pieces below (omega arith) in
    let whole = rw eight at number in
    omega (arith, whole)

-- the last of such groups may be an IPv4 address
last_groups_are_ends : (groups : List (List ℕ)) → are_last_groups groups ≡ true → list_all is_ip6_end groups ≡ true
last_groups_are_ends groups is =
    (and_parts (are_groups (take (length groups - 1) groups)) (list_all is_ip6_end groups) is).1

-- the number of an address without `::` has 128 bits
full_below : (text : List ℕ) → is_full text ≡ true → joined (pieces_of_all (groups_of text)) < 2 ^ 128
full_below text is =
    let groups = groups_of text in
    let parts = and_parts (are_last_groups groups) (eqb (length (pieces_of_all groups)) 8) is in
    eight_below (pieces_of_all groups) (eqb-true (length (pieces_of_all groups)) 8 parts.1)
    (all_pieces_below groups (last_groups_are_ends groups parts.0))

-- pieces with zeros between are eight
filled_below : (before after : List ℕ) → length before + length after ≤ 7 → are_below 65536 before ≡ true →
    are_below 65536 after ≡ true → joined (filled_pieces before after) < 2 ^ 128
filled_below before after few first last =
    let count = 8 - (length before + length after) in
    let zeros : List ℕ = replicate count 0 in
    let p : ℕ → Bool = λ n. nat_lt n 65536 in
    eight_below (filled_pieces before after)
    (omega (
      arith,
      length-append (before ++ zeros) after,
      length-append before zeros,
      length-replicate {A = ℕ} count 0,
      few,
    ))
    (list_all_both p (before ++ zeros) after (list_all_both p before zeros first (zeros_below count)) last)

-- the number of an address with `::` has 128 bits
shortened_below : (text : List ℕ) → is_shortened text ≡ true → joined (shortened_pieces text) < 2 ^ 128
shortened_below text is =
    let before = groups_before text in
    let after = groups_after text in
    let parts = and_parts (are_groups before && are_last_groups after) _ is in
    let sides = and_parts (are_groups before) (are_last_groups after) parts.0 in
    filled_below (pieces_of_all before) (pieces_of_all after)
    (leb-true (length (pieces_of_all before) + length (pieces_of_all after)) 7 parts.1)
    (all_pieces_below before (list_all_weaker is_ip6_group is_ip6_end before group_is_end sides.0))
    (all_pieces_below after (last_groups_are_ends after sides.1))

-- the number of an IPv6 address that was read has 128 bits
ip6_of_below : (text : List ℕ) (number : ℕ) → ip6_of text ≡ Some number → number < 2 ^ 128
ip6_of_below text number is = elim (cases_Bool (has_gap text)) [
  | inl gap ↦ elim (cases_Bool (is_shortened text)) [
    | inl spelled ↦
        let found = rw (gap, spelled) at is in
        let same : joined (shortened_pieces text) ≡ number = cc in
        rw (sym same) (shortened_below text spelled)
    | inr none ↦ absurd (let fault = rw (gap, none) at is in cc)
  ]
  | inr whole ↦ elim (cases_Bool (is_full text)) [
    | inl spelled ↦
        let found = rw (whole, spelled) at is in
        let same : joined (pieces_of_all (groups_of text)) ≡ number = cc in
        rw (sym same) (full_below text spelled)
    | inr none ↦ absurd (let fault = rw (whole, none) at is in cc)
  ]
]

-- an address fits in its bits
address_fits : (text : List ℕ) (address : Address) → address_of text ≡ Some address →
    address_number address < 2 ^ most_bits address
address_fits text address is = elim (cases_Bool (list_any (λ c. eqb c colon) text)) [
  | inl six ↦
      let (number, read, same) = from_option_map Ip6 (ip6_of text) address (rw six at is) in
      subst (λ a. address_number a < 2 ^ most_bits a) same (ip6_of_below text number read)
  | inr four ↦
      let (number, read, same) = from_option_map Ip4 (ip4_of text) address (rw four at is) in
      subst (λ a. address_number a < 2 ^ most_bits a) same (ip4_of_below text number read)
]

-- what was there, where a fault stands for nothing
pub was_there : {A : Type 0} (found : Option A) (kind : LineKind) (a : A) → ok_or found kind ≡ Ok a → found ≡ Some a
was_there (Some b) kind a is = cc
was_there None kind a is = absurd (cc)

-- a network that was read from an address and a prefix length is lawful
prefix_lawful : (address_text bits_text : List ℕ) (network : Network) →
    network_with_prefix address_text bits_text ≡ Ok network → IsLawfulNetwork network
prefix_lawful address_text bits_text network is =
    let (address, has, more) = bound (ok_or (address_of address_text) BadAddress)
    (λ a. ok_or (whole_number (most_bits a) bits_text) BadPrefix
    >>= λ b. Ok (record { address = a; bits = b })) network is in
    let (bits, says, made) = bound (ok_or (whole_number (most_bits address) bits_text) BadPrefix)
    (λ b. Ok (record { address = address; bits = b })) network more in
    let pair : Network = record { address = address; bits = bits } in
    let same : pair ≡ network = cc in
    subst IsLawfulNetwork same
    record {
      fits = address_fits address_text address (was_there (address_of address_text) BadAddress address has);
      within = whole_within (most_bits address) bits bits_text
          (was_there (whole_number (most_bits address) bits_text) BadPrefix bits says);
    }

-- and so is one that was read from a word with or without a `/`
cut_lawful : (word : List ℕ) (cut : Option (List ℕ × List ℕ)) (network : Network) →
    network_of_cut word cut ≡ Ok network → IsLawfulNetwork network
cut_lawful word None network is =
    let (address, has, fault) = bound (ok_or (address_of word) BadAddress) (λ a. Err BadPrefix) network is in
    absurd (cc)
cut_lawful word (Some cut) network is = prefix_lawful cut.0 cut.1 network is

-- a network that a word spells is lawful
pub network_lawful : (word : List ℕ) (network : Network) → network_of word ≡ Ok network → IsLawfulNetwork network
network_lawful word network is = cut_lawful word (cut_at slash word) network is
