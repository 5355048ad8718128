-- The address texts of RFC 4291, section 2.2: eight groups of one to four hexadecimal digits of
-- either case, separated by `:` (form 1); `::` once, for one or more groups of zeros (form 2); the
-- last two groups as an IPv4 address (form 3). A zone after the address (RFC 4007, section 11) is
-- no part of it.
use Rattle.std.specs.Prelude.{ℕ, suc, ◌+◌, ◌-◌, ◌*◌, ◌/◌, ◌%◌, ◌==◌, Bool, ◌&&◌, ◌||◌, nat_le}
use Rattle.std.specs.Prelude.{nat_lt, nat_eq, if◌then◌else◌, List, [], ◌∷◌, ◌++◌}
use Rattle.std.specs.Prelude.{length, take, drop, replicate, codes, Option, Some, None}
use Rattle.std.specs.Fmt.{digits}
use Rattle.std.specs.List.{list_all, flat_map, fold, starts_with}
use Rattle.text_scan.specs.Digits.{place_value, is_group}
use Rattle.text_scan.specs.Parts.{colon, parts_of}
use Rattle.text_scan.specs.Ip4.{is_ip4, ip4_value}

-- one to four hexadecimal digits
abbrev pub is_ip6_group : List ℕ → Bool
is_ip6_group text = is_group 16 4 text

-- a group, or an IPv4 address in the place of the last two
abbrev pub is_ip6_end : List ℕ → Bool
is_ip6_end text = is_ip6_group text || is_ip4 text

-- the pieces of 16 bits that a group or an IPv4 address stands for: one or two
abbrev pub pieces_of : List ℕ → List ℕ
pieces_of text =
    if is_ip4 text then ip4_value text / 65536 ∷ ip4_value text % 65536 ∷ [] else place_value 16
    text ∷ []

-- the groups of a text that may have none: none where it is empty
abbrev pub groups_of : List ℕ → List (List ℕ)
groups_of text = if length text == 0 then [] else parts_of colon text

-- each is a group
abbrev pub are_groups : List (List ℕ) → Bool
are_groups groups = list_all is_ip6_group groups

-- each is a group, where the last may be an IPv4 address
abbrev pub are_last_groups : List (List ℕ) → Bool
are_last_groups groups = are_groups (take (length groups - 1) groups) && list_all is_ip6_end groups

-- the pieces of groups in a row
abbrev pub pieces_of_all : List (List ℕ) → List ℕ
pieces_of_all groups = flat_map pieces_of groups

-- The place of the first `::`, or the length where there is none. Where a text is an address it has
-- no second one; the law `ip6_is_cut_anywhere` of `src/laws.rt` says that a text may be cut at any.
abbrev pub gap_place : List ℕ → ℕ
gap_place [] = 0
gap_place (c ∷ cs) = if starts_with nat_eq (c ∷ cs) (codes "::") then 0 else suc (gap_place cs)

-- the text has a `::`
abbrev pub has_gap : List ℕ → Bool
has_gap text = nat_lt (gap_place text) (length text)

-- the groups before the first `::`
abbrev pub groups_before : List ℕ → List (List ℕ)
groups_before text = groups_of (take (gap_place text) text)

-- the groups after the first `::`, which itself has two bytes
abbrev pub groups_after : List ℕ → List (List ℕ)
groups_after text = groups_of (drop (gap_place text + 2) text)

-- the whole text is an address without `::`: groups for eight pieces
abbrev pub is_full : List ℕ → Bool
is_full text = are_last_groups (groups_of text) && length (pieces_of_all (groups_of text)) == 8

-- the whole text is an address with one `::`: groups for at most seven pieces, on both sides
-- together
abbrev pub is_shortened : List ℕ → Bool
is_shortened text = are_groups (groups_before text) && are_last_groups (groups_after text)
    && nat_le (length (pieces_of_all (groups_before text)) + length
    (pieces_of_all (groups_after text))) 7

-- the eight pieces of an address with `::`: zeros stand in its place
abbrev pub filled_pieces : List ℕ → List ℕ → List ℕ
filled_pieces before after = before ++ replicate (8 - (length before + length after)) 0 ++ after

-- the eight pieces that a text with `::` spells
abbrev pub shortened_pieces : List ℕ → List ℕ
shortened_pieces text =
    filled_pieces (pieces_of_all (groups_before text)) (pieces_of_all (groups_after text))

-- the number that pieces of 16 bits spell, the most significant first
abbrev pub joined : List ℕ → ℕ
joined pieces = fold (λ n x. n * 65536 + x) 0 pieces

-- the address that the whole text spells
abbrev pub ip6_of : List ℕ → Option ℕ
ip6_of text =
    if has_gap text
    then (if is_shortened text then Some (joined (shortened_pieces text)) else None)
    else (if is_full text then Some (joined (pieces_of_all (groups_of text))) else None)
