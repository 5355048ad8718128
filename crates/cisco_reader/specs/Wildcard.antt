-- Addresses under a wildcard mask (Cisco IOS Security Command Reference, "permit (IP)",
-- source-wildcard and destination-wildcard): where the mask has a bit, the bit of the address
-- doesn't count.
use Rattle.std.specs.Prelude.{ℕ, ◌+◌, ◌-◌, ◌^◌, ◌==◌, Bool, if◌then◌else◌, bit_and, bit_or, bit_xor, List, [], ◌∷◌}
use Rattle.std.specs.Prelude.{◌++◌, Option, Some, None}
use Rattle.std.proofs.Common.{zero, suc}
use Rattle.std.specs.Str.{bytes_eq}
use Rattle.text_scan.specs.Ip4.{ip4_of}
use Rattle.text_scan.specs.Ip4Text.{ip4_spelling}
use Rattle.list_chains.specs.declared.span.Span.{Span}
use Rattle.cisco_reader.specs.declared.wildcard.Wildcard.{Wildcard}

-- an address, where its text is the one that is printed of it
abbrev pub if_printed : List ℕ → Option ℕ → Option ℕ
if_printed text None = None
if_printed text (Some address) = if bytes_eq text (ip4_spelling address) then Some address else None

-- the IPv4 address that a text spells without leading zeros
abbrev pub ip4_plain : List ℕ → Option ℕ
ip4_plain text = if_printed text (ip4_of text)

-- the addresses that agree with an address where the mask has no bit
abbrev pub under_mask : ℕ → ℕ → Wildcard
under_mask address mask = record { base = bit_xor address (bit_and address mask); free = mask }

-- the last bits of a number, all set
abbrev pub ones : ℕ → ℕ
ones bits = 2 ^ bits - 1

-- none of the last bits of addresses counts
abbrev pub is_free : ℕ → ℕ → Bool
is_free bits free = bit_and free (ones bits) == ones bits

-- this bit counts
abbrev pub counts : ℕ → ℕ → Bool
counts bit free = bit_and free (2 ^ bit) == 0

-- how many of the last bits don't count, but for those at the end
unfoldable pub gaps : ℕ → ℕ → ℕ
gaps zero free = 0
gaps (suc bits) free =
    if is_free (suc bits) free then 0
    else (if counts bits free then gaps bits free else gaps bits free + 1)

-- the addresses with these first bits, span by span in their order; the last bits that count stand
-- in `base` too
unfoldable pub spans_from : ℕ → ℕ → ℕ → List Span
spans_from zero base free = record { low = base; high = base } ∷ []
spans_from (suc bits) base free =
    if is_free (suc bits) free then record { low = base; high = bit_or base (ones (suc bits)) } ∷ []
    else (if counts bits free then spans_from bits base free
    else spans_from bits base free ++ spans_from bits (bit_or base (2 ^ bits)) free)

-- the addresses under a mask
abbrev pub spans_under : Wildcard → List Span
spans_under it = spans_from 32 it.base it.free
