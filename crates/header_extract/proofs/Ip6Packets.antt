-- The class of an IPv6 packet, after the tests of its header.
use Rattle.std.proofs.Common.{◌≡◌, ℕ, ◌≤◌, List, length, drop, slice_index, Ok, Err, refl}
use Rattle.std.proofs.lemmas.Bool.{le-leb, eq-eqb}
use Rattle.header_extract.specs.declared.class.Class.TheVariants.{Ip6, Short}
use Rattle.header_extract.specs.declared.ip6.Upper.{Upper}
use Rattle.header_extract.specs.Ip4.{version_of}
use Rattle.header_extract.specs.Ip6.{upper_of, ip6_key, ip6_class}

-- the chain of headers leads to a protocol, which is part of the key with its ports
pub ip6_class-key : (packet : List ℕ) (upper : Upper) → 40 ≤ length packet → version_of packet ≡ 6 →
    upper_of (slice_index packet 6) (drop 40 packet) ≡ Ok upper →
    ip6_class packet ≡ Ok (record { class = Ip6; key = ip6_key packet upper })
ip6_class-key packet upper whole version found = rw (le-leb 40 (length packet) whole, eq-eqb _ _ version, found) refl

-- the chain is cut
pub ip6_class-cut : (packet : List ℕ) → 40 ≤ length packet → version_of packet ≡ 6 →
    upper_of (slice_index packet 6) (drop 40 packet) ≡ Err Short →
    ip6_class packet ≡ Err Short
ip6_class-cut packet whole version cut = rw (le-leb 40 (length packet) whole, eq-eqb _ _ version, cut) refl
