-- The class of an IPv4 packet, after all tests of its header.
use Rattle.std.proofs.Common.{◌≡◌, ℕ, ◌*◌, ◌%◌, ◌≤◌, List, length, drop, slice_index, Ok, Err, refl, arith}
use Rattle.std.proofs.lemmas.Bool.{le-leb, eq-eqb}
use Rattle.header_extract.specs.declared.class.Class.TheVariants.{Ip4, Short}
use Rattle.header_extract.specs.Ip4.{version_of, ip4_ports, ip4_key, ip4_class}

-- the header of a packet has this length, and is whole
pub record HasHeader (packet : List ℕ) (header_len : ℕ) : Type 0 where
  pub front : 20 ≤ length packet
  pub version : version_of packet ≡ 4
  pub is_len : header_len ≡ slice_index packet 0 % 16 * 4
  pub least : 20 ≤ header_len
  pub whole : header_len ≤ length packet

-- the ports are there, and are part of the key
pub ip4_class-key : (packet ports : List ℕ) (header_len : ℕ) → HasHeader packet header_len →
    ip4_ports packet (drop header_len packet) ≡ Ok ports →
    ip4_class packet ≡ Ok (record { class = Ip4; key = ip4_key packet ports })
ip4_class-key packet ports header_len h found =
    let words : 4 * (slice_index packet 0 % 16) ≡ header_len = omega (arith, h.is_len) in
    let five : 5 ≤ slice_index packet 0 % 16 = omega (arith, h.is_len, h.least) in
    rw (
      le-leb 20 (length packet) h.front,
      eq-eqb _ _ h.version,
      le-leb 5 (slice_index packet 0 % 16) five,
      words,
      le-leb header_len (length packet) h.whole,
      found,
    ) refl

-- the ports are cut
pub ip4_class-cut : (packet : List ℕ) (header_len : ℕ) → HasHeader packet header_len →
    ip4_ports packet (drop header_len packet) ≡ Err Short → ip4_class packet ≡ Err Short
ip4_class-cut packet header_len h cut =
    let words : 4 * (slice_index packet 0 % 16) ≡ header_len = omega (arith, h.is_len) in
    let five : 5 ≤ slice_index packet 0 % 16 = omega (arith, h.is_len, h.least) in
    rw (
      le-leb 20 (length packet) h.front,
      eq-eqb _ _ h.version,
      le-leb 5 (slice_index packet 0 % 16) five,
      words,
      le-leb header_len (length packet) h.whole,
      cut,
    ) refl
