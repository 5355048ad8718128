use Rattle.std.proofs.Common.{◌≡◌, ◌+◌, ◌∷◌, ◌++◌, List, subst, ℕ, length, take, drop, Ok, Err, refl, sym, ap, ◌∙◌, arith}
use Rattle.std.proofs.lemmas.List.{take_rest, length-take, length-drop}
use Rattle.header_extract.specs.declared.class.Class.TheVariants.{Ip4, Short}
use Rattle.header_extract.specs.Extracted.{or_short}
use Rattle.header_extract.specs.Ip4.{IsHeaderLen, protocol_of, ip4_ports}
use Rattle.header_extract.proofs.Ip4Packets.{HasHeader, ip4_class-key, ip4_class-cut}
use Rattle.header_extract.proofs.Keys.{KeyParts, Extracts-written}
use Rattle.header_extract.proofs.ip4.extract_ip4.Goals as goal
use Rattle.list_lemmas.proofs.Parts.{take-both}

pub returns-in-Some-packet_ports : goal.returns-in-Some-packet_ports
returns-in-Some-packet_ports c =
    let packet = c.args.packet.now in
    let header_len = c.in-Some.header_len in
    let is : IsHeaderLen packet header_len = rw c.in-Some.is at c.header_len.ensures.some in
    let header : HasHeader packet header_len = record {
      front = c.if-packet-lt-HEADER.false;
      version = is.version;
      is_len = is.is_len;
      least = is.least;
      whole = c.if-packet-header_len.false;
    } in
    let found : ip4_ports packet (drop header_len packet) ≡ Ok c.in-Some-packet_ports.ports =
    ap (ip4_ports packet) (sym (take_rest packet header_len)) ∙ c.packet_ports.ensures
    ∙ ap or_short c.in-Some-packet_ports.is in
    let len : 5 + length (take 8 (drop 12 packet)) ≡ 13 =
    omega (arith, length-take 8 (drop 12 packet), length-drop 12 packet, header.front) in
    let parts : KeyParts = record {
      protocol = protocol_of packet;
      source = take 4 (drop 12 packet);
      destination = take 4 (drop 16 packet);
      addresses = take 8 (drop 12 packet);
      ports = c.in-Some-packet_ports.ports;
    } in
    Extracts-written _ Ip4 parts c.args.key.now.bytes _
    record {
      is_frame = ip4_class-key packet c.in-Some-packet_ports.ports header_len header found;
      both = take-both 4 12 packet;
      four = omega arith;
      whole = len;
      written = subst (λ (addresses : List ℕ). c.write.new.self.bytes
          ≡ (protocol_of packet ∷ addresses ++ c.in-Some-packet_ports.ports)
          ++ drop (5 + length addresses) c.args.key.now.bytes) c.copy_from_slice.ensures.after c.write.ensures;
    }

pub returns-in-None : goal.returns-in-None
returns-in-None c =
    let packet = c.args.packet.now in
    let header_len = c.in-Some.header_len in
    let is : IsHeaderLen packet header_len = rw c.in-Some.is at c.header_len.ensures.some in
    let header : HasHeader packet header_len = record {
      front = c.if-packet-lt-HEADER.false;
      version = is.version;
      is_len = is.is_len;
      least = is.least;
      whole = c.if-packet-header_len.false;
    } in
    let cut : ip4_ports packet (drop header_len packet) ≡ Err Short =
    ap (ip4_ports packet) (sym (take_rest packet header_len)) ∙ c.packet_ports.ensures ∙ ap or_short c.in-None.is in
    rw (ip4_class-cut packet header_len header cut) (record { class = refl; len = refl; key = refl })
