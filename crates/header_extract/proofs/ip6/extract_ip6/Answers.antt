use Rattle.std.proofs.Common.{◌≡◌, ◌+◌, length, take, drop, slice_index, Ok, Err, refl, sym, ap, ◌∙◌, arith}
use Rattle.std.proofs.lemmas.List.{take_rest, length-take, length-drop}
use Rattle.header_extract.specs.declared.class.Class.TheVariants.{Ip6, Short}
use Rattle.header_extract.specs.Extracted.{or_short}
use Rattle.header_extract.specs.Ip6.{upper_of}
use Rattle.header_extract.proofs.Ip6Packets.{ip6_class-key, ip6_class-cut}
use Rattle.header_extract.proofs.Keys.{KeyParts, Extracts-written}
use Rattle.header_extract.proofs.ip6.extract_ip6.Goals as goal
use Rattle.list_lemmas.proofs.Parts.{take-both}

pub returns-in-Some : goal.returns-in-Some
returns-in-Some c =
    let packet = c.args.packet.now in
    let upper = c.in-Some.upper in
    let found : upper_of (slice_index packet 6) (drop 40 packet) ≡ Ok upper =
    ap (upper_of (slice_index packet 6)) (sym (take_rest packet 40)) ∙ c.find_upper.ensures
    ∙ ap or_short c.in-Some.is in
    let len : 5 + length (take 32 (drop 8 packet)) ≡ 37 =
    omega (arith, length-take 32 (drop 8 packet), length-drop 8 packet) in
    let parts : KeyParts = record {
      protocol = upper.protocol;
      source = take 16 (drop 8 packet);
      destination = take 16 (drop 24 packet);
      addresses = take 32 (drop 8 packet);
      ports = upper.ports;
    } in
    Extracts-written _ Ip6 parts c.args.key.now.bytes _
    record {
      is_frame = ip6_class-key packet upper c.if-packet-lt-HEADER.false c.if-packet-ne-VERSION.false found;
      both = take-both 16 8 packet;
      four = omega arith;
      whole = len;
      written = c.write.ensures;
    }

pub returns-in-None : goal.returns-in-None
returns-in-None c =
    let packet = c.args.packet.now in
    let cut : upper_of (slice_index packet 6) (drop 40 packet) ≡ Err Short =
    ap (upper_of (slice_index packet 6)) (sym (take_rest packet 40)) ∙ c.find_upper.ensures
    ∙ ap or_short c.in-None.is in
    rw (ip6_class-cut packet c.if-packet-lt-HEADER.false c.if-packet-ne-VERSION.false cut)
    (record { class = refl; len = refl; key = refl })
