-- A part that is no port makes the whole list faulty.
use Rattle.std.proofs.Common.{◌≡◌, [], Ok, rules, ap, ◌∙◌, sym}
use Rattle.text_scan.specs.Parts.{parts_of}
use Rattle.list_packets.specs.Values.{comma}
use Rattle.iptables_reader.specs.Values.{with_part, with_parts}
use Rattle.iptables_reader.proofs.Folds.{refused_parts}
use Rattle.iptables_reader.proofs.values.port_spans.Goals as goal

pub returns-in_err-put_ports : goal.returns-in_err-put_ports
returns-in_err-put_ports c =
    let part = c.in-Some.part.now in
    let rest = parts_of comma c.in-Some.rest.now in
    let spans = c.loop-part.spans.items in
    let read : with_parts (Ok []) (parts_of comma c.args.word.now) ≡ with_parts (with_part spans part) rest =
    c.loop-part.invariant ∙ ap (with_parts (Ok spans)) c.in-Some.ensures.parts in
    let room = sym c.has_room.ensures ∙ c.if-not-has_room.false in
    rw (room, read) (search (rules, refused_parts (with_part spans part) rest))
