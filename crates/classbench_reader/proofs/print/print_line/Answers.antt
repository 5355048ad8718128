use Rattle.std.proofs.Common.{◌++◌, ◌∷◌}
use Rattle.text_scan.specs.Parts.{tab}
use Rattle.classbench_reader.specs.Print.{network_text, ports_text, protocol_text, tag_text}
use Rattle.classbench_reader.proofs.PrintedParts.{line_joined}
use Rattle.classbench_reader.proofs.print.print_line.Goals as goal

pub returns : goal.returns
returns c =
    let line = c.args.line.now in
    rw (
      c.in_ok-extend_from_slice.ensures.items,
      c.in_ok-put_columns.ensures,
      c.in_ok-put_networks.ensures,
      c.new-text.ensures.items,
    ) (
    line_joined (network_text line.source) (network_text line.destination)
    (ports_text line.source_ports ++ tab ∷ (ports_text line.destination_ports ++ tab ∷ (protocol_text line.protocol
    ++ tab ∷ tag_text line.tag))))
