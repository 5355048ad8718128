use Rattle.std.proofs.Common.{ℕ, List, [], ◌∷◌, ◌++◌, ap, ◌∙◌}
use Rattle.std.proofs.lemmas.Result.{on_ok_weaker}
use Rattle.text_scan.specs.Parts.{tab}
use Rattle.classbench_reader.specs.Print.{ports_text, protocol_text, tag_text}
use Rattle.classbench_reader.proofs.PrintedParts.{columns_joined}
use Rattle.classbench_reader.proofs.print.put_columns.Goals as goal

pub returns : goal.returns
returns c =
    let ports : List ℕ = ports_text c.args.line.now.source_ports in
    let others : List ℕ = ports_text c.args.line.now.destination_ports in
    let protocol : List ℕ = protocol_text c.args.line.now.protocol in
    let its_tag : List ℕ = tag_text c.args.line.now.tag in
    let ended : List ℕ → List ℕ = λ text. text ++ tab ∷ [] in
    on_ok_weaker c.put_tag.result
    (λ e. e
    ∙ ap (λ text. text ++ its_tag) (c.in_ok-extend_from_slice-4.ensures.items
    ∙ ap ended (c.in_ok-put_protocol.ensures
    ∙ ap (λ text. text ++ protocol) (c.in_ok-extend_from_slice-3.ensures.items
    ∙ ap ended (c.in_ok-put_ports-2.ensures
    ∙ ap (λ text. text ++ others) (c.in_ok-extend_from_slice-2.ensures.items
    ∙ ap ended (c.in_ok-put_ports.ensures
    ∙ ap (λ text. text ++ ports) c.in_ok-extend_from_slice.ensures.items))))))
    ∙ columns_joined c.args.text.now.items ports others protocol its_tag)
    c.put_tag.ensures
