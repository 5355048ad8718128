use Rattle.std.proofs.Common.{ℕ, List, [], ◌∷◌, ◌++◌, ap, ◌∙◌}
use Rattle.std.proofs.lemmas.Result.{on_ok_weaker}
use Rattle.text_scan.specs.Parts.{tab}
use Rattle.classbench_reader.specs.Print.{network_text}
use Rattle.classbench_reader.proofs.PrintedParts.{networks_joined}
use Rattle.classbench_reader.proofs.print.put_networks.Goals as goal

pub returns : goal.returns
returns c =
    let from : List ℕ = network_text c.args.line.now.source in
    let to : List ℕ = network_text c.args.line.now.destination in
    on_ok_weaker c.put_network-2.result
    (λ e. e
    ∙ ap (λ text. text ++ to) (c.in_ok-extend_from_slice-2.ensures.items
    ∙ ap (λ text. text ++ tab ∷ []) (c.in_ok-put_network.ensures
    ∙ ap (λ text. text ++ from) c.in_ok-extend_from_slice.ensures.items))
    ∙ networks_joined c.args.text.now.items from to)
    c.put_network-2.ensures
