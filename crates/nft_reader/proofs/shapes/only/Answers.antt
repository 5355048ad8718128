-- The only member of an object.
use Rattle.std.proofs.Common.{◌≡◌, ◌≢◌, length, Some, ap, ◌∙◌, sym, arith}
use Rattle.json.specs.Value.{value_view}
use Rattle.json.proofs.Trees.{view-Object}
use Rattle.nft_reader.specs.Shapes.{only}
use Rattle.nft_reader.proofs.Views.{none_of_several, the_only}
use Rattle.nft_reader.proofs.shapes.only.Goals as goal

pub returns-then-len-ne1 : goal.returns-then-len-ne1
returns-then-len-ne1 c =
    let several : length c.in-Object.members.items ≢ 1 = λ one. omega (arith, one) in
    sym (ap (λ it. only (value_view it)) c.in-Object.is
    ∙ ap only (view-Object c.in-Object.members)
    ∙ none_of_several c.in-Object.members.items several)

pub returns-else-len-ne1 : goal.returns-else-len-ne1
returns-else-len-ne1 c =
    let member = c.index.result.now in
    let alone : length c.in-Object.members.items ≡ 1 = omega arith in
    sym (ap (λ it. only (value_view it)) c.in-Object.is
    ∙ ap only (view-Object c.in-Object.members)
    ∙ the_only c.in-Object.members.items member alone
    ∙ ap (λ it. Some (it.0.now, value_view it.1)) (sym c.index.ensures))
