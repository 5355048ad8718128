use Rattle.std.proofs.Common.{ℕ, lit<, sym, ap, ◌∙◌}
use Rattle.flat_table.specs.Word.{is_node, next_place}
use Rattle.scalar_walk.proofs.OneLane.{first_of_group}
use Rattle.scalar_walk.proofs.vectors.four_places.Goals as goal

pub next_places-requires : goal.next_places-requires
next_places-requires c i k few part =
    c.spread.ensures i k few part ∙ sym (first_of_group c.spread.result i (c.spread.ensures i 0 few (lit< tt)))

pub returns : goal.returns
returns c i within node =
    let word = c.halves_of.ensures.words i within in
    let byte = first_of_group c.spread.result i (c.spread.ensures i 0 within (lit< tt)) in
    c.next_places.ensures.places i within (ap (λ (w : ℕ). is_node w) word ∙ node)
    ∙ (λ j. next_place (word j) (byte j))
