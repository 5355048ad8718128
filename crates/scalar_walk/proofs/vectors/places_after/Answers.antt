use Rattle.std.proofs.Common.{◌≡◌, ◌*◌, ℕ, lit<, sym, ap, ◌∙◌, arith}
use Rattle.std.specs.Prelude.{slice_index}
use Rattle.flat_table.specs.Word.{next_place}
use Rattle.scalar_walk.specs.Lanes.{word_in}
use Rattle.scalar_walk.proofs.OneLane.{first_of_group}
use Rattle.scalar_walk.proofs.vectors.places_after.Goals as goal

pub next_places-requires : goal.next_places-requires
next_places-requires c i k few part = c.bytes_in.ensures i k few part
    ∙ sym (first_of_group c.bytes_in.result i (c.bytes_in.ensures i 0 few (lit< tt)))

pub returns-clause-places : goal.returns-clause-places
returns-clause-places c i within node small =
    let first = first_of_group c.bytes_in.result i (c.bytes_in.ensures i 0 within (lit< tt)) in
    let byte : slice_index c.bytes_in.result (4 * i) ≡ slice_index c.args.bytes i =
    omega (arith, first, c.bytes_of.ensures i 0 within (lit< tt), small) in
    c.next_places.ensures.places i within node
    ∙ ap (λ (b : ℕ). next_place (word_in c.args.lows c.args.highs i) b) byte
