use Rattle.std.proofs.Common.{ℕ, lit<, sym, subst, ◌∙◌}
use Rattle.std.specs.Prelude.{slice_index}
use Rattle.scalar_walk.specs.Lanes.{word_in}
use Rattle.scalar_walk.specs.Rows.{ReadsAt}
use Rattle.scalar_walk.proofs.OneLane.{first_of_group}
use Rattle.scalar_walk.proofs.vectors.reads_at.Goals as goal

pub ahead-requires : goal.ahead-requires
ahead-requires c i k few part =
    let bytes = c.bytes_in.ensures in
    bytes i k few part ∙ sym (first_of_group c.bytes_in.result i (bytes i 0 few (lit< tt)))

pub returns : goal.returns
returns c i few =
    let walks = c.args.walks in
    let first = first_of_group c.bytes_in.result i (c.bytes_in.ensures i 0 few (lit< tt)) in
    subst (λ (byte : ℕ). ReadsAt (word_in walks.lows walks.highs i) byte (slice_index c.ahead.result i))
    first (c.ahead.ensures i few)
