use Rattle.std.proofs.Common.{◌≡◌, ℕ, List, [], ◌∷◌, ◌+◌, ◌/◌, ◌%◌, ◌^◌, ◌∙◌}
use Rattle.std.specs.Prelude.{slice_index}
use Rattle.scalar_walk.proofs.OneLane.{each_of_four}
use Rattle.scalar_walk.proofs.vectors.whole_groups.Goals as goal

pub returns : goal.returns
returns c i k few part =
    let numbers : List ℕ = c.four_bytes.result ∷ c.four_bytes-2.result ∷ c.four_bytes-3.result ∷ c.four_bytes-4.result
    ∷ [] in
    let keys : List ℕ = c.args.keys.now in
    let at = λ (j : ℕ). slice_index c.args.begins.now j + c.args.from in
    c.bytes_of.ensures i k few part
    ∙ each_of_four (λ j. slice_index numbers j / 256 ^ k % 256 ≡ slice_index keys (at j + k))
    (c.four_bytes.ensures k part) (c.four_bytes-2.ensures k part) (c.four_bytes-3.ensures k part)
    (c.four_bytes-4.ensures k part) i few
