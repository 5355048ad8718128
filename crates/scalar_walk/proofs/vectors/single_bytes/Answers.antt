use Rattle.std.proofs.Common.{◌≡◌, ℕ, List, [], ◌∷◌, ◌+◌, ◌/◌, ◌%◌, ◌<◌, ◌^◌, arith, ◌∙◌}
use Rattle.std.specs.Prelude.{slice_index}
use Rattle.scalar_walk.proofs.OneLane.{byte_alone, each_of_four}
use Rattle.scalar_walk.proofs.vectors.single_bytes.Goals as goal

pub returns : goal.returns
returns c i k few part =
    let numbers : List ℕ = c.from.result ∷ c.from-2.result ∷ c.from-3.result ∷ c.from-4.result ∷ [] in
    let keys : List ℕ = c.args.keys.now in
    let at = λ (j : ℕ). slice_index c.args.begins.now j + c.args.from in
    let small : (n : ℕ) → slice_index keys n < 256 = λ n. omega (arith, c.type_inv.keys n) in
    c.bytes_of.ensures i k few (omega (arith, part))
    ∙ each_of_four (λ j. slice_index numbers j / 256 ^ k % 256 ≡ slice_index keys (at j + k))
    (byte_alone keys _ _ k part c.from.ensures (small (at 0)) (omega arith))
    (byte_alone keys _ _ k part c.from-2.ensures (small (at 1)) (omega arith))
    (byte_alone keys _ _ k part c.from-3.ensures (small (at 2)) (omega arith))
    (byte_alone keys _ _ k part c.from-4.ensures (small (at 3)) (omega arith)) i few
