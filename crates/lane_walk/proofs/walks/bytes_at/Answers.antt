use Rattle.std.proofs.Common.{◌≡◌, ℕ, List, [], ◌∷◌, ap, ◌∙◌, refl, get_or}
use Rattle.std.specs.Prelude.{slice_index}
use Rattle.lane_walk.proofs.Landing.{each_of_four}
use Rattle.lane_walk.proofs.walks.bytes_at.Goals as goal

pub returns-clause-bytes : goal.returns-clause-bytes
returns-clause-bytes c k within few =
    let bytes : List ℕ = c.args.bytes.now in
    let at : List ℕ = c.below-at.result in
    let found : List ℕ = get_or bytes (get_or at 0 0) 0 ∷ get_or bytes (get_or at 1 0) 0
    ∷ get_or bytes (get_or at 2 0) 0 ∷ get_or bytes (get_or at 3 0) 0 ∷ [] in
    each_of_four (λ j. slice_index found j ≡ slice_index bytes (slice_index at j)) refl refl refl refl k within
    ∙ ap (λ (j : ℕ). slice_index bytes j) (c.below-at.ensures.same k within few)
