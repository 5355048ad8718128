use Rattle.std.proofs.Common.{◌≡◌, ◌+◌, ◌%◌, ◌^◌, ℕ, List, [], ◌∷◌, ap, ◌∙◌, refl, arith, get_or}
use Rattle.std.proofs.lemmas.Simd.{get_or-zip2, length-zip2}
use Rattle.lane_walk.proofs.Landing.{each_of_four}
use Rattle.lane_walk.proofs.walks.places_on.Goals as goal

pub returns-clause-len : goal.returns-clause-len
returns-clause-len c = length-zip2 _ c.args.ats (1 ∷ 1 ∷ 1 ∷ 1 ∷ []) c.fits-ats.0 ∙ c.fits-ats.0

pub returns-clause-places : goal.returns-clause-places
returns-clause-places c k within =
    let ones : List ℕ = 1 ∷ 1 ∷ 1 ∷ 1 ∷ [] in
    get_or-zip2 _ c.args.ats ones k 0 0 0 (omega (arith, within, c.fits-ats.0)) within
    ∙ ap (λ (n : ℕ). (get_or c.args.ats k 0 + n) % 2 ^ 32)
    (each_of_four (λ j. get_or ones j 0 ≡ 1) refl refl refl refl k within)
