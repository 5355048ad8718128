-- Marks that spread, step by step.
use Rattle.std.proofs.Common.{◌≡◌, ℕ, zero, suc, ◌+◌, ◌-◌, ◌<◌, ◌≤◌, Bool, List, refl, arith, ap, sym, ◌∙◌}
use Rattle.nft_reader.specs.Chains.{ListedChain}
use Rattle.nft_reader.specs.Starts.{spread, spread_on}

-- a step, and then the others
spread_first : (steps : ℕ) (chains : List ListedChain) (marks : List Bool) →
    spread_on (suc steps) chains marks ≡ spread_on steps chains (spread chains marks)
unfolding spread_on
spread_first steps chains marks = refl

-- none is left
spread_none : (chains : List ListedChain) (marks : List Bool) → spread_on zero chains marks ≡ marks
unfolding spread_on
spread_none chains marks = refl

-- the step of the turn
pub spread_more : (k : ℕ) (chains : List ListedChain) (marks more : List Bool) → k < 16 → more ≡ spread chains marks →
    spread_on (16 - k) chains marks ≡ spread_on (16 - (k + 1)) chains more
spread_more k chains marks more below is =
    let left : 16 - k ≡ suc (16 - (k + 1)) = omega (arith, below) in
    ap (λ steps. spread_on steps chains marks) left
    ∙ spread_first (16 - (k + 1)) chains marks
    ∙ ap (spread_on (16 - (k + 1)) chains) (sym is)

-- after the last one
pub spread_end : (k : ℕ) (chains : List ListedChain) (marks : List Bool) → 16 ≤ k →
    spread_on (16 - k) chains marks ≡ marks
spread_end k chains marks end =
    let left : 16 - k ≡ 0 = omega (arith, end) in
    ap (λ steps. spread_on steps chains marks) left ∙ spread_none chains marks
