use Rattle.std.proofs.Common.{◌≡◌, ℕ, ◌<◌, ◌==◌, get_or, false}
use Rattle.rule_split.proofs.divide.place_of.Given as goal

-- none of the numbers so far is it
abbrev pub invariant-loop-place : goal.invariant-loop-place
invariant-loop-place l = (k : ℕ) → k < l.place → (get_or l.numbers k 0 == l.most) ≡ false
