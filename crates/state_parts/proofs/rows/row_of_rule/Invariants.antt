use Rattle.std.proofs.Common.{◌≡◌, length, ℕ, ◌<◌, ◌≤◌, get_or, ◌/◌, ◌%◌, ◌^◌, ◌==◌, cond}
use Rattle.state_parts.proofs.rows.row_of_rule.Given as goal

abbrev pub invariant-loop-category : goal.invariant-loop-category
invariant-loop-category l =
    (length l.row ≡ 16)
    × ((c : ℕ) → c < l.category → get_or l.row c 0 ≡ cond (l.rule.mask / 2 ^ c % 2 == 1) l.rule.rank 0)
    × ((c : ℕ) → l.category ≤ c → get_or l.row c 0 ≡ 0)
