use Rattle.std.proofs.Common.{◌≡◌, length, ℕ, ◌<◌, ◌≤◌, get_or, max}
use Rattle.state_parts.proofs.rows.join_rows.Given as goal

abbrev pub invariant-loop-category : goal.invariant-loop-category
invariant-loop-category l =
    (length l.row ≡ 16)
    × (length l.one ≡ 16)
    × (length l.other ≡ 16)
    × ((c : ℕ) → c < l.category → get_or l.row c 0 ≡ max (get_or l.one c 0) (get_or l.other c 0))
    × ((c : ℕ) → l.category ≤ c → get_or l.row c 0 ≡ get_or l.one c 0)
