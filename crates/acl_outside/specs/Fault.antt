-- Counts of faults, by which the outside says that a failure was its own.
use Rattle.std.specs.Prelude.{ℕ, ◌+◌, ◌-◌, ◌^◌, ◌≤◌, min}

-- The count rose: it is greater now, or it stands at the last value that a counter of 64 bits can
-- show.
abbrev pub Rose : ℕ → ℕ → Type 0
Rose before now = min (before + 1) (2 ^ 64 - 1) ≤ now

-- the count after one more: it stands still at the last value that a counter of 64 bits can show
abbrev pub next_count : ℕ → ℕ
next_count count = min (count + 1) (2 ^ 64 - 1)
