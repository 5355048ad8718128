-- What verdicts and dashes say together of a packet, from category 0 on.
use Rattle.std.specs.Prelude.{ℕ, List, map, Bool, Option, Some, None, if◌then◌else◌}
use Rattle.std.specs.List.{zip}

-- a verdict, or none where a dash stands for it
abbrev pub answer : ℕ → Bool → Option ℕ
answer verdict dash = if dash then None else Some verdict

-- the verdicts, and none where a dash stands
abbrev pub answers : List ℕ → List Bool → List (Option ℕ)
answers verdicts dashes = map (λ pair. answer pair.0 pair.1) (zip verdicts dashes)
