-- What verdicts come to: how many of them aren't 0, and their sum.
use Rattle.std.specs.Prelude.{ℕ, ◌+◌, ◌*◌, ◌^◌, ◌<◌, ◌==◌, List, count_by, sum, Bool, not}
use Rattle.bench_command.specs.declared.tally.Tally.{Tally}

-- a verdict of a rule
abbrev pub is_hit : ℕ → Bool
is_hit verdict = not (verdict == 0)

-- a tally with these verdicts more
abbrev pub with_verdicts : Tally → List ℕ → Tally
with_verdicts tally verdicts = record {
  hits = tally.hits + count_by is_hit verdicts;
  sum = tally.sum + sum verdicts;
}

-- the tally of these verdicts
abbrev pub tally_of : List ℕ → Tally
tally_of verdicts = record { hits = count_by is_hit verdicts; sum = sum verdicts }

-- There is room for so many verdicts of 32 bits more.
pub record HasRoom (tally : Tally) (more : ℕ) : Type 0 where
  pub hits : tally.hits + more < 2 ^ 64
  pub sum : tally.sum + more * 2 ^ 32 < 2 ^ 64
