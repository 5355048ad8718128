-- How many transitions `bench` takes, said by itself: those of the drawn keys, and at most one for
-- each trie and byte of a key.
use Rattle.std.specs.Prelude.{◌≡◌, ℕ, ◌+◌, ◌≤◌, List, Ok}
use Rattle.command_words.specs.BenchWords.{BenchNumbers}
use Rattle.command_words.specs.Command.{Bench, command}
use Rattle.bench_command.specs.Bench.{most_drawn, transitions_drawn}
use Rattle.command_ending.specs.declared.status.Status.{Status}
use Rattle.command_ending.specs.declared.status.Status.TheVariants.{Done}

-- Wherever `bench` ends with Done, the counter rose by the transitions of the drawn keys, of which
-- each takes at most one for each trie and byte.
abbrev pub BenchWalks : List (List ℕ) → Status → ℕ → ℕ → Type 0
BenchWalks words status steps_old steps_new =
    (numbers : BenchNumbers) → command words ≡ Ok (Bench numbers) → status ≡ Done →
    (steps_new ≡ steps_old + transitions_drawn numbers)
    × (steps_new ≤ steps_old + most_drawn numbers)
