-- The words of a seed's generator (O'Neill, "PCG: A Family of Simple Fast Space-Efficient
-- Statistically Good Algorithms for Random Number Generation": XSH RR on 64 bits of state, with
-- words of 32 bits).
use Rattle.std.specs.Prelude.{ℕ, List, map}
use Rattle.std.specs.List.{range_with_len}
use Rattle.rand_pcg.specs.Lcg.{Lcg, advance, increment_of, started}
use Rattle.rand_pcg.specs.Pcg.{multiplier_64, pcg32}

-- the stream of all workloads, which is that of PCG's own examples
abbrev pub stream : ℕ
stream = 54

-- the generator of a seed, before its first word
abbrev pub seeded : ℕ → Lcg
seeded seed = started 64 multiplier_64 seed (increment_of 64 stream)

-- a generator after so many words
abbrev pub after_words : ℕ → Lcg → Lcg
after_words count generator = advance 64 multiplier_64 count generator

-- the word at a place, from 0, of all that a generator gives
abbrev pub word_at : Lcg → ℕ → ℕ
word_at generator place = (pcg32 (after_words place generator)).0

-- the next words of a generator
abbrev pub words_of : ℕ → Lcg → List ℕ
words_of count generator = map (word_at generator) (range_with_len 0 count)
