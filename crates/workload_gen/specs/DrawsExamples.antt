-- Examples of the words of a seed, each checked by evaluation.
use Rattle.std.specs.Prelude.{◌≡◌, [], ◌∷◌, refl}
use Rattle.rand_pcg.specs.Lcg.{state_after}
use Rattle.workload_gen.specs.Draws.{seeded, words_of, after_words}

-- the first six words that the demo of PCG's C library prints, which has this seed and this stream
first_six_of_42 : words_of 6 (seeded 42)
    ≡ 0xa15c02b7 ∷ 0x7b47f409 ∷ 0xba1d3330 ∷ 0x83d2f293 ∷ 0xbfa4784b ∷ 0xcbed606e ∷ []
unfolding state_after
first_six_of_42 = refl

-- the words after the first two
after_two : words_of 2 (after_words 2 (seeded 42)) ≡ 0xba1d3330 ∷ 0x83d2f293 ∷ []
unfolding state_after
after_two = refl
