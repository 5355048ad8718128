-- The words of a generator, one more at a time and in two parts.
use Rattle.std.proofs.Common.{◌≡◌, ℕ, zero, suc, ◌+◌, [], ◌∷◌, ◌++◌, refl, ap, ◌∙◌, arith}
use Rattle.std.proofs.lemmas.List.FromFn.{map-range_with_len_more}
use Rattle.rand_pcg.specs.Lcg.{Lcg, next, next_state, state_after}
use Rattle.rand_pcg.specs.Pcg.{multiplier_64}
use Rattle.workload_gen.specs.Draws.{after_words, word_at, words_of}

-- the state after two numbers of steps, one after the other
pub state_after_both : (w m p a b s : ℕ) → state_after w m p b (state_after w m p a s) ≡ state_after w m p (a + b) s
unfolding state_after
state_after_both w m p zero b s = let same : b ≡ zero + b = omega arith in ap (λ n. state_after w m p n s) same
state_after_both w m p (suc a) b s =
    let same : suc (a + b) ≡ suc a + b = omega arith in
    state_after_both w m p a b (next_state w m p s) ∙ ap (λ n. state_after w m p n s) same

-- the generator after two numbers of words, one after the other
pub after_both : (a b : ℕ) (generator : Lcg) →
    after_words b (after_words a generator) ≡ after_words (a + b) generator
after_both a b generator =
    ap (λ s. record generator { state = s })
    (state_after_both 64 multiplier_64 generator.increment a b generator.state)

-- one more word
pub words_more : (count : ℕ) (generator : Lcg) →
    words_of (count + 1) generator ≡ words_of count generator ++ word_at generator count ∷ []
words_more count generator = map-range_with_len_more (word_at generator) 0 count count (omega arith)

-- the generator after one more word
pub after_more : (count : ℕ) (generator : Lcg) →
    next 64 multiplier_64 (after_words count generator) ≡ after_words (count + 1) generator
unfolding state_after
after_more count generator = after_both count 1 generator

-- before any word
pub after_none : (generator : Lcg) → generator ≡ after_words 0 generator
unfolding state_after
after_none generator = refl
