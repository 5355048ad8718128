-- Keys that a generator gives, one more at a time.
use Rattle.std.proofs.Common.{◌≡◌, ℕ, ◌+◌, ◌*◌, List, [], ◌∷◌, ◌++◌, refl, ap, ◌∙◌, arith, length}
use Rattle.std.proofs.Common.{append-nil}
use Rattle.std.specs.Prelude.{flat_map}
use Rattle.std.specs.List.{concat, range_with_len}
use Rattle.std.proofs.lemmas.List.Folds.{concat-append}
use Rattle.std.proofs.lemmas.List.FromFn.{map-range_with_len_more, length-map-range_with_len}
use Rattle.std.proofs.lemmas.Grind.{flat_map-append}
use Rattle.rand_pcg.specs.Lcg.{Lcg, state_after}
use Rattle.rand_pcg.specs.Pcg.{multiplier_64}
use Rattle.rule_set.specs.Rule.{RuleView, RuleSetView}
use Rattle.workload_gen.specs.declared.packet.TheConstants.{KEY_LEN, KEY_WORDS}
use Rattle.workload_gen.specs.Draws.{after_words, words_of}
use Rattle.workload_gen.specs.Packet.{key_of_words}
use Rattle.workload_gen.specs.Workload.{key_at, keys_of}
use Rattle.workload_gen.proofs.Offered.{state_after_both}
use Rattle.bench_command.specs.Bench.{verdicts_on_key, verdicts_on_keys}
use Rattle.bench_command.proofs.KeyBytes.{AreOf, AreOf-map}

-- the key after so many others
abbrev pub next_key : List RuleView → Lcg → ℕ → List ℕ
next_key rules generator place = key_of_words rules (words_of KEY_WORDS (after_words (KEY_WORDS * place) generator))

-- before the first key
pub state-none : (generator : Lcg) → generator ≡ after_words (KEY_WORDS * 0) generator
unfolding state_after
state-none generator = refl

-- the generator after one more key
pub state-more : (place : ℕ) (generator : Lcg) →
    after_words KEY_WORDS (after_words (KEY_WORDS * place) generator)
    ≡ after_words (KEY_WORDS * (place + 1)) generator
state-more place generator =
    let same : KEY_WORDS * place + KEY_WORDS ≡ KEY_WORDS * (place + 1) = omega arith in
    ap (λ s. record generator { state = s })
    (state_after_both 64 multiplier_64 generator.increment (KEY_WORDS * place) KEY_WORDS generator.state)
    ∙ ap (λ n. after_words n generator) same

-- one more key is drawn after the others
pub keys-more : (rules : List RuleView) (generator : Lcg) (place : ℕ) →
    keys_of rules generator (place + 1) ≡ keys_of rules generator place ++ next_key rules generator place ∷ []
keys-more rules generator place = map-range_with_len_more (key_at rules generator) 0 place place (omega arith)

-- the bytes of one more key come after those of the others
pub bytes-more : (rules : List RuleView) (generator : Lcg) (place : ℕ) →
    concat (keys_of rules generator (place + 1))
    ≡ concat (keys_of rules generator place) ++ next_key rules generator place
bytes-more rules generator place =
    ap concat (keys-more rules generator place)
    ∙ concat-append (keys_of rules generator place) (next_key rules generator place ∷ [])
    ∙ ap (λ bytes. concat (keys_of rules generator place) ++ bytes) (append-nil (next_key rules generator place))

-- the verdicts of one more key come after those of the others
pub verdicts-more : (set : RuleSetView) (count : ℕ) (rules : List RuleView) (generator : Lcg) (place : ℕ) →
    verdicts_on_keys set count (keys_of rules generator (place + 1))
    ≡ verdicts_on_keys set count (keys_of rules generator place)
    ++ verdicts_on_key set count (next_key rules generator place)
verdicts-more set count rules generator place =
    ap (flat_map (verdicts_on_key set count)) (keys-more rules generator place)
    ∙ flat_map-append (verdicts_on_key set count) (keys_of rules generator place)
    (next_key rules generator place ∷ [])
    ∙ ap (λ vs. verdicts_on_keys set count (keys_of rules generator place) ++ vs)
    (append-nil (verdicts_on_key set count (next_key rules generator place)))

-- as many keys are drawn as are asked for
pub length-keys : (rules : List RuleView) (generator : Lcg) (count : ℕ) → length (keys_of rules generator count)
    ≡ count
length-keys rules generator count = length-map-range_with_len (key_at rules generator) 0 count

-- a key has 13 bytes
length-key : (rules : List RuleView) (words : List ℕ) → length (key_of_words rules words) ≡ KEY_LEN
length-key rules words = refl

-- each key that is drawn has as many bytes as a key has
pub keys_are_whole : (rules : List RuleView) (generator : Lcg) (count : ℕ) →
    AreOf KEY_LEN (keys_of rules generator count)
keys_are_whole rules generator count =
    AreOf-map KEY_LEN (key_at rules generator)
    (λ place. length-key rules (words_of KEY_WORDS (after_words (KEY_WORDS * place) generator)))
    (range_with_len 0 count)
