-- Each turn draws one more word.
use Rattle.std.proofs.Common.{◌≡◌, ℕ, [], ◌∷◌, ◌++◌, length-set, refl, sym, ap, ◌∙◌}
use Rattle.std.proofs.Common.{arith}
use Rattle.std.proofs.lemmas.List.{length-replicate, take_more_set, take_all}
use Rattle.rand_pcg.specs.Lcg.{next}
use Rattle.rand_pcg.specs.Pcg.{multiplier_64, pcg32}
use Rattle.workload_gen.specs.Draws.{word_at, words_of}
use Rattle.workload_gen.proofs.Words.{after_more, after_none, words_more}
use Rattle.workload_gen.proofs.draws.draw.Goals as goal

pub loop-word-init : goal.loop-word-init
loop-word-init g c = record { len = length-replicate g.row.N 0; words = refl; state = after_none c.args.generator.now }

pub loop-word-preserved : goal.loop-word-preserved
loop-word-preserved g c =
    let held = c.loop-word.invariant in
    let drawn = c.next_word.ensures in
    let place = c.loop-word.word-index in
    let first = c.args.generator.now in
    let word : c.next_word.result ≡ word_at first place = ap (λ p. p.0) drawn ∙ ap (λ h. (pcg32 h).0) held.state in
    record {
      len = omega (arith, held.len, length-set {A = ℕ});
      words =
          take_more_set c.loop-word.word-items place c.next_word.result (omega (arith, held.len))
          ∙ ap (λ words. words ++ c.next_word.result ∷ []) held.words
          ∙ ap (λ w. words_of place first ++ w ∷ []) word
          ∙ sym (words_more place first);
      state = ap (λ p. p.1) drawn ∙ ap (next 64 multiplier_64) held.state ∙ after_more place first;
    }

pub returns-clause-words : goal.returns-clause-words
returns-clause-words g c =
    let held = c.loop-word.invariant in
    let place = c.loop-word.word-index in
    let all : place ≡ g.row.N = omega arith in
    sym (take_all place c.loop-word.word-items (omega (arith, held.len))) ∙ held.words
    ∙ ap (λ n. words_of n c.args.generator.now) all
