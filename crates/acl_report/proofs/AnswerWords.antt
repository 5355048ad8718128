-- The words of the answers, one more at a time.
use Rattle.std.proofs.Common.{◌≡◌, ℕ, ◌+◌, ◌<◌, ◌≤◌, List, [], ◌∷◌, ◌++◌, Bool, false, length, get_or, map, take, zero}
use Rattle.std.proofs.Common.{suc, add-one, refl, arith, sym, ap, ◌∙◌}
use Rattle.std.proofs.lemmas.List.{map-append, take_all, flat_map_more}
use Rattle.acl_report.specs.Line.{space, spaced}
use Rattle.acl_report.specs.Packet.{answer_word}
use Rattle.acl_report.specs.Verdicts.{answer, answers}

-- there is an answer for each verdict, if there is a dash for each
answers_len : (verdicts : List ℕ) (dashes : List Bool) → length dashes ≡ length verdicts →
    length (answers verdicts dashes) ≡ length verdicts
answers_len [] dashes same = refl
answers_len (v ∷ vs) [] same = absurd (omega (arith, same))
answers_len (v ∷ vs) (d ∷ ds) same = ap suc (answers_len vs ds (omega (arith, same)))

-- one more of the answers, after those before it
answers_more : (verdicts : List ℕ) (dashes : List Bool) (n : ℕ) → n < length verdicts →
    length dashes ≡ length verdicts →
    take (suc n) (answers verdicts dashes)
    ≡ take n (answers verdicts dashes) ++ answer (get_or verdicts n 0) (get_or dashes n false) ∷ []
answers_more [] dashes n below same = absurd (omega (arith, below))
answers_more (v ∷ vs) [] n below same = absurd (omega (arith, same))
answers_more (v ∷ vs) (d ∷ ds) zero below same = refl
answers_more (v ∷ vs) (d ∷ ds) (suc n) below same =
    ap (λ l. answer v d ∷ l) (answers_more vs ds n (omega (arith, below)) (omega (arith, same)))

-- what is written so far, and one more word after it
pub words_more : (before verdicts : List ℕ) (dashes : List Bool) (n : ℕ) → n < length verdicts →
    length dashes ≡ length verdicts →
    (before ++ spaced (map answer_word (take n (answers verdicts dashes))))
    ++ space ∷ answer_word (answer (get_or verdicts n 0) (get_or dashes n false))
    ≡ before ++ spaced (map answer_word (take (n + 1) (answers verdicts dashes)))
words_more before verdicts dashes n below same =
    let all = answers verdicts dashes in
    let so_far = take n all in
    let one = answer (get_or verdicts n 0) (get_or dashes n false) in
    let more : take (n + 1) all ≡ so_far ++ one ∷ [] =
    ap (λ k. take k all) (add-one n) ∙ answers_more verdicts dashes n below same in
    flat_map_more (λ word. space ∷ word) before (map answer_word so_far) (answer_word one)
    ∙ ap (λ words. before ++ spaced words) (sym (map-append answer_word so_far (one ∷ [])))
    ∙ ap (λ shown. before ++ spaced (map answer_word shown)) (sym more)

-- all of the answers have been written after as many as there are verdicts
pub answers_all : (verdicts : List ℕ) (dashes : List Bool) (n : ℕ) → length verdicts ≤ n →
    length dashes ≡ length verdicts → take n (answers verdicts dashes) ≡ answers verdicts dashes
answers_all verdicts dashes n all same =
    take_all n (answers verdicts dashes) (omega (arith, all, answers_len verdicts dashes same))
