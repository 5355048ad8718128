-- Tallies of verdicts that come one after the other.
use Rattle.std.proofs.Common.{◌≡◌, ℕ, ◌+◌, List, ◌++◌, cond, sym, ap, ◌∙◌, arith}
use Rattle.std.proofs.lemmas.List.Sums.{sum_by-append}
use Rattle.std.specs.Prelude.{count_by, sum}
use Rattle.list_lemmas.proofs.Sums.{sum-append}
use Rattle.bench_command.specs.declared.tally.Tally.{Tally}
use Rattle.bench_command.specs.Tally.{is_hit, tally_of, with_verdicts}

-- the hits of two lists are those of each
pub hits-append : (xs ys : List ℕ) → count_by is_hit (xs ++ ys) ≡ count_by is_hit xs + count_by is_hit ys
hits-append xs ys = sum_by-append (λ x. cond (is_hit x) 1 0) xs ys

-- some verdicts, and then others
pub with-append : (tally : Tally) (xs ys : List ℕ) →
    with_verdicts (with_verdicts tally xs) ys ≡ with_verdicts tally (xs ++ ys)
with-append tally xs ys =
    let hits : tally.hits + count_by is_hit xs + count_by is_hit ys ≡ tally.hits + count_by is_hit (xs ++ ys) =
    omega (arith, hits-append xs ys) in
    let total : tally.sum + sum xs + sum ys ≡ tally.sum + sum (xs ++ ys) = omega (arith, sum-append xs ys) in
    ap (λ n. record { hits = n; sum = tally.sum + sum xs + sum ys }) hits
    ∙ ap (λ n. record { hits = tally.hits + count_by is_hit (xs ++ ys); sum = n }) total

-- the verdicts of a tally, and then others
pub of-append : (xs ys : List ℕ) → with_verdicts (tally_of xs) ys ≡ tally_of (xs ++ ys)
of-append xs ys =
    ap (λ n. record { hits = n; sum = sum xs + sum ys }) (sym (hits-append xs ys))
    ∙ ap (λ n. record { hits = count_by is_hit (xs ++ ys); sum = n }) (sym (sum-append xs ys))
