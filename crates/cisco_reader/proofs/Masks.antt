-- Addresses under a mask by how many bits are left, where there are some.
use Rattle.std.proofs.Common.{◌≡◌, ℕ, zero, suc, ◌+◌, ◌-◌, ◌^◌, ◌<◌, [], ◌∷◌, ◌++◌, true, false, refl, arith, subst}
use Rattle.std.proofs.Common.{bit_or}
use Rattle.cisco_reader.specs.Wildcard.{counts, gaps, is_free, ones, spans_from}

-- ---- spans

-- no bit is left
pub spans_none : (base free : ℕ) → spans_from 0 base free ≡ record { low = base; high = base } ∷ []
unfolding spans_from
spans_none base free = refl

-- none of the bits that are left counts
pub spans_whole : (bits base free : ℕ) → 0 < bits → is_free bits free ≡ true →
    spans_from bits base free ≡ record { low = base; high = bit_or base (ones bits) } ∷ []
unfolding spans_from
spans_whole zero base free some all = absurd (omega (arith, some))
spans_whole (suc bits) base free some all = rw all refl

-- the first of them counts
pub spans_one : (bits base free : ℕ) → 0 < bits → is_free bits free ≡ false → counts (bits - 1) free ≡ true →
    spans_from bits base free ≡ spans_from (bits - 1) base free
unfolding spans_from
spans_one zero base free some part first = absurd (omega (arith, some))
spans_one (suc bits) base free some part first =
    let e : suc bits - 1 ≡ bits = omega arith in
    let here : counts bits free ≡ true = subst (λ n. counts n free ≡ true) e first in
    rw (part, here, e) refl

-- or doesn't
pub spans_both : (bits base free : ℕ) → 0 < bits → is_free bits free ≡ false → counts (bits - 1) free ≡ false →
    spans_from bits base free
    ≡ spans_from (bits - 1) base free ++ spans_from (bits - 1) (bit_or base (2 ^ (bits - 1))) free
unfolding spans_from
spans_both zero base free some part first = absurd (omega (arith, some))
spans_both (suc bits) base free some part first =
    let e : suc bits - 1 ≡ bits = omega arith in
    let here : counts bits free ≡ false = subst (λ n. counts n free ≡ false) e first in
    rw (part, here, e) refl

-- ---- gaps

-- no bit is left
pub gaps_none : (free : ℕ) → gaps 0 free ≡ 0
unfolding gaps
gaps_none free = refl

-- none of the bits that are left counts
pub gaps_whole : (bits free : ℕ) → is_free bits free ≡ true → gaps bits free ≡ 0
unfolding gaps
gaps_whole zero free all = refl
gaps_whole (suc bits) free all = rw all refl

-- the first of them counts
pub gaps_one : (bits free : ℕ) → 0 < bits → is_free bits free ≡ false → counts (bits - 1) free ≡ true →
    gaps bits free ≡ gaps (bits - 1) free
unfolding gaps
gaps_one zero free some part first = absurd (omega (arith, some))
gaps_one (suc bits) free some part first =
    let e : suc bits - 1 ≡ bits = omega arith in
    let here : counts bits free ≡ true = subst (λ n. counts n free ≡ true) e first in
    rw (part, here, e) refl

-- or doesn't
pub gaps_both : (bits free : ℕ) → 0 < bits → is_free bits free ≡ false → counts (bits - 1) free ≡ false →
    gaps bits free ≡ gaps (bits - 1) free + 1
unfolding gaps
gaps_both zero free some part first = absurd (omega (arith, some))
gaps_both (suc bits) free some part first =
    let e : suc bits - 1 ≡ bits = omega arith in
    let here : counts bits free ≡ false = subst (λ n. counts n free ≡ false) e first in
    rw (part, here, e) refl
