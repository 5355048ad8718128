-- One lane of vectors that are made of others, lane by lane.
use Rattle.std.proofs.Common.{◌≡◌, ℕ, zero, suc, ◌+◌, ◌-◌, ◌*◌, ◌/◌, ◌%◌, ◌^◌, ◌<◌, List, [], ◌∷◌, sym, ap, ◌∙◌, arith, length}
use Rattle.std.proofs.Common.{get_or, map, cond, Bool, false, refl}
use Rattle.std.specs.Prelude.{replicate}
use Rattle.std.specs.Simd.Lanes.{zip2, sel_l, top, products, pair_sums, dots, Each1}
use Rattle.std.proofs.lemmas.List.{get_or-replicate, length-replicate}
use Rattle.std.proofs.lemmas.Simd.{tops_compared, length-sel_l, get_or-sel_l, get_or-zip2, length-zip2, Each1-get_or}
use mir.Syntax.{Width}
use mir.Val.{bits, hbits, Fits}

-- a vector of n lanes, and what lane i has
pub record Lane (n i : ℕ) (xs : List ℕ) (x : ℕ) : Type 0 where
  pub len : length xs ≡ n
  pub at : get_or xs i 0 ≡ x

-- a vector as it is
pub lane_of : {n : ℕ} {xs : List ℕ} → length xs ≡ n → (i : ℕ) → Lane n i xs (get_or xs i 0)
lane_of len i = record { len = len; at = refl }

module _ {n i : ℕ} (within : i < n) where
  -- a lane of a vector of one number has the number
  pub splat : (x : ℕ) → Lane n i (replicate n x) x
  splat x = record { len = length-replicate n x; at = get_or-replicate n i x 0 within }

  -- a lane of two vectors that are combined has what the two lanes come to
  pub zipped : (f : ℕ → ℕ → ℕ) {xs ys : List ℕ} {x y : ℕ} → Lane n i xs x → Lane n i ys y →
      Lane n i (zip2 f xs ys) (f x y)
  zipped f {xs = xs} {ys = ys} a b = record {
    len = length-zip2 f xs ys (a.len ∙ sym b.len) ∙ a.len;
    at = get_or-zip2 f xs ys i 0 0 0 (omega (arith, within, a.len)) (omega (arith, within, b.len))
        ∙ (λ j. f (a.at j) (b.at j));
  }

  -- a choice between two vectors by a comparison of two
  pub chosen : (w : Width) (t : ℕ → ℕ → Bool) {xs ys ps qs : List ℕ} {x y a b : ℕ} → Lane n i xs x → Lane n i ys y →
      Lane n i ps a → Lane n i qs b →
      Lane n i (sel_l (map (top (hbits w)) (zip2 (λ c d. cond (t c d) (2 ^ bits w - 1) 0) xs ys)) ps qs)
      (cond (t x y) a b)
  chosen width t {xs = xs} {ys = ys} {ps = ps} {qs = qs} {a = a} {b = b} v w p q =
      let lanes : List Bool = zip2 t xs ys in
      let count : length lanes ≡ n = length-zip2 t xs ys (v.len ∙ sym w.len) ∙ v.len in
      let same = tops_compared width t xs ys in
      record {
        len = ap (λ (ms : List Bool). length (sel_l ms ps qs)) same
            ∙ length-sel_l lanes ps qs (count ∙ sym p.len) (count ∙ sym q.len) ∙ count;
        at = ap (λ (ms : List Bool). get_or (sel_l ms ps qs) i 0) same
            ∙ get_or-sel_l lanes ps qs i 0 (omega (arith, within, count)) (omega (arith, within, p.len))
            (omega (arith, within, q.len))
            ∙ (λ j. cond
            (get_or-zip2 t xs ys i 0 0 false (omega (arith, within, v.len)) (omega (arith, within, w.len)) j)
            (p.at j) (q.at j))
            ∙ (λ j. cond (t (v.at j) (w.at j)) a b);
      }

-- ---- sums of four neighbours

-- the sum at a place is that of the pair of elements there
pair_at : (xs : List ℕ) (i : ℕ) → 2 * i + 1 < length xs →
    get_or (pair_sums xs) i 0 ≡ get_or xs (2 * i) 0 + get_or xs (2 * i + 1) 0
pair_at [] i within = absurd (omega (arith, within))
pair_at (x ∷ []) i within = absurd (omega (arith, within))
pair_at (x ∷ y ∷ xs) zero within = refl
pair_at (x ∷ y ∷ xs) (suc i) within =
    let first : 2 * suc i ≡ suc (suc (2 * i)) = omega arith in
    let second : 2 * suc i + 1 ≡ suc (suc (2 * i + 1)) = omega arith in
    pair_at xs i (omega (arith, within))
    ∙ (λ j. get_or (x ∷ y ∷ xs) (sym first j) 0 + get_or (x ∷ y ∷ xs) (sym second j) 0)

-- there are half as many sums as elements
pair_sums_len : (n : ℕ) (xs : List ℕ) → length xs ≡ 2 * n → length (pair_sums xs) ≡ n
pair_sums_len zero [] len = refl
pair_sums_len zero (x ∷ xs) len = absurd (omega (arith, len))
pair_sums_len (suc n) [] len = absurd (omega (arith, len))
pair_sums_len (suc n) (x ∷ []) len = absurd (omega (arith, len))
pair_sums_len (suc n) (x ∷ y ∷ xs) len = ap suc (pair_sums_len n xs (omega (arith, len)))

-- of products with ones
module _ (n : ℕ) (xs : List ℕ) (len : length xs ≡ 4 * n) where
  -- a product with 1 is the number
  product_at : (k : ℕ) → k < 4 * n → get_or (products xs (replicate (4 * n) 1)) k 0 ≡ get_or xs k 0
  product_at k within =
      (zipped within (λ x y. x * y) (lane_of len k) (splat within 1)).at ∙ omega arith

  -- a lane of the sums is the sum of its four bytes
  pub dot_at : (i : ℕ) → i < n → get_or (dots xs (replicate (4 * n) 1)) i 0
      ≡ get_or xs (4 * i) 0 + get_or xs (4 * i + 1) 0 + get_or xs (4 * i + 2) 0 + get_or xs (4 * i + 3) 0
  dot_at i within =
      let all : List ℕ = products xs (replicate (4 * n) 1) in
      let long : length all ≡ 4 * n = length-zip2 (λ x y. x * y) xs (replicate (4 * n) 1)
      (len ∙ sym (length-replicate (4 * n) 1)) ∙ len in
      let halves : length (pair_sums all) ≡ 2 * n = pair_sums_len (2 * n) all (omega (arith, long)) in
      let left = pair_at all (2 * i) (omega (arith, within, long)) in
      let right = pair_at all (2 * i + 1) (omega (arith, within, long)) in
      let a : 2 * (2 * i) ≡ 4 * i = omega arith in
      let b : 2 * (2 * i) + 1 ≡ 4 * i + 1 = omega arith in
      let c : 2 * (2 * i + 1) ≡ 4 * i + 2 = omega arith in
      let d : 2 * (2 * i + 1) + 1 ≡ 4 * i + 3 = omega arith in
      let at = λ (k : ℕ). get_or all k 0 in
      omega (
        arith,
        pair_at (pair_sums all) i (omega (arith, within, halves)),
        left,
        right,
        ap at a,
        ap at b,
        ap at c,
        ap at d,
        product_at (4 * i) (omega (arith, within)),
        product_at (4 * i + 1) (omega (arith, within)),
        product_at (4 * i + 2) (omega (arith, within)),
        product_at (4 * i + 3) (omega (arith, within)),
      )

-- each lane is below the numbers of its width
pub lane_fits : (w : Width) {n i : ℕ} (xs : List ℕ) → (length xs ≡ n) × Each1 (Fits w) xs → i < n →
    get_or xs i 0 < 2 ^ bits w
lane_fits w {i = i} xs fits within =
    (Each1-get_or (Fits w) xs i 0 (omega (arith, within, fits.0)) fits.1).fits

-- the first of a group of four bytes stands at its place
pub first_of_group : (xs : List ℕ) {x : ℕ} (i : ℕ) → get_or xs (4 * i + 0) 0 ≡ x → get_or xs (4 * i) 0 ≡ x
first_of_group xs i is = let at : 4 * i ≡ 4 * i + 0 = omega arith in ap (λ (n : ℕ). get_or xs n 0) at ∙ is

-- a byte alone is the first of its group
pub byte_alone : {number : ℕ} (xs : List ℕ) (at at' k : ℕ) → k < 1 → number ≡ get_or xs at 0 → get_or xs at 0 < 256 →
    at + k ≡ at' → number / 256 ^ k % 256 ≡ get_or xs at' 0
byte_alone xs at at' zero h is small same =
    let here : at + 0 ≡ at = omega arith in
    omega (arith, is, small, ap (λ (n : ℕ). get_or xs n 0) (sym here ∙ same))
byte_alone xs at at' (suc k) h is small same = absurd (omega (arith, h))

-- the places of a byte in four groups, from those of their first bytes
abbrev pub byte_places : List ℕ → ℕ → List ℕ
byte_places firsts place = zip2 (λ x y. (x + y) % 256) firsts (replicate 16 place)

module _ (firsts : List ℕ) (place : ℕ) (len : length firsts ≡ 16)
    (are : (i k : ℕ) → i < 4 → k < 4 → get_or firsts (4 * i + k) 0 ≡ 4 * i) (small : place < 4) where
  -- there are sixteen places
  pub byte_places_len : length (byte_places firsts place) ≡ 16
  byte_places_len = length-zip2 (λ x y. (x + y) % 256) firsts (replicate 16 place)
      (len ∙ sym (length-replicate 16 place)) ∙ len

  -- each place is that of the byte in its group
  pub byte_place : (m : ℕ) → m < 16 → get_or (byte_places firsts place) m 0 ≡ 4 * (m / 4) + place
  byte_place m within =
      let at : m ≡ 4 * (m / 4) + m % 4 = omega arith in
      let first : get_or firsts m 0 ≡ 4 * (m / 4) = ap (λ (n : ℕ). get_or firsts n 0) at
      ∙ are (m / 4) (m % 4) (omega (arith, within)) (omega arith) in
      (zipped within (λ x y. (x + y) % 256) (lane_of len m) (splat within place)).at
      ∙ omega (arith, first, within, small)

-- what holds of four lanes holds of each
pub each_of_four : (P : ℕ → Type 0) → P 0 → P 1 → P 2 → P 3 → (i : ℕ) → i < 4 → P i
each_of_four P first second third fourth zero h = first
each_of_four P first second third fourth (suc zero) h = second
each_of_four P first second third fourth (suc (suc zero)) h = third
each_of_four P first second third fourth (suc (suc (suc zero))) h = fourth
each_of_four P first second third fourth (suc (suc (suc (suc i)))) h = absurd (omega (arith, h))
