-- Sums of a function over the numbers below one, and what it gives for them, piece by piece.
use Rattle.std.proofs.Common.{◌≡◌, ℕ, zero, suc, ◌+◌, ◌-◌, ◌*◌, ◌<◌, ◌≤◌, List, [], ◌∷◌, ◌++◌, refl, sym, ap, ◌∙◌, arith}
use Rattle.std.proofs.Common.{add-one, append_assoc, append-nil, drop, fold, length, length-append, take}
use Rattle.std.specs.Prelude.{flat_map}
use Rattle.std.specs.List.{range_with_len}
use Rattle.std.proofs.lemmas.Grind.{flat_map-append}
use Rattle.std.proofs.lemmas.List.{drop-drop, drop_all, drop_at, take_at}
use Rattle.std.proofs.lemmas.List.Sums.{fold-append}
use borrow.Rule.Slice.PartMut.{put_mid}
use Rattle.list_lemmas.proofs.Positions.{range-push}
use Rattle.scalar_walk.specs.Lanes.{sum_below, pieces_below}

-- the sum below 0 is 0
pub sum_none : (f : ℕ → ℕ) → sum_below f 0 ≡ 0
unfolding sum_below
sum_none f = refl

-- one more number adds what the function gives for it
pub sum_more : (f : ℕ → ℕ) (n : ℕ) → sum_below f (n + 1) ≡ sum_below f n + f n
unfolding sum_below
sum_more f n = ap (λ (k : ℕ). sum_below f k) (add-one n)

-- two functions that agree below a number have one sum there
pub sum_agree : (f g : ℕ → ℕ) (n : ℕ) → ((i : ℕ) → i < n → f i ≡ g i) → sum_below f n ≡ sum_below g n
unfolding sum_below
sum_agree f g zero same = refl
sum_agree f g (suc n) same =
    omega (arith, sum_agree f g n (λ i h. same i (omega (arith, h))), same n (omega arith))

-- a sum is that of the first numbers and that of those after them
pub sum_split : (f : ℕ → ℕ) (m n : ℕ) → sum_below f (m + n) ≡ sum_below f m + sum_below (λ i. f (m + i)) n
unfolding sum_below
sum_split f m zero = let none : m + 0 ≡ m = omega arith in omega (arith, ap (λ (k : ℕ). sum_below f k) none)
sum_split f m (suc n) =
    let next : m + suc n ≡ suc (m + n) = omega arith in
    omega (arith, ap (λ (k : ℕ). sum_below f k) next, sum_split f m n)

-- a function that gives 0 for each number has the sum 0
pub sum_zero : (f : ℕ → ℕ) (n : ℕ) → ((i : ℕ) → f i ≡ 0) → sum_below f n ≡ 0
unfolding sum_below
sum_zero f zero none = refl
sum_zero f (suc n) none = omega (arith, sum_zero f n none, none n)

-- that of two functions
pub sum_both : (f g : ℕ → ℕ) (n : ℕ) → sum_below (λ i. f i + g i) n ≡ sum_below f n + sum_below g n
unfolding sum_below
sum_both f g zero = refl
sum_both f g (suc n) = omega (arith, sum_both f g n)

-- as a fold
pub fold_is_sum : (f : ℕ → ℕ) (n : ℕ) → fold (λ total k. total + f k) 0 (range_with_len 0 n) ≡ sum_below f n
unfolding sum_below
fold_is_sum f zero = refl
fold_is_sum f (suc n) =
    let more : fold (λ total k. total + f k) 0 (range_with_len 0 (n + 1))
    ≡ fold (λ total k. total + f k) 0 (range_with_len 0 n) + f n =
    ap (λ (ks : List ℕ). fold (λ total k. total + f k) 0 ks) (range-push 0 n)
    ∙ fold-append (λ total k. total + f k) 0 (range_with_len 0 n) ((0 + n) ∷ [])
    ∙ ap (λ (j : ℕ). fold (λ total k. total + f k) 0 (range_with_len 0 n) + f j) (omega arith) in
    rw (add-one n) at more ∙ omega (arith, fold_is_sum f n)

-- ---- pieces that are written one after the other

-- what is written over an old list, up to a place
pub record WrittenTo {A : Type 0} (old : List A) (at : ℕ) (front out : List A) : Type 0 where
  pub is : out ≡ front ++ drop at old
  pub len : length front ≡ at

-- a piece that is written next
pub piece_put : {A : Type 0} {old front out : List A} {at : ℕ} → WrittenTo old at front out → (piece : List A)
    (end : ℕ) → end ≡ at + length piece → put_mid at (end - at) out piece ≡ (front ++ piece) ++ drop end old
piece_put {old = old} {front = front} {out = out} {at = at} w piece end e =
    let n : ℕ = end - at in
    let before : take at out ≡ front = ap (λ (xs : List _). take at xs) w.is ∙ take_at front (drop at old) at w.len in
    let after : drop at out ≡ drop at old = ap (λ (xs : List _). drop at xs) w.is
    ∙ drop_at front (drop at old) at w.len in
    let last : at + n ≡ end = omega (arith, e) in
    (λ i. before i ++ (piece ++ drop n (after i)))
    ∙ sym (append_assoc front piece (drop n (drop at old)))
    ∙ ap (λ (xs : List _). (front ++ piece) ++ xs) (drop-drop n at old ∙ ap (λ (k : ℕ). drop k old) last)

-- one more number adds its piece at the end
pieces_more : {A : Type 0} (f : ℕ → List A) (n : ℕ) → pieces_below f (n + 1) ≡ pieces_below f n ++ f n
unfolding pieces_below
pieces_more f n =
    ap (flat_map f) (range-push 0 n) ∙ flat_map-append f (range_with_len 0 n) ((0 + n) ∷ [])
    ∙ ap (λ (xs : List _). flat_map f (range_with_len 0 n) ++ xs) (append-nil (f (0 + n)) ∙ ap f (omega arith))

-- the pieces below a number are those of the range, one after the other
pub pieces_are : {A : Type 0} (f : ℕ → List A) (n : ℕ) → pieces_below f n ≡ flat_map f (range_with_len 0 n)
unfolding pieces_below
pieces_are f n = refl

-- two functions that agree below a number have the same pieces there
pub pieces_agree : {A : Type 0} (f g : ℕ → List A) (n : ℕ) → ((k : ℕ) → k < n → f k ≡ g k) →
    pieces_below f n ≡ pieces_below g n
unfolding pieces_below
pieces_agree f g zero same = refl
pieces_agree f g (suc n) same =
    let left : pieces_below f (suc n) ≡ pieces_below f n ++ f n = rw (add-one n) at (pieces_more f n) in
    let right : pieces_below g (suc n) ≡ pieces_below g n ++ g n = rw (add-one n) at (pieces_more g n) in
    left ∙ (λ i. pieces_agree f g n (λ k h. same k (omega (arith, h))) i ++ same n (omega arith) i) ∙ sym right

-- the first n pieces of a length are written
pub record PiecesTo {A : Type 0} (f : ℕ → List A) (count n : ℕ) (old out : List A) : Type 0 where
  pub is : out ≡ pieces_below f n ++ drop (n * count) old
  pub len : length (pieces_below f n) ≡ n * count

-- before the first piece is written all is as it was
pub pieces_none : {A : Type 0} (f : ℕ → List A) (count : ℕ) (old : List A) → PiecesTo f count 0 old old
unfolding pieces_below
pieces_none f count old = record {
  is = let none : 0 ≡ 0 * count = omega arith in ap (λ (n : ℕ). drop n old) none;
  len = omega arith;
}

-- one piece more
pub one_piece : {A : Type 0} {f : ℕ → List A} {count n : ℕ} {old out piece : List A} → PiecesTo f count n old out →
    piece ≡ f n → length (f n) ≡ count →
    PiecesTo f count (n + 1) old (put_mid (n * count) ((n + 1) * count - n * count) out piece)
one_piece {f = f} {count = count} {n = n} {old = old} {piece = piece} w piece_is len = record {
  is = piece_put record { is = w.is; len = w.len } piece ((n + 1) * count) (omega (arith, ap length piece_is, len))
      ∙ ap (λ (xs : List _). xs ++ drop ((n + 1) * count) old)
      (ap (λ (xs : List _). pieces_below f n ++ xs) piece_is ∙ sym (pieces_more f n));
  len = omega (arith, ap length (pieces_more f n), length-append (pieces_below f n) (f n), w.len, len);
}

-- all of them
pub all_pieces : {A : Type 0} {f : ℕ → List A} {count n m : ℕ} {old out : List A} → PiecesTo f count n old out →
    n ≡ m → length old ≡ m * count → out ≡ pieces_below f m
all_pieces {f = f} {count = count} {n = n} {m = m} {old = old} w all room =
    let past : length old ≤ n * count = omega (arith, room, ap (λ (k : ℕ). k * count) all) in
    w.is ∙ ap (λ (xs : List _). pieces_below f n ++ xs) (drop_all (n * count) old past)
    ∙ append-nil (pieces_below f n) ∙ ap (pieces_below f) all
