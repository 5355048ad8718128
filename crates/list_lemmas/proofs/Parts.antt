-- Parts of lists: what stands before a place and after it, and parts that are written over others.
use Rattle.std.proofs.Common.{length-append, length-take, length-drop, ◌*◌, ◌≡◌, ℕ, suc, ◌+◌, ◌-◌, ◌<◌, ◌≤◌, List, []}
use Rattle.std.proofs.Common.{◌∷◌, ◌++◌, length, take, drop}
use Rattle.std.proofs.Common.{get_or, slice_set, refl, sym, ap, ◌∙◌, arith, append_assoc}
use Rattle.std.proofs.Math.ListN.{set}
use Rattle.std.proofs.Math.Seq.{take-add, take-append_seam, drop-append_seam}
use Rattle.std.specs.List.{remove}
use Rattle.std.proofs.lemmas.List.{take_at, drop_at, take_more_set, drop-drop, drop_more, take-append-drop}
use borrow.Rule.Slice.PartMut.{put_mid}

-- what is equal from a place on is so from any later place on
pub drop_later : {X : Type 0} (xs ys : List X) (n m : ℕ) → drop n xs ≡ drop n ys → n ≤ m → drop m xs ≡ drop m ys
drop_later xs ys n m same later =
    let whole : n + (m - n) ≡ m = omega arith in
    ap (λ k. drop k xs) (sym whole) ∙ sym (drop-drop (m - n) n xs) ∙ ap (drop (m - n)) same ∙ drop-drop (m - n) n ys
    ∙ ap (λ k. drop k ys) whole

-- a list is what stands before an element, the element, and what stands after it
pub list_around : {X : Type 0} (x : X) (place : ℕ) (xs : List X) (d : X) → place < length xs → get_or xs place d ≡ x →
    take place xs ++ x ∷ drop (place + 1) xs ≡ xs
list_around x place xs d inside here =
    ap (λ y. take place xs ++ y ∷ drop (place + 1) xs) (sym here)
    ∙ ap (λ rest. take place xs ++ rest) (sym (drop_more xs place d inside)) ∙ take-append-drop place xs

-- a part of a list, in two halves
pub take-both : {X : Type 0} (n at : ℕ) (xs : List X) →
    take (n + n) (drop at xs) ≡ take n (drop at xs) ++ take n (drop (at + n) xs)
take-both n at xs = take-add n n (drop at xs) ∙ ap (λ rest. take n (drop at xs) ++ take n rest) (drop-drop n at xs)

-- a part that is written directly after others follows them, and takes the place of as many elements
pub put_mid-after : (front old part : List ℕ) (at size : ℕ) → length front ≡ at →
    put_mid at size (front ++ old) part ≡ front ++ (part ++ drop size old)
put_mid-after front old part at size h = rw (take_at front old at h, drop_at front old at h) refl

-- an element and two parts, written one after the other over a list
pub put_mid-in_turn : (n m : ℕ) (old second third : List ℕ) (first : ℕ) → 0 < length old → length second ≡ n →
    put_mid (1 + n) m (put_mid 1 n (slice_set old 0 first) second) third
    ≡ (first ∷ second ++ third) ++ drop (1 + n + m) old
put_mid-in_turn n m [] second third first some is = absurd (omega arith)
put_mid-in_turn n m (x ∷ xs) second third first some is =
    let one = put_mid-after (first ∷ []) xs second 1 n refl in
    let two = put_mid-after (first ∷ second) (drop n xs) third (1 + n) m (omega (arith, is)) in
    let far : 1 + n + m ≡ suc (n + m) = omega arith in
    ap (λ (l : List ℕ). put_mid (1 + n) m l third) one ∙ two
    ∙ rw (far, drop-drop m n xs) (sym (append_assoc (first ∷ second) third (drop (n + m) xs)))

-- an element that is written at its place, after the elements before it
pub set_last : {X : Type 0} (xs : List X) (place : ℕ) (x : X) (before : List X) → place < length xs →
    take place xs ≡ before → take (place + 1) (set xs place x) ≡ before ++ x ∷ []
set_last xs place x before inside is = take_more_set xs place x inside ∙ ap (λ front. front ++ x ∷ []) is

-- two lists of a bounded length, one after the other
pub length-append-le : {X : Type 0} (first second : List X) (n m : ℕ) → length first ≤ n → length second ≤ m →
    length (first ++ second) ≤ n + m
length-append-le first second n m one other = omega (arith, length-append first second)

-- two elements in the place of one that was taken out
pub two_for_one : {X : Type 0} (xs : List X) (place : ℕ) (one other : X) → place < length xs →
    take place (remove xs place) ++ one ∷ other ∷ drop place (remove xs place)
    ≡ take place xs ++ one ∷ other ∷ drop (place + 1) xs
two_for_one xs place one other within =
    let before = take place xs in
    let after = drop (suc place) xs in
    let long : place ≡ length before = omega (arith, length-take place xs) in
    let next : suc place ≡ place + 1 = omega arith in
    (λ i. (ap (λ n. take n (before ++ after)) long ∙ take-append_seam before after) i
    ++ one ∷ other ∷ (ap (λ n. drop n (before ++ after)) long ∙ drop-append_seam before after) i)
    ∙ ap (λ n. before ++ one ∷ other ∷ drop n xs) next

-- a part of m pieces of the same width
pub part_len : {X : Type 0} (xs : List X) (k m width : ℕ) → (k + m) * width ≤ length xs →
    length (take ((k + m) * width - k * width) (drop (k * width) xs)) ≡ m * width
part_len {X = X} xs k m width fits =
    omega (arith, fits, length-take ((k + m) * width - k * width) (drop (k * width) xs), length-drop (k * width) xs)
