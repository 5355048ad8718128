-- Lanes that close ranks, and the rows that they write.
use Rattle.std.proofs.Common.{◌≡◌, ◌≢◌, ◌⊎◌, ℕ, ◌+◌, ◌<◌, ◌≤◌, List, refl, sym, ap, ◌∙◌, arith}
use Rattle.std.proofs.Common.{inl, inr, leb, ltb, length, length-set, get_or-set_same, get_or-set_other}
use Rattle.std.specs.Prelude.{nat_lt, slice_index, slice_set, bit_and, if◌then◌else◌}
use Rattle.std.proofs.lemmas.Bool.{cases_eq}
use Rattle.std.proofs.lemmas.Bool.Decides.{nat_tests}
use Rattle.std.proofs.lemmas.Nat.{and_mask}
use mir.Val.{bool_byte}
use Rattle.scalar_walk.specs.declared.wide.Lanes.{Lanes}
use Rattle.scalar_walk.specs.Lanes.{ended, sum_below}
use Rattle.scalar_walk.specs.Wide.{AreClosed, AreWritten, HasWalk, IsNamed, number_of}
use Rattle.scalar_walk.proofs.Below.{sum_agree, sum_more}

-- ---- walks

-- a lane has its own walk
pub own_walk : (lanes : Lanes) (j : ℕ) → HasWalk lanes j lanes j
own_walk lanes j = record { low = refl; high = refl; key = refl }

-- a walk that a lane has from one that had it from a third is the third's
pub walk_from : {old middle new : Lanes} {i j k : ℕ} → HasWalk old i middle j → HasWalk middle j new k →
    HasWalk old i new k
walk_from first second = record {
  low = second.low ∙ first.low;
  high = second.high ∙ first.high;
  key = second.key ∙ first.key;
}

-- a lane that has ended counts as 1
pub counts_one : (low : ℕ) {one : ℕ} → one ≡ bool_byte (leb 2147483648 low) →
    (one ≡ (if nat_lt low ended then 0 else 1)) × (one ≤ 1)
counts_one low is = (grind (arith, nat_tests, is), grind (arith, nat_tests, is))

-- one on its way does, and another as 0
pub kept_one : (low : ℕ) {one : ℕ} → one ≡ bool_byte (ltb low 2147483648) →
    ((low < ended) × (one ≡ 1)) ⊎ ((ended ≤ low) × (one ≡ 0))
kept_one low is = grind (arith, nat_tests, is)

-- ---- rows

-- once the rows of the first lanes are written, that of one more is
pub written_more : {lanes : Lanes} {n : ℕ} {before rows : List ℕ} → AreWritten lanes n before rows → {at row : ℕ} →
    at ≡ number_of lanes n → at < length rows → row ≡ bit_and (slice_index lanes.lows n) 536870911 →
    AreWritten lanes (n + 1) before (slice_set rows at row)
written_more {lanes = lanes} {n = n} {rows = rows} w {at = at} {row = row} at_is within row_is = record {
  len = length-set rows at row ∙ w.len;
  each = λ j h. elim (cases_eq (number_of lanes j) at) [
    | inl same ↦ here (number_of lanes j) same
    | inr apart ↦
        let earlier : j < n = elim (cases_eq j n) [
          | inl is ↦ absurd (apart (ap (λ (k : ℕ). number_of lanes k) is ∙ sym at_is))
          | inr other ↦ omega (arith, h, other)
        ] in
        stays (number_of lanes j) apart (w.each j earlier)
  ];
  only = λ k. elim (cases_eq k at) [
    | inl same ↦ inl (here k same)
    | inr apart ↦
        elim (w.only k) [
          | inl named ↦ inl (stays k apart named)
          | inr old ↦ inr (get_or-set_other rows at k row 0 apart ∙ old)
        ]
  ];
}
  where
    here : (k : ℕ) → k ≡ at → IsNamed lanes (n + 1) k (slice_index (slice_set rows at row) k)
    here k same = record {
      lane = n;
      there = omega arith;
      walks = sym at_is ∙ sym same;
      names = ap (λ (m : ℕ). slice_index (slice_set rows at row) m) same ∙ get_or-set_same rows at row 0 within
          ∙ row_is ∙ and_mask (slice_index lanes.lows n) 29;
    }

    stays : (k : ℕ) → k ≢ at → IsNamed lanes n k (slice_index rows k) →
        IsNamed lanes (n + 1) k (slice_index (slice_set rows at row) k)
    stays k apart named = record {
      lane = named.lane;
      there = omega (arith, named.there);
      walks = named.walks;
      names = get_or-set_other rows at k row 0 apart ∙ named.names;
    }

-- ---- ranks

-- where one lane more has given its walk to the first free place, and that place is taken if the walk is on its way,
-- one lane more has closed ranks
pub closed_more : {old now new : Lanes} {n kept one : ℕ} {before rows : List ℕ} →
    AreClosed old now n kept before rows → HasWalk now n new kept → ((j : ℕ) → j ≢ kept → HasWalk now j new j) →
    one ≡ bool_byte (ltb (slice_index now.lows n) 2147483648) → {at row : ℕ} → at ≡ number_of now n →
    at < length rows → row ≡ bit_and (slice_index now.lows n) 536870911 →
    AreClosed old new (n + 1) (kept + one) before (slice_set rows at row)
closed_more {old = old} {now = now} {new = new} {n = n} {kept = kept} {one = one} {before = before} {rows = rows} c put
    stay one_is {at = at} {row = row} at_is within row_is =
    elim (kept_one (slice_index now.lows n) one_is) [
      | inl goes ↦ closed (omega (arith, goes.1)) (λ i h on_way. elim (cases_eq i n) [
        | inl is ↦ (kept, omega (arith, goes.1), at_lane i is placed)
        | inr other ↦ let to = c.to i (omega (arith, h, other)) on_way in
            (to.0, omega (arith, to.1), walk_from to.2 (stay to.0 (λ is. absurd (omega (arith, is, to.1)))))
      ])
          (λ j h. elim (cases_eq j kept) [
            | inl is ↦ (n, omega arith, of_lane j is placed)
            | inr other ↦ kept_from j (omega (arith, h, other, goes.1))
          ])
          (λ f none. omega (
            arith,
            kept_sums f (λ i h over. none i (omega (arith, h)) over),
            sum_more (λ j. f (number_of new j)) kept,
            sum_more (λ i. f (number_of old i)) n,
            ap f placed.key,
            ap (λ (m : ℕ). sum_below (λ j. f (number_of new j)) (kept + m)) goes.1,
          ))
      | inr over ↦ closed (omega (arith, over.1)) (λ i h on_way. elim (cases_eq i n) [
        | inl is ↦ absurd (omega (arith, on_way, over.0, same.low, ap (λ (m : ℕ). slice_index old.lows m) is))
        | inr other ↦ let to = c.to i (omega (arith, h, other)) on_way in
            (to.0, omega (arith, to.1), walk_from to.2 (stay to.0 (λ is. absurd (omega (arith, is, to.1)))))
      ])
          (λ j h. kept_from j (omega (arith, h, over.1)))
          (λ f none. omega (
            arith,
            kept_sums f (λ i h over. none i (omega (arith, h)) over),
            sum_more (λ i. f (number_of old i)) n,
            none n (omega arith) (omega (arith, over.0, same.low)),
            ap (λ (m : ℕ). sum_below (λ j. f (number_of new j)) m) (none_more over.1),
          ))
    ]
  where
    -- the lane had its own walk
    same : HasWalk old n now n
    same = c.others n (omega arith)

    -- which the free place has now
    placed : HasWalk old n new kept
    placed = walk_from same put

    kept_from : (j : ℕ) → j < kept → (i : ℕ) × (i < n + 1) × HasWalk old i new j
    kept_from j h = let s = c.from j h in
        (s.0, omega (arith, s.1), walk_from s.2 (stay j (λ is. absurd (omega (arith, is, h)))))

    none_more : one ≡ 0 → kept + one ≡ kept
    none_more none = omega (arith, none)

    kept_sums : (f : ℕ → ℕ) → ((i : ℕ) → i < n → ended ≤ slice_index old.lows i → f (number_of old i) ≡ 0) →
        sum_below (λ j. f (number_of new j)) kept ≡ sum_below (λ i. f (number_of old i)) n
    kept_sums f none =
        sum_agree (λ j. f (number_of new j)) (λ j. f (number_of now j)) kept
        (λ j h. ap f (stay j (λ is. absurd (omega (arith, is, h)))).key)
        ∙ c.sums f none

    at_lane : (i : ℕ) → i ≡ n → HasWalk old n new kept → HasWalk old i new kept
    at_lane i is w = record { low = rw is w.low; high = rw is w.high; key = rw is w.key }

    of_lane : (j : ℕ) → j ≡ kept → HasWalk old n new kept → HasWalk old n new j
    of_lane j is w = record { low = rw is w.low; high = rw is w.high; key = rw is w.key }

    closed : one ≤ 1 →
        ((i : ℕ) → i < n + 1 → slice_index old.lows i < ended → (j : ℕ) × (j < kept + one) × HasWalk old i new j) →
        ((j : ℕ) → j < kept + one → (i : ℕ) × (i < n + 1) × HasWalk old i new j) →
        ((f : ℕ → ℕ) →
        ((i : ℕ) → i < n + 1 → ended ≤ slice_index old.lows i → f (number_of old i) ≡ 0) →
        sum_below (λ j. f (number_of new j)) (kept + one) ≡ sum_below (λ i. f (number_of old i)) (n + 1)) →
        AreClosed old new (n + 1) (kept + one) before (slice_set rows at row)
    closed small to from sums = record {
      few = omega (arith, c.few, small);
      written = written_more c.written (at_is ∙ same.key) within
          (row_is ∙ ap (λ (low : ℕ). bit_and low 536870911) same.low);
      from = from;
      to = to;
      others = λ j h. walk_from (c.others j (omega (arith, h))) (stay j (λ is. absurd (omega (arith, is, h, c.few))));
      keys = λ j h. elim (cases_eq j kept) [
        | inl is ↦ (n, omega arith, (of_lane j is placed).key)
        | inr other ↦
            elim (cases_eq j n) [
              | inl is ↦ (n, omega arith, (stay j other).key ∙ ap (λ (m : ℕ). number_of now m) is ∙ same.key)
              | inr before ↦
                  let i = c.keys j (omega (arith, h, before)) in
                  (i.0, omega (arith, i.1), (stay j other).key ∙ i.2)
            ]
      ];
      sums = sums;
    }

-- once a lane after those kept is empty, they still have closed ranks
pub closed_emptied : {old now new : Lanes} {count kept : ℕ} {before rows : List ℕ} →
    AreClosed old now count kept before rows → (at : ℕ) → kept ≤ at → at < count →
    ((j : ℕ) → j ≢ at → HasWalk now j new j) → new.keys ≡ now.keys → AreClosed old new count kept before rows
closed_emptied {old = old} {now = now} {new = new} {kept = kept} c at past there stay keys_stay = record {
  few = c.few;
  written = c.written;
  from = λ j h. let s = c.from j h in
      (s.0, s.1, walk_from s.2 (stay j (λ is. absurd (omega (arith, is, h, past)))));
  to = λ i h on_way. let s = c.to i h on_way in
      (s.0, s.1, walk_from s.2 (stay s.0 (λ is. absurd (omega (arith, is, s.1, past)))));
  others = λ j h. walk_from (c.others j h) (stay j (λ is. absurd (omega (arith, is, h, there))));
  keys = λ j h. let s = c.keys j h in (s.0, s.1, same j ∙ s.2);
  sums = λ f none. sum_agree (λ j. f (number_of new j)) (λ j. f (number_of now j)) kept (λ j h. ap f (same j))
      ∙ c.sums f none;
}
  where
    same : (j : ℕ) → number_of new j ≡ number_of now j
    same j = ap (λ (xs : List ℕ). slice_index xs j) keys_stay
