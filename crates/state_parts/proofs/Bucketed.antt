-- Pairs that are found by buckets.
use Rattle.std.proofs.Common.{◌≡◌, ℕ, ◌+◌, ◌-◌, ◌<◌, ◌≤◌, ◌==◌, List, [], ◌∷◌, ◌++◌, length, get_or, set, map}
use Rattle.std.proofs.Common.{Bool, true, false, ◌||◌, refl, sym, ◌∙◌, ap, subst, inl, inr, true≢false, arith, zero, suc}
use Rattle.std.specs.List.{list_any}
use Rattle.std.proofs.lemmas.Bool.{cases_Bool, cases_lt, and_parts, eq-eqb, eqb-true}
use Rattle.std.proofs.lemmas.List.{get_or_append_left, get_or-set_same, get_or-set_other, length-append, length-set}
use Rattle.std.proofs.Math.Seq.{get_or-append_seam}
use Rattle.state_parts.specs.declared.pair_set.Linked.{Linked}
use Rattle.state_parts.specs.Keys.{same_pair}
use Rattle.state_parts.proofs.Pairs.{same_itself}
use Rattle.state_parts.specs.Buckets.{pair_in, bucket_of, bucket_at, no_pair, IsLast, AreLinked, NoneFrom}

-- the pair at a place stays when more come
at_stays : (all more : List Linked) (k : ℕ) → k < length all → get_or (all ++ more) k no_pair ≡ get_or all k no_pair
at_stays all more k below = get_or_append_left all more no_pair k below

-- so does its bucket
bucket_stays : (all more : List Linked) (buckets k : ℕ) → k < length all
    → bucket_at (all ++ more) buckets k ≡ bucket_at all buckets k
bucket_stays all more buckets k below = ap (λ linked. bucket_of (pair_in linked) buckets) (at_stays all more k below)

-- the last pair of a bucket before an end stays that when more come
last_stays : (all more : List Linked) (buckets bucket end number : ℕ) → end ≤ length all
    → IsLast all buckets bucket end number → IsLast (all ++ more) buckets bucket end number
last_stays all more buckets bucket end number inside last = record {
  within = last.within;
  its = λ some. bucket_stays all more buckets (number - 1) (omega (arith, some, last.within, inside)) ∙ last.its some;
  none = λ k from below. ap (λ b. b == bucket) (bucket_stays all more buckets k (omega (arith, below, inside)))
      ∙ last.none k from below;
}

module _ (all : List Linked) (heads : List ℕ) (linked : Linked) (bucket : ℕ)
    (is : bucket ≡ bucket_of (pair_in linked) (length heads)) (within : bucket < length heads)
    (before : linked.before ≡ get_or heads bucket 0) (were : AreLinked all heads) where
  -- the pairs with one more
  abbrev more : List Linked
  more = all ++ linked ∷ []

  -- the one more is in its bucket
  at_end : bucket_at more (length heads) (length all) ≡ bucket
  at_end = ap (λ l. bucket_of (pair_in l) (length heads)) (get_or-append_seam all linked [] no_pair) ∙ sym is

  -- each bucket names its last pair
  lasts : (other : ℕ) → other < length heads
      → IsLast more (length heads) other (length more) (get_or (set heads bucket (length all + 1)) other 0)
  lasts other below = elim (cases_Bool (other == bucket)) [
    | inl same ↦
        rw (eqb-true other bucket same, get_or-set_same heads bucket (length all + 1) 0 within) (record {
          within = omega (arith, length-append all (linked ∷ []));
          its = λ some. let e : length all + 1 - 1 ≡ length all = omega arith in rw e at_end;
          none = λ k from end. absurd (omega (arith, from, end, length-append all (linked ∷ [])));
        })
    | inr apart ↦
        let was = were.last other below in
        rw (get_or-set_other heads bucket other (length all + 1) 0
        (λ same. true≢false (sym (eq-eqb other bucket same) ∙ apart))) (record {
          within = omega (arith, was.within, length-append all (linked ∷ []));
          its = λ some. bucket_stays all (linked ∷ []) (length heads) (get_or heads other 0 - 1)
              (omega (arith, some, was.within)) ∙ was.its some;
          none = λ k from end. elim (cases_lt k (length all)) [
            | inl old ↦ (last_stays all (linked ∷ []) (length heads) other (length all) (get_or heads other 0)
                (omega arith) was).none k from old
            | inr late ↦
                let e : k ≡ length all = omega (arith, late, end, length-append all (linked ∷ [])) in
                rw (e, at_end) (apart_too other apart)
          ];
        })
  ]
    where
      apart_too : (other : ℕ) → (other == bucket) ≡ false → (bucket == other) ≡ false
      apart_too other apart = elim (cases_Bool (bucket == other)) [
        | inl same ↦ absurd (true≢false (sym (eq-eqb other bucket (sym (eqb-true bucket other same))) ∙ apart))
        | inr is ↦ is
      ]

  -- each pair names the one before it in its bucket
  befores : (k : ℕ) → k < length more
      → IsLast more (length heads) (bucket_at more (length heads) k) k (get_or more k no_pair).before
  befores k below = elim (cases_lt k (length all)) [
    | inl old ↦
        rw (bucket_stays all (linked ∷ []) (length heads) k old, at_stays all (linked ∷ []) k old)
        (last_stays all (linked ∷ []) (length heads) (bucket_at all (length heads) k) k (get_or all k no_pair).before
        (omega (arith, old)) (were.before k old))
    | inr late ↦
        let e : k ≡ length all = omega (arith, late, below, length-append all (linked ∷ [])) in
        rw (e, at_end, get_or-append_seam all linked [] no_pair)
        (subst (λ number. IsLast more (length heads) bucket (length all) number) (sym before)
        (last_stays all (linked ∷ []) (length heads) bucket (length all) (get_or heads bucket 0) (omega arith)
        (were.last bucket within)))
  ]

  -- with one more pair they are linked
  pub linked_more : AreLinked more (set heads bucket (length all + 1))
  linked_more =
      let long : length heads ≡ length (set heads bucket (length all + 1)) =
      sym (length-set heads bucket (length all + 1)) in
      record {
        some = omega (arith, were.some, long);
        last = λ other below. subst (λ n. IsLast more n other (length more)
            (get_or (set heads bucket (length all + 1)) other 0)) long (lasts other (omega (arith, below, long)));
        before = λ k below. subst (λ n. IsLast more n (bucket_at more n k) k (get_or more k no_pair).before) long
            (befores k below);
      }

-- ---- the search

-- The search has come to a number: that is of a pair in the bucket, or 0, and no pair from there on is the one sought.
pub record IsSought (all : List Linked) (heads : List ℕ) (pair : ℕ × ℕ) (number : ℕ) : Type 0 where
  pub within : number ≤ length all
  pub its : 0 < number → bucket_at all (length heads) (number - 1) ≡ bucket_of pair (length heads)
  pub none : NoneFrom all pair number

-- equal pairs are in one bucket
apart : (pair other : ℕ × ℕ) (buckets : ℕ) → (bucket_of other buckets == bucket_of pair buckets) ≡ false
    → same_pair pair other ≡ false
apart pair other buckets differ = elim (cases_Bool (same_pair pair other)) [
  | inl same ↦
      let both = and_parts (pair.0 == other.0) (pair.1 == other.1) same in
      let one : bucket_of other buckets ≡ bucket_of pair buckets =
      ap (λ n. bucket_of (n, other.1) buckets) (sym (eqb-true pair.0 other.0 both.0))
      ∙ ap (λ n. bucket_of (pair.0, n) buckets) (sym (eqb-true pair.1 other.1 both.1)) in
      absurd (true≢false (sym (eq-eqb (bucket_of other buckets) (bucket_of pair buckets) one) ∙ differ))
  | inr is ↦ is
]

-- it begins at the last pair of the bucket
pub sought_first : (all : List Linked) (heads : List ℕ) (pair : ℕ × ℕ) → AreLinked all heads
    → bucket_of pair (length heads) < length heads
    → IsSought all heads pair (get_or heads (bucket_of pair (length heads)) 0)
sought_first all heads pair are below =
    let last = are.last (bucket_of pair (length heads)) below in
    record {
      within = last.within;
      its = last.its;
      none = λ k from end. apart pair (pair_in (get_or all k no_pair)) (length heads) (last.none k from end);
    }

-- it goes on to the pair before
pub sought_next : (all : List Linked) (heads : List ℕ) (pair : ℕ × ℕ) (number : ℕ) → AreLinked all heads
    → IsSought all heads pair number → 0 < number
    → same_pair pair (pair_in (get_or all (number - 1) no_pair)) ≡ false
    → IsSought all heads pair (get_or all (number - 1) no_pair).before
sought_next all heads pair number are sought some other =
    let place = number - 1 in
    let last = are.before place (omega (arith, some, sought.within)) in
    record {
      within = omega (arith, last.within, sought.within, some);
      its = λ more. last.its more ∙ sought.its some;
      none = λ k from end. elim (cases_lt k place) [
        | inl lower ↦ apart pair (pair_in (get_or all k no_pair)) (length heads)
            (ap (λ b. bucket_at all (length heads) k == b) (sym (sought.its some)) ∙ last.none k from lower)
        | inr late ↦ elim (cases_lt place k) [
          | inl higher ↦ sought.none k (omega (arith, higher, some)) end
          | inr not ↦ let e : k ≡ place = omega (arith, late, not) in rw e other
        ]
      ];
    }

-- ---- the pairs as keys

-- a pair that is none of the pairs isn't among them
pub none_among : (all : List Linked) (pair : ℕ × ℕ) → NoneFrom all pair 0
    → list_any (same_pair pair) (map pair_in all) ≡ false
none_among [] pair none = refl
none_among (linked ∷ all) pair none =
    ap (λ b. b || list_any (same_pair pair) (map pair_in all)) (none 0 (omega arith) (omega arith))
    ∙ none_among all pair (λ k from end. none (suc k) (omega arith) (omega (arith, end)))

-- a pair that stands at a place is among the pairs
pub some_among : (all : List Linked) (pair : ℕ × ℕ) (k : ℕ) → k < length all → pair_in (get_or all k no_pair) ≡ pair
    → list_any (same_pair pair) (map pair_in all) ≡ true
some_among [] pair k below is = absurd (omega (arith, below))
some_among (linked ∷ all) pair zero below is =
    ap (λ b. b || list_any (same_pair pair) (map pair_in all))
    (subst (λ (p : ℕ × ℕ). same_pair pair p ≡ true) (sym is) (same_itself pair))
some_among (linked ∷ all) pair (suc k) below is =
    ap (λ b. same_pair pair (pair_in linked) || b) (some_among all pair k (omega (arith, below)) is)
    ∙ or_true (same_pair pair (pair_in linked))
  where
    or_true : (b : Bool) → (b || true) ≡ true
    or_true true = refl
    or_true false = refl

-- ---- pairs in place

-- another number before a pair leaves the pairs as they are
pub same_pairs : (all : List Linked) (place : ℕ) (linked : Linked) → pair_in linked ≡ pair_in (get_or all place no_pair)
    → map pair_in (set all place linked) ≡ map pair_in all
same_pairs [] place linked same = refl
same_pairs (first ∷ all) zero linked same = ap (λ p. p ∷ map pair_in all) same
same_pairs (first ∷ all) (suc place) linked same = ap (λ ps. pair_in first ∷ ps) (same_pairs all place linked same)
