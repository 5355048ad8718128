-- Where there is a difference verdicts are unlike, and where there is none they are equal everywhere.
use Rattle.std.proofs.Common.{◌≡◌, ℕ, zero, suc, ◌+◌, ◌<◌, ◌≤◌, ◌==◌, List, [], ◌∷◌, ◌++◌, length, map, cond, Bool}
use Rattle.std.proofs.Common.{true, false, not, ◌||◌, ◌⊎◌, true≢false, Option, Some, None, refl, sym, ◌∙◌, ap, subst}
use Rattle.std.proofs.Common.{inl}
use Rattle.std.proofs.Common.{inr, arith}
use Rattle.std.specs.List.{AllByRecursion, find, list_any, range_with_len}
use Rattle.std.specs.Option.{option_map}
use Rattle.std.proofs.lemmas.Bool.{cases_eq, cases_lt, eqb-true, eq-eqb, not-false, or_parts}
use Rattle.std.proofs.lemmas.List.{append-nil, append_assoc}
use Rattle.std.proofs.lemmas.List.Elements.{All-from_recursion, recursion_from_All}
use Rattle.list_lemmas.proofs.First.{find_passes}
use Rattle.field_defs.specs.Faults.{first_of}
use Rattle.field_defs.specs.Layout.{key_len_of}
use Rattle.rule_set.specs.Rule.{RuleSetView}
use Rattle.group_states.specs.Found.{all_bytes, prefixes}
use Rattle.group_states.proofs.Offered.{prefixes_are, IsPrefix}
use Rattle.acl_audit.specs.Difference.{Difference, verdict_of, is_unlike, eight_from, with_category, least_passing}
use Rattle.acl_audit.specs.Difference.{difference_from, difference}
use Rattle.acl_audit.specs.Laws.{IsKey, AreAlike, AreUnlikeAt, DifferencesTellUnlikeSets}
use Rattle.acl_audit.specs.Least.{least_from}
use Rattle.acl_audit.proofs.Least.{least_is_first}

-- ---- what is found, and what isn't

-- what holds of each element holds of the one that is found
pub of_found : {X : Type 0} (P : X → Type 0) (p : X → Bool) (xs : List X) (w : X) → AllByRecursion P xs
    → find p xs ≡ Some w → P w
of_found P p [] w all found = absurd (cc)
of_found P p (x ∷ xs) w all found = by (p x) (of_found P p xs w all.1) found
  where
    by : (b : Bool) → (find p xs ≡ Some w → P w) → cond b (Some x) (find p xs) ≡ Some w → P w
    by true rest is = (let e : x ≡ w = cc in subst P e all.0)
    by false rest is = rest is

-- where none is found none passes
pub any_by_find : {X : Type 0} (p : X → Bool) (xs : List X) → find p xs ≡ None → list_any p xs ≡ false
any_by_find p [] none = refl
any_by_find p (x ∷ xs) none = by (p x) (any_by_find p xs) none
  where
    by : (b : Bool) → (find p xs ≡ None → list_any p xs ≡ false) → cond b (Some x) (find p xs) ≡ None
        → (b || list_any p xs) ≡ false
    by true rest is = absurd (cc)
    by false rest is = rest is

-- the numbers of a range lie in it
range_within : (low high first count : ℕ) → low ≤ first → first + count ≤ high
    → AllByRecursion (λ n. (low ≤ n) × (n < high)) (range_with_len first count)
range_within low high first zero from below = tt
range_within low high first (suc count) from below = (
  (from, omega (arith, below)),
  range_within low high (first + 1) count (omega (arith, from)) (omega (arith, below)),
)

-- a number of a range in which none passes fails
none_in_range : (p : ℕ → Bool) (first count n : ℕ) → list_any p (range_with_len first count) ≡ false → first ≤ n
    → n < first + count → p n ≡ false
none_in_range p first zero n none from below = absurd (omega (arith, from, below))
none_in_range p first (suc count) n none from below =
    let parts = or_parts (p first) (list_any p (range_with_len (first + 1) count)) none in
    elim (cases_eq n first) [
      | inl here ↦ ap p here ∙ parts.0
      | inr apart ↦ none_in_range p (first + 1) count n parts.1 (omega (arith, from, apart)) (omega (arith, below))
    ]

-- none of the answers of a range is there, where the first of them isn't
none_of_range : {X : Type 0} (f : ℕ → Option X) (first count n : ℕ)
    → first_of (map f (range_with_len first count)) ≡ None → first ≤ n → n < first + count → f n ≡ None
none_of_range f first zero n none from below = absurd (omega (arith, from, below))
none_of_range {X} f first (suc count) n none from below =
    by (f first) refl (λ rest apart. none_of_range f (first + 1) count n rest (omega (arith, from, apart))
    (omega (arith, below))) none
  where
    by : (o : Option X) → f first ≡ o
        → (first_of (map f (range_with_len (first + 1) count)) ≡ None → (n ≡ first → ⊥) → f n ≡ None)
        → first_of (o ∷ map f (range_with_len (first + 1) count)) ≡ None → f n ≡ None
    by (Some x) is rest found = absurd (cc)
    by None is rest found = elim (cases_eq n first) [
      | inl here ↦ ap f here ∙ is
      | inr apart ↦ rest found apart
    ]

-- ---- the least key that passes

-- it passes, and is a key of so many bytes
pub least_some : (test : List ℕ → Bool) (len : ℕ) (key : List ℕ) → least_from test len [] ≡ Some key
    → (test key ≡ true) × IsPrefix len key
least_some test len key is =
    let found = sym (least_is_first test len) ∙ is in (
      find_passes test (prefixes len) key found,
      of_found (IsPrefix len) test (prefixes len) key
          (prefixes_are len) found,
    )

-- all bytes are the numbers below 256
bytes_are : all_bytes ≡ range_with_len 0 256
unfolding all_bytes
bytes_are = refl

-- if there is no answer, the test failed
fails : {X : Type 0} (b : Bool) (x : X) → cond b (Some x) None ≡ None → b ≡ false
fails true x h = absurd (cc)
fails false x h = refl

-- where there is none no key passes
least_none : (test : List ℕ → Bool) (lacking : ℕ) (key : List ℕ) → least_from test lacking key ≡ None
    → (rest : List ℕ) → AllByRecursion (λ byte. byte < 256) rest → length rest ≡ lacking → test (key ++ rest) ≡ false
least_none test zero key none [] bytes long = ap test (append-nil key) ∙ fails (test key) key none
least_none test zero key none (byte ∷ rest) bytes long = absurd (omega (arith, long))
least_none test (suc lacking) key none [] bytes long = absurd (omega (arith, long))
least_none test (suc lacking) key none (byte ∷ rest) bytes long =
    let next : ℕ → Option (List ℕ) = λ b. least_from test lacking (key ++ b ∷ []) in
    let here : least_from test lacking (key ++ byte ∷ []) ≡ None =
    none_of_range next 0 256 byte (ap (λ l. first_of (map next l)) (sym bytes_are) ∙ none) (omega arith)
    (omega (arith, bytes.0)) in
    ap test (sym (append_assoc key (byte ∷ []) rest))
    ∙ least_none test lacking (key ++ byte ∷ []) here rest bytes.1 (omega (arith, long))

-- ---- differences

-- the first of two answers is one of them
first_of_two : {X : Type 0} (a b : Option X) (x : X) → first_of (a ∷ b ∷ []) ≡ Some x → (a ≡ Some x) ⊎ (b ≡ Some x)
first_of_two None None x is = absurd (cc)
first_of_two None (Some y) x is = inr is
first_of_two (Some y) b x is = inl is

-- if two answers have no first one, neither is there
first_of_none : {X : Type 0} (a b : Option X) → first_of (a ∷ b ∷ []) ≡ None → (a ≡ None) × (b ≡ None)
first_of_none None None is = (refl, refl)
first_of_none None (Some y) is = absurd (cc)
first_of_none (Some y) b is = absurd (cc)

module _ (test : List ℕ → ℕ → Bool) (first : ℕ) where
  -- a difference that is found has its key, and the first category that passes there
  found_there : (found : Option (List ℕ)) (at : Difference) → with_category test first found ≡ Some at
      → (found ≡ Some at.key) × (find (test at.key) (eight_from first) ≡ Some at.category)
  found_there None at is = absurd (cc)
  found_there (Some key) at is = by (find (test key) (eight_from first)) refl is
    where
      by : (o : Option ℕ) → find (test key) (eight_from first) ≡ o
          → option_map (λ category. record { key = key; category = category }) o ≡ Some at
          → (Some key ≡ Some at.key) × (find (test at.key) (eight_from first) ≡ Some at.category)
      by None e found = absurd (cc)
      by (Some category) e found =
          let same : record { key = key; category = category } ≡ at = cc in (
            ap (λ (d : Difference). Some d.key) same,
            ap (λ (d : Difference). find (test d.key) (eight_from first)) (sym same) ∙ e
                ∙ ap (λ (d : Difference). Some d.category) same,
          )

  -- if there is no difference at a key, no category passes there
  none_there : (key : List ℕ) → with_category test first (Some key) ≡ None
      → list_any (test key) (eight_from first) ≡ false
  none_there key none = any_by_find (test key) (eight_from first) (by (find (test key) (eight_from first)) none)
    where
      by : (o : Option ℕ) → option_map {U = Difference} (λ category. record { key = key; category = category }) o ≡ None
          → o ≡ None
      by None h = refl
      by (Some category) h = absurd (cc)

module _ (one two : RuleSetView) where
  -- a difference is at a key and a category at which verdicts are unlike
  unlike_at : (first : ℕ) (at : Difference) → first + 8 ≤ 16 → difference_from one two first ≡ Some at
      → AreUnlikeAt one two at
  unfolding least_passing eight_from
  unlike_at first at within is =
      let test : List ℕ → Bool = λ key. list_any (is_unlike one two key) (range_with_len first 8) in
      let there = found_there (is_unlike one two) first (least_from test (key_len_of one.layout) []) at is in
      let least = least_some test (key_len_of one.layout) at.key there.0 in
      let found : find (is_unlike one two at.key) (range_with_len first 8) ≡ Some at.category = there.1 in
      let inside = of_found (λ n. (first ≤ n) × (n < 16)) (is_unlike one two at.key)
      (range_with_len first 8) at.category
      (range_within first 16 first 8 (omega arith) within) found in
      record {
        key = record { bytes = All-from_recursion (λ byte. byte < 256) at.key least.1.0; long = least.1.1 };
        category = inside.1;
        unlike = λ same. true≢false
            (sym (find_passes (is_unlike one two at.key) (range_with_len first 8) at.category found)
            ∙ ap not (eq-eqb (verdict_of one at.key at.category) (verdict_of two at.key at.category) same));
      }

  -- where there is no difference verdicts are equal
  alike_from : (first : ℕ) → difference_from one two first ≡ None → (key : List ℕ) (category : ℕ) → IsKey one key
      → first ≤ category → category < first + 8 → verdict_of one key category ≡ verdict_of two key category
  unfolding least_passing eight_from
  alike_from first none key category its from below =
      by (least_from (λ k. list_any (is_unlike one two k) (range_with_len first 8))
      (key_len_of one.layout) []) refl none
    where
      by : (o : Option (List ℕ))
          → least_from (λ k. list_any (is_unlike one two k) (range_with_len first 8)) (key_len_of one.layout) [] ≡ o
          → with_category (is_unlike one two) first o ≡ None
          → verdict_of one key category ≡ verdict_of two key category
      by (Some least) is there =
          absurd (true≢false (sym (least_some (λ k. list_any (is_unlike one two k) (range_with_len first 8))
          (key_len_of one.layout) least is).0 ∙ none_there (is_unlike one two) first least there))
      by None is there =
          let no_key = least_none (λ k. list_any (is_unlike one two k) (range_with_len first 8))
          (key_len_of one.layout) []
          is key (recursion_from_All (λ byte. byte < 256) key its.bytes) its.long in
          eqb-true (verdict_of one key category) (verdict_of two key category)
          (not-false (verdict_of one key category == verdict_of two key category)
          (none_in_range (is_unlike one two key) first 8 category no_key from below))

  -- at a difference the sets are unlike
  some_unlike : (at : Difference) → difference one two ≡ Some at → AreUnlikeAt one two at
  unfolding difference
  some_unlike at is = elim (first_of_two (difference_from one two 0) (difference_from one two 8) at is) [
    | inl low ↦ unlike_at 0 at (omega arith) low
    | inr high ↦ unlike_at 8 at (omega arith) high
  ]

  -- without a difference the sets are alike
  none_alike : difference one two ≡ None → AreAlike one two
  unfolding difference
  none_alike none = λ key category its below.
      (let both = first_of_none (difference_from one two 0) (difference_from one two 8) none in
      elim (cases_lt category 8) [
        | inl low ↦ alike_from 0 both.0 key category its (omega arith) (omega (arith, low))
        | inr high ↦ alike_from 8 both.1 key category its (omega (arith, high)) (omega (arith, below))
      ])

  -- sets that are alike have no difference
  alike_none : AreAlike one two → difference one two ≡ None
  alike_none alike = by (difference one two) refl
    where
      by : (o : Option Difference) → difference one two ≡ o → o ≡ None
      by None is = refl
      by (Some at) is =
          (let unlike = some_unlike at is in absurd
          (unlike.unlike (alike at.key at.category unlike.key unlike.category)))

-- there is no difference exactly if the sets are alike, and at a difference they are unlike
pub differences_tell : DifferencesTellUnlikeSets
differences_tell = record {
  none = λ one two. (none_alike one two, alike_none one two);
  some = λ one two at is. some_unlike one two at is;
}
