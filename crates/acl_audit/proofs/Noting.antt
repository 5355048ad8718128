-- Rows that come one after the other, from the last one on, leave each rule the number of its first row.
use Rattle.std.proofs.Common.{◌≡◌, ◌≢◌, ℕ, zero, suc, ◌+◌, ◌-◌, ◌<◌, ◌≤◌, ◌==◌, List, [], ◌∷◌, ◌++◌, length, take, drop, get_or}
use Rattle.std.proofs.Common.{slice_set, false, cond, refl, sym, ◌∙◌, ap, subst, arith, inl, inr, All, replicate}
use Rattle.std.proofs.lemmas.Bool.{cases_Bool, cases_eq, eqb-true, eq-eqb, lt-ltb}
use Rattle.std.proofs.lemmas.List.{length-set, get_or-set_same, get_or-set_other, length-replicate, drop_more, drop_all, take_all, append-nil}
use Rattle.table_sizes.specs.Sizes.{row_len}
use Rattle.acl_audit.specs.Firsts.{first_from, number_at, entry_noted, row_noted, AreFirsts, no_firsts}

-- A table has so many whole rows.
pub record IsTable (count : ℕ) (table : List (List ℕ)) : Type 0 where
  pub long : length table ≡ count
  pub whole : All (λ numbers. length numbers ≡ row_len) table

-- numbers that differ aren't compared as equal
not_eq : (m n : ℕ) → m ≢ n → (m == n) ≡ false
not_eq m n apart = elim (cases_Bool (m == n)) [
  | inl same ↦ absurd (apart (eqb-true m n same))
  | inr differs ↦ differs
]

-- a table with a number at a place
module _ (table : List (List ℕ)) (place category number : ℕ) where
  -- the row of the place with the number in the category
  abbrev row_set : List ℕ
  row_set = slice_set (get_or table place []) category number

  -- the numbers of other rules are as before
  set_elsewhere : (rule c : ℕ) → rule ≢ place
      → number_at (slice_set table place row_set) rule c ≡ number_at table rule c
  set_elsewhere rule c apart = ap (λ l. get_or l c 0) (get_or-set_other table place rule row_set [] apart)

  -- the numbers of the place's rule are those of the row
  set_row : (c : ℕ) → place < length table
      → number_at (slice_set table place row_set) place c ≡ get_or row_set c 0
  set_row c inside = ap (λ l. get_or l c 0) (get_or-set_same table place row_set [] inside)

  -- it is a table of as many rows
  set_table : (count : ℕ) → IsTable count table → place < count → IsTable count (slice_set table place row_set)
  set_table count is below = record {
    long = length-set table place row_set ∙ is.long;
    whole = λ rule d under.
        (let inside : rule < length table = omega (arith, under, length-set table place row_set) in
        elim (cases_eq rule place) [
          | inl e ↦
              ap (λ r. length (get_or (slice_set table place row_set) r d)) e
              ∙ ap length (get_or-set_same table place row_set d (omega (arith, below, is.long)))
              ∙ length-set (get_or table place []) category number
              ∙ is.whole place [] (omega (arith, below, is.long))
          | inr apart ↦
              ap length (get_or-set_other table place rule row_set d apart) ∙ is.whole rule d inside
        ]);
  }

-- ---- one entry

-- an entry above 0 is noted at the place of the rule that it names
noted_suc : (table : List (List ℕ)) (place category number : ℕ) → entry_noted table (suc place) category number
    ≡ slice_set table place (slice_set (get_or table place []) category number)
noted_suc table place category number =
    let e : suc place - 1 ≡ place = omega arith in
    ap (λ b. cond b (slice_set table (suc place - 1)
    (slice_set (get_or table (suc place - 1) []) category number)) table)
    (lt-ltb 0 (suc place) (omega arith))
    ∙ ap (λ p. slice_set table p (slice_set (get_or table p []) category number)) e

-- a table has as many whole rows after an entry is noted
pub entry_table : (count : ℕ) (table : List (List ℕ)) (entry category number : ℕ) → IsTable count table → entry ≤ count
    → IsTable count (entry_noted table entry category number)
entry_table count table zero category number is low = is
entry_table count table (suc place) category number is low =
    subst (IsTable count) (sym (noted_suc table place category number))
    (set_table table place category number count is (omega (arith, low)))

-- other categories stay
entry_stays : (count : ℕ) (table : List (List ℕ)) (entry category number : ℕ) → IsTable count table → entry ≤ count
    → (rule c : ℕ) → c ≢ category → number_at (entry_noted table entry category number) rule c ≡ number_at table rule c
entry_stays count table zero category number is low rule c apart = refl
entry_stays count table (suc place) category number is low rule c apart =
    ap (λ t. number_at t rule c) (noted_suc table place category number) ∙ elim (cases_eq rule place) [
      | inr other ↦ set_elsewhere table place category number rule c other
      | inl e ↦
          ap (λ r. number_at (slice_set table place (slice_set (get_or table place []) category number)) r c) e
          ∙ set_row table place category number c (omega (arith, low, is.long))
          ∙ get_or-set_other (get_or table place []) category c number 0 apart
          ∙ ap (λ r. number_at table r c) (sym e)
    ]

-- in this one the rule that the entry names gets the number
entry_here : (count : ℕ) (table : List (List ℕ)) (entry category number : ℕ) → IsTable count table → entry ≤ count
    → category < row_len → (rule : ℕ) → number_at (entry_noted table entry category number) rule category
    ≡ cond (entry == rule + 1) number (number_at table rule category)
entry_here count table zero category number is low within rule =
    sym (ap (λ b. cond b number (number_at table rule category)) (not_eq zero (rule + 1) (λ e. omega (arith, e))))
entry_here count table (suc place) category number is low within rule =
    ap (λ t. number_at t rule category) (noted_suc table place category number) ∙ elim (cases_eq rule place) [
      | inr other ↦
          set_elsewhere table place category number rule category other
          ∙ sym (ap (λ b. cond b number (number_at table rule category))
          (not_eq (suc place) (rule + 1) (λ e. other (omega (arith, e)))))
      | inl e ↦
          ap (λ r. number_at (slice_set table place (slice_set (get_or table place []) category number)) r category) e
          ∙ set_row table place category number category (omega (arith, low, is.long))
          ∙ get_or-set_same (get_or table place []) category number 0
          (omega (arith, within, is.whole place [] (omega (arith, low, is.long))))
          ∙ sym (ap (λ b. cond b number (number_at table rule category))
          (eq-eqb (suc place) (rule + 1) (omega (arith, e))))
    ]

-- ---- one row

module _ (count number : ℕ) where
  -- each entry of a row names one of so many rules, or none
  abbrev Low : List ℕ → Type 0
  Low row = All (λ entry. entry ≤ count) row

  -- what is left of such a row is such
  rest_low : (entry : ℕ) (row : List ℕ) → Low (entry ∷ row) → Low row
  rest_low entry row low = λ k d below. low (suc k) d (omega (arith, below))

  -- after a row is noted, it is a table of as many rows
  pub row_table : (table : List (List ℕ)) (category : ℕ) (row : List ℕ) → IsTable count table → Low row
      → IsTable count (row_noted table number category row)
  row_table table category [] is low = is
  row_table table category (entry ∷ row) is low =
      row_table (entry_noted table entry category number) (category + 1) row
      (entry_table count table entry category number is (low 0 0 (omega arith))) (rest_low entry row low)

  -- the categories before those of the row are as before
  row_before : (table : List (List ℕ)) (category : ℕ) (row : List ℕ) → IsTable count table → Low row
      → (rule c : ℕ) → c < category → number_at (row_noted table number category row) rule c ≡ number_at table rule c
  row_before table category [] is low rule c before = refl
  row_before table category (entry ∷ row) is low rule c before =
      row_before (entry_noted table entry category number) (category + 1) row
      (entry_table count table entry category number is (low 0 0 (omega arith))) (rest_low entry row low) rule c
      (omega (arith, before))
      ∙ entry_stays count table entry category number is (low 0 0 (omega arith)) rule c
      (λ e. omega (arith, before, e))

  -- an entry that names the rule leaves it the number, and another leaves what was there
  pub row_here : (table : List (List ℕ)) (category : ℕ) (row : List ℕ) → IsTable count table → Low row
      → category + length row ≤ row_len → (rule k : ℕ) → k < length row
      → number_at (row_noted table number category row) rule (category + k)
      ≡ cond (get_or row k 0 == rule + 1) number (number_at table rule (category + k))
  row_here table category [] is low whole rule k below = absurd (omega (arith, below))
  row_here table category (entry ∷ row) is low whole rule zero below =
      let one = low 0 0 (omega arith) in
      let e : category + 0 ≡ category = omega arith in
      ap (number_at (row_noted table number category (entry ∷ row)) rule) e
      ∙ row_before (entry_noted table entry category number) (category + 1) row
      (entry_table count table entry category number is one) (rest_low entry row low) rule category (omega arith)
      ∙ entry_here count table entry category number is one (omega (arith, whole)) rule
      ∙ ap (λ c. cond (entry == rule + 1) number (number_at table rule c)) (sym e)
  row_here table category (entry ∷ row) is low whole rule (suc k) below =
      let one = low 0 0 (omega arith) in
      let e : category + suc k ≡ category + 1 + k = omega arith in
      ap (number_at (row_noted table number category (entry ∷ row)) rule) e
      ∙ row_here (entry_noted table entry category number) (category + 1) row
      (entry_table count table entry category number is one) (rest_low entry row low) (omega (arith, whole)) rule k
      (omega (arith, below))
      ∙ ap (cond (get_or row k 0 == rule + 1) number)
      (entry_stays count table entry category number is one rule (category + 1 + k) (λ f. omega (arith, f)))
      ∙ ap (λ c. cond (get_or row k 0 == rule + 1) number (number_at table rule c)) (sym e)

-- ---- all rows, from the last one on

-- The table has the number of the first of the rows from a row on.
pub record FirstsFrom (rows : List (List ℕ)) (count row : ℕ) (table : List (List ℕ)) : Type 0 where
  pub table_is : IsTable count table
  pub each : (rule category : ℕ) → rule < count → category < row_len →
      number_at table rule category ≡ first_from row (drop row rows) rule category

-- after a row is noted, the table has the numbers of the first rows from it on
pub one_more_row : (rows : List (List ℕ)) (count row : ℕ) (table : List (List ℕ)) → row < length rows
    → All (All (λ entry. entry ≤ count)) rows → All (λ r. length r ≡ row_len) rows
    → FirstsFrom rows count (row + 1) table
    → FirstsFrom rows count row (row_noted table (row + 1) 0 (get_or rows row []))
one_more_row rows count row table within low whole firsts =
    let r : List ℕ = get_or rows row [] in
    let long : length r ≡ row_len = whole row [] within in
    record {
      table_is = row_table count (row + 1) table 0 r firsts.table_is (low row [] within);
      each = λ rule category below inside.
          (let e : 0 + category ≡ category = omega arith in
          ap (number_at (row_noted table (row + 1) 0 r) rule) (sym e)
          ∙ row_here count (row + 1) table 0 r firsts.table_is (low row [] within) (omega (arith, long)) rule category
          (omega (arith, long, inside))
          ∙ ap (cond (get_or r category 0 == rule + 1) (row + 1))
          (ap (number_at table rule) e ∙ firsts.each rule category below inside)
          ∙ sym (ap (λ rs. first_from row rs rule category) (drop_more rows row [] within)));
    }

-- each of so many copies is the element itself
get_or-copies : {X : Type 0} (n i : ℕ) (x d : X) → i < n → get_or (replicate n x) i d ≡ x
get_or-copies zero i x d below = absurd (omega (arith, below))
get_or-copies (suc n) zero x d below = refl
get_or-copies (suc n) (suc i) x d below = get_or-copies n i x d (omega (arith, below))

-- each of so many zeros is 0
zero_at : (n i : ℕ) → get_or {A = ℕ} (replicate n 0) i 0 ≡ 0
zero_at zero i = refl
zero_at (suc n) zero = refl
zero_at (suc n) (suc i) = zero_at n i

-- before any row is noted, the table has no first row
pub no_rows_yet : (rows : List (List ℕ)) (count : ℕ) → FirstsFrom rows count (length rows) (no_firsts count)
unfolding no_firsts
no_rows_yet rows count = record {
  table_is = record {
    long = length-replicate count (replicate row_len 0);
    whole = λ rule d below. ap length (get_or-copies count rule (replicate row_len 0) d
        (omega (arith, below, length-replicate count (replicate {A = ℕ} row_len 0))))
        ∙ length-replicate {A = ℕ} row_len 0;
  };
  each = λ rule category below inside.
      ap (λ l. get_or l category 0) (get_or-copies count rule (replicate row_len 0) [] below)
      ∙ zero_at row_len category
      ∙ sym (ap (λ rs. first_from (length rows) rs rule category) (drop_rest rows));
}
  where
    drop_rest : (xs : List (List ℕ)) → drop (length xs) xs ≡ []
    drop_rest [] = refl
    drop_rest (x ∷ xs) = drop_rest xs

-- after all rows are noted, the table has the number of each first row
pub are_firsts : (rows : List (List ℕ)) (count : ℕ) (table : List (List ℕ)) → FirstsFrom rows count 0 table
    → AreFirsts rows count table
are_firsts rows count table firsts = record {
  long = firsts.table_is.long;
  whole = firsts.table_is.whole;
  each = firsts.each;
}

-- what is written over a whole table is the new one
pub whole_written : (n : ℕ) (new old : List (List ℕ)) → length new ≡ length old → n ≡ length old
    → take n (new ++ drop (length new) old) ≡ new
whole_written n new old long is =
    ap (λ l. take n (new ++ l)) (drop_all (length new) old (omega (arith, long)))
    ∙ ap (take n) (append-nil new)
    ∙ take_all n new (omega (arith, long, is))
