-- Rows of entries.
use Rattle.std.proofs.Common.{◌≡◌, ℕ, zero, suc, ◌+◌, ◌-◌, ◌<◌, ◌≤◌, List, [], ◌∷◌, ◌++◌, length, get_or, max, map}
use Rattle.std.proofs.Common.{cond, set, refl, sym, ◌∙◌, ap, arith, inl, inr, ◌==◌, ◌/◌, ◌%◌, ◌^◌}
use Rattle.std.proofs.lemmas.Bool.{cases_eq}
use Rattle.std.proofs.lemmas.List.{get_or-set_same, get_or-set_other, ext_get_or, get_or_append_left}
use Rattle.std.proofs.lemmas.List.FromFn.{get_or-map-range_with_len, length-map-range_with_len}
use Rattle.std.specs.List.{range_with_len}
use Rattle.std.specs.Str.{bytes_eq}
use Rattle.state_parts.specs.declared.rows.Ranked.{Ranked}
use Rattle.state_parts.specs.Keys.{KeyAt}
use Rattle.state_parts.specs.Rows.{row_of_rule, row_of_entry, join_rows, best_row, IsRow}
use Rattle.list_lemmas.proofs.Tests.{bytes_eq_sound}
use Rattle.state_parts.proofs.Keys.{key_grows, key_alone, key_some, key_is, key_at}

-- two rows of one length have that length as one row
pub length-join : (one other : List ℕ) → length one ≡ length other → length (join_rows one other) ≡ length one
length-join [] other same = sym same
length-join (x ∷ xs) [] same = refl
length-join (x ∷ xs) (y ∷ ys) same = ap suc (length-join xs ys (omega (arith, same)))

-- at each place two rows as one row have the greater of both ranks
pub get-join : (one other : List ℕ) (i : ℕ) → length one ≡ length other → i < length one
    → get_or (join_rows one other) i 0 ≡ max (get_or one i 0) (get_or other i 0)
get-join [] other i same below = absurd (omega arith)
get-join (x ∷ xs) [] i same below = absurd (omega (arith, same))
get-join (x ∷ xs) (y ∷ ys) zero same below = refl
get-join (x ∷ xs) (y ∷ ys) (suc i) same below = get-join xs ys i (omega (arith, same)) (omega arith)

-- the rank of a category in two rows as one, where either may be missing
pub get-join-any : (one other : List ℕ) (i : ℕ) →
    get_or (join_rows one other) i 0 ≡ max (get_or one i 0) (get_or other i 0)
get-join-any [] other i = omega arith
get-join-any (x ∷ xs) [] i = omega arith
get-join-any (x ∷ xs) (y ∷ ys) zero = refl
get-join-any (x ∷ xs) (y ∷ ys) (suc i) = get-join-any xs ys i

-- a row and a missing one are the row
pub join-none : (row : List ℕ) → join_rows row [] ≡ row
join-none [] = refl
join-none (x ∷ xs) = refl

-- it doesn't matter which two of three rows are made one first
join_assoc : (a b c : List ℕ) → join_rows (join_rows a b) c ≡ join_rows a (join_rows b c)
join_assoc [] b c = refl
join_assoc (x ∷ xs) [] c = refl
join_assoc (x ∷ xs) (y ∷ ys) [] = refl
join_assoc (x ∷ xs) (y ∷ ys) (z ∷ zs) =
    let e : max (max x y) z ≡ max x (max y z) = omega arith in λ i. e i ∷ join_assoc xs ys zs i

-- the row of entries together is that of their rows
pub best_append : (ranked : List Ranked) (xs ys : List ℕ)
    → best_row ranked (xs ++ ys) ≡ join_rows (best_row ranked xs) (best_row ranked ys)
best_append ranked [] ys = refl
best_append ranked (x ∷ xs) ys =
    ap (join_rows (row_of_entry ranked x)) (best_append ranked xs ys)
    ∙ sym (join_assoc (row_of_entry ranked x) (best_row ranked xs) (best_row ranked ys))

-- a row has an element
pub HasRank : List ℕ → Type 0
HasRank row = (rank : ℕ) × (ranks : List ℕ) × (row ≡ rank ∷ ranks)

-- the row of an entry has an element
pub entry_has_rank : (ranked : List Ranked) (entry : ℕ) → HasRank (row_of_entry ranked entry)
unfolding HasRank row_of_entry row_of_rule
entry_has_rank ranked entry = (_, _, refl)

-- a row that has a first element has one
pub has_rank : (rank : ℕ) (ranks : List ℕ) → HasRank (rank ∷ ranks)
unfolding HasRank
has_rank rank ranks = (rank, ranks, refl)

-- two rows that have an element have one as one row
pub join_has_rank : (one other : List ℕ) → HasRank one → HasRank (join_rows one other)
unfolding HasRank
join_has_rank one [] has = (has.0, has.1, join-none one ∙ has.2)
join_has_rank one (y ∷ ys) has =
    (max has.0 y, join_rows has.1 ys, ap (λ row. join_rows row (y ∷ ys)) has.2)

-- a number of a row among more
pub row_grows : (rows more : List (List ℕ)) (row : List ℕ) (number : ℕ) → IsRow rows row number
    → IsRow (rows ++ more) row number
row_grows rows more [] number is = is
row_grows rows more (x ∷ xs) number is = key_grows bytes_eq rows more (x ∷ xs) number is

-- a row has one number
pub row_alone : (rows : List (List ℕ)) (row : List ℕ) (number other : ℕ) → IsRow rows row number
    → IsRow rows row other → number ≡ other
row_alone rows [] number other one two = one ∙ sym two
row_alone rows (x ∷ xs) number other one two = key_alone bytes_eq rows (x ∷ xs) number other one two

-- a number stands for one row
pub row_is : (rows : List (List ℕ)) (row other : List ℕ) (number : ℕ) → IsRow rows row number
    → IsRow rows other number → row ≡ other
row_is rows [] [] number one two = refl
row_is rows [] (y ∷ ys) number one two =
    absurd (omega (arith, one, key_some bytes_eq rows (y ∷ ys) number two))
row_is rows (x ∷ xs) [] number one two =
    absurd (omega (arith, two, key_some bytes_eq rows (x ∷ xs) number one))
row_is rows (x ∷ xs) (y ∷ ys) number one two =
    key_is bytes_eq bytes_eq_sound rows (x ∷ xs) (y ∷ ys) number one two

-- no row has number 0, and a row that has an element another
pub no_row : (rows : List (List ℕ)) (row : List ℕ) → IsRow rows row 0 → row ≡ []
no_row rows [] is = refl
no_row rows (x ∷ xs) is = absurd (omega (arith, key_some bytes_eq rows (x ∷ xs) 0 is))

-- the number of a row that has an element stands for the row
pub some_row : (rows : List (List ℕ)) (row : List ℕ) (number : ℕ) → HasRank row
    → KeyAt bytes_eq rows row number → IsRow rows row number
unfolding HasRank
some_row rows [] number has is = absurd (let e : [] ≡ has.0 ∷ has.1 = has.2 in cc)
some_row rows (x ∷ xs) number has is = is

-- ---- rows that are written category by category

-- a row that is as a function says before a place is so up to the place after it is set
pub set_done : (row : List ℕ) (f : ℕ → ℕ) (k v : ℕ) → k < length row → v ≡ f k
    → ((c : ℕ) → c < k → get_or row c 0 ≡ f c) → (c : ℕ) → c < k + 1 → get_or (set row k v) c 0 ≡ f c
set_done row f k v within is before c below = elim (cases_eq c k) [
  | inl e ↦ ap (λ n. get_or (set row k v) n 0) e ∙ get_or-set_same row k v 0 within ∙ is ∙ ap f (sym e)
  | inr other ↦ get_or-set_other row k c v 0 other ∙ before c (omega (arith, below, other))
]

-- a row that is as a function says from a place on is so from the next one on after the place is set
pub set_left : (row : List ℕ) (f : ℕ → ℕ) (k v : ℕ) → ((c : ℕ) → k ≤ c → get_or row c 0 ≡ f c)
    → (c : ℕ) → k + 1 ≤ c → get_or (set row k v) c 0 ≡ f c
set_left row f k v after c above =
    get_or-set_other row k c v 0 (λ e. omega (arith, above, e)) ∙ after c (omega (arith, above))

-- a row that is as a function says before a place and at it is so up to the place
pub stay_done : (row : List ℕ) (f : ℕ → ℕ) (k : ℕ) → get_or row k 0 ≡ f k
    → ((c : ℕ) → c < k → get_or row c 0 ≡ f c) → (c : ℕ) → c < k + 1 → get_or row c 0 ≡ f c
stay_done row f k is before c below = elim (cases_eq c k) [
  | inl e ↦ ap (λ n. get_or row n 0) e ∙ is ∙ ap f (sym e)
  | inr other ↦ before c (omega (arith, below, other))
]

-- a row that has in each category what the rule has there
pub rule_done : (row : List ℕ) (rule : Ranked) → length row ≡ 16
    → ((c : ℕ) → c < 16 → get_or row c 0 ≡ cond (rule.mask / 2 ^ c % 2 == 1) rule.rank 0) → row ≡ row_of_rule rule
unfolding row_of_rule
rule_done row rule long each =
    let f : ℕ → ℕ = λ c. cond (rule.mask / 2 ^ c % 2 == 1) rule.rank 0 in
    ext_get_or 0 row (map f (range_with_len 0 16)) (long ∙ sym (length-map-range_with_len f 0 16))
    (λ i below. each i (omega (arith, long, below))
    ∙ sym (get_or-map-range_with_len f 0 16 i i 0 (omega (arith, long, below)) (omega arith)))

-- or what two rows have together
pub join_done : (row one other : List ℕ) → length row ≡ 16 → length one ≡ 16 → length other ≡ 16
    → ((c : ℕ) → c < 16 → get_or row c 0 ≡ max (get_or one c 0) (get_or other c 0)) → row ≡ join_rows one other
join_done row one other long long_one long_other each =
    let same : length one ≡ length other = long_one ∙ sym long_other in
    ext_get_or 0 row (join_rows one other) (long ∙ sym (length-join one other same ∙ long_one))
    (λ i below. each i (omega (arith, long, below))
    ∙ sym (get-join one other i same (omega (arith, long, long_one, below))))

-- a row and itself
pub join_same : (row : List ℕ) → join_rows row row ≡ row
join_same [] = refl
join_same (x ∷ xs) = let e : max x x ≡ x = omega arith in λ i. e i ∷ join_same xs i

-- the row of a number that is there
pub row_of_number : (rows more : List (List ℕ)) (row : List ℕ) (number : ℕ) → 0 < number → number ≤ length rows
    → IsRow (rows ++ more) row number → get_or rows (number - 1) [] ≡ row
row_of_number rows more [] number some within is = absurd (omega (arith, some, is))
row_of_number rows more (x ∷ xs) number some within is =
    sym (get_or_append_left rows more [] (number - 1) (omega (arith, some, within)))
    ∙ key_at bytes_eq bytes_eq_sound (rows ++ more) (x ∷ xs) [] number is

-- two rows as one, of which the first is there
pub joined_row : (rows : List (List ℕ)) (one other : List ℕ) (left number : ℕ) → 0 < left → IsRow rows one left
    → KeyAt bytes_eq rows (join_rows one other) number → IsRow rows (join_rows one other) number
joined_row rows [] other left number some is at = absurd (omega (arith, some, is))
joined_row rows (x ∷ xs) other left number some is at =
    some_row rows (join_rows (x ∷ xs) other) number (join_has_rank (x ∷ xs) other (has_rank x xs)) at
