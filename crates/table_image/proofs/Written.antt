-- Bytes that are written one part after the other.
use Rattle.std.proofs.Common.{◌≡◌, ℕ, zero, suc, ◌+◌, ◌*◌, ◌^◌, ◌<◌, ◌≤◌, List, [], ◌∷◌, ◌++◌, length, take, drop}
use Rattle.std.proofs.Common.{map, sum, refl, sym, ap, ◌∙◌, arith, append_assoc, get_or, Bool, true, None}
use Rattle.std.specs.List.{flat_map, list_all, range_with_len}
use Rattle.std.proofs.lemmas.List.{append-nil, take-append-drop, take_more, take_all, flat_map_more, drop_more}
use Rattle.std.proofs.lemmas.Grind.{flat_map-append}
use Rattle.std.proofs.lemmas.List.Sums.{sum_by-cons}
use Rattle.std.proofs.lemmas.Bool.{and_parts, and_from, lt-ltb, ltb-true}
use Rattle.std.proofs.lemmas.List.FromFn.{length-range_with_len}
use Rattle.std.proofs.lemmas.List.Sums.{count_by-le-length}
use Rattle.std.proofs.lemmas.List.Sums.{length-filter}
use Rattle.table_sizes.specs.Groups.{is_kept}
use Rattle.flat_table.specs.Groups.{groups_of, is_kept_word, depth_of}
use Rattle.flat_table.specs.Sound.{begins_with_zeros}
use Rattle.flat_table.specs.Table.{TableView}
use Rattle.flat_table.specs.Sound.{sound_fault}
use Rattle.flat_table.proofs.Offered.{sound_parts}
use Rattle.table_image.specs.declared.version.Version.TheVariants.{Two}
use Rattle.table_image.specs.Spelling.{PairView, magic, spelled_table, spelled_pair, short, long, spelled}
use Rattle.table_image.specs.Spelling.{all_spelled, spelled_trie, spelled_tries, is_word, is_row}
use Rattle.table_image.proofs.TablesSpelled.{zeros_are}
use Rattle.table_image.proofs.TriesSpelled.{kept_small}
use Rattle.std.proofs.Math.Pow.{pow_mono}

-- the bytes of one element more
pub one_more : {A : Type 0} (f : A → List ℕ) (old now next : List ℕ) (xs : List A) (i : ℕ) (x : A) → i < length xs →
    x ≡ get_or xs i x → now ≡ old ++ flat_map f (take i xs) → next ≡ now ++ f x →
    next ≡ old ++ flat_map f (take (i + 1) xs)
one_more f old now next xs i x within is e n =
    n ∙ ap (λ ys. ys ++ f x) e ∙ flat_map_more f old (take i xs) x
    ∙ ap (λ ys. old ++ flat_map f ys) (ap (λ y. take i xs ++ y ∷ []) is ∙ sym (take_more xs i x within))

-- and of all
pub all_of : {A : Type 0} (f : A → List ℕ) (old now : List ℕ) (xs : List A) (n : ℕ) → length xs ≤ n →
    now ≡ old ++ flat_map f (take n xs) → now ≡ old ++ flat_map f xs
all_of f old now xs n all e = e ∙ ap (λ ys. old ++ flat_map f ys) (take_all n xs all)

-- some of the numbers are written, and the others after them
pub some_written : (size n : ℕ) (xs some others out now all : List ℕ) → some ≡ take n xs → others ≡ drop n xs →
    now ≡ out ++ all_spelled size some → out ++ all_spelled size xs ≡ all → now ++ all_spelled size others ≡ all
some_written size n xs some others out now all front back e f =
    let parts : all_spelled size some ++ all_spelled size others ≡ all_spelled size xs =
    sym (flat_map-append (spelled size) some others)
    ∙ ap (all_spelled size) (ap (λ ys. ys ++ others) front ∙ ap (λ ys. take n xs ++ ys) back ∙ take-append-drop n xs) in
    ap (λ ys. ys ++ all_spelled size others) e ∙ append_assoc out (all_spelled size some) (all_spelled size others)
    ∙ ap (λ ys. out ++ ys) parts ∙ f

-- and no others
pub none_left : (size : ℕ) (left out all : List ℕ) → length left ≡ 0 → out ++ all_spelled size left ≡ all → out ≡ all
none_left size [] out all e f = sym (append-nil out) ∙ f
none_left size (x ∷ left) out all e f = absurd (omega arith)

-- what each element passes, all pass
pub all_from : (p : ℕ → Bool) (xs : List ℕ) → ((k : ℕ) → k < length xs → p (get_or xs k 0) ≡ true) →
    list_all p xs ≡ true
all_from p [] each = refl
all_from p (x ∷ xs) each = and_from (p x) (list_all p xs) (each 0 (omega arith))
    (all_from p xs (λ k h. each (suc k) (omega arith)))

-- the numbers of a type of 64 bits
pub words_typed : (xs : List ℕ) → ((k : ℕ) → get_or xs k 0 < 2 ^ 64) → list_all is_word xs ≡ true
words_typed xs each = all_from is_word xs (λ k h. lt-ltb (get_or xs k 0) (2 ^ 64) (each k))

-- an element of a list that passes a test
each_of : (p : ℕ → Bool) (xs : List ℕ) (k : ℕ) → list_all p xs ≡ true → k < length xs → p (get_or xs k 0) ≡ true
each_of p [] k all h = absurd (omega arith)
each_of p (x ∷ xs) zero all h = (and_parts (p x) (list_all p xs) all).0
each_of p (x ∷ xs) (suc k) all h = each_of p xs k (and_parts (p x) (list_all p xs) all).1 (omega arith)

-- one trie more is written
pub trie_written : (key_len i : ℕ) (kept roots lens out next : List ℕ) → i < length kept → i < length roots →
    next ≡ ((out ++ spelled short (get_or kept i 0)) ++ all_spelled short
    (take (depth_of key_len (get_or kept i 0)) lens))
    ++ spelled long (get_or roots i 0) →
    next ++ spelled_tries Two key_len (drop (i + 1) kept) (drop (i + 1) roots)
    (drop (depth_of key_len (get_or kept i 0)) lens)
    ≡ out ++ spelled_tries Two key_len (drop i kept) (drop i roots) lens
trie_written key_len i kept roots lens out next within within' e =
    let unfolded : spelled_tries Two key_len (drop i kept) (drop i roots) lens
    ≡ spelled_trie Two (get_or kept i 0) (take (depth_of key_len (get_or kept i 0)) lens) (get_or roots i 0)
    ++ spelled_tries Two key_len (drop (i + 1) kept) (drop (i + 1) roots)
    (drop (depth_of key_len (get_or kept i 0)) lens) =
    ap (λ ks. spelled_tries Two key_len ks (drop i roots) lens) (drop_more kept i 0 within)
    ∙ ap (λ rs. spelled_tries Two key_len (get_or kept i 0 ∷ drop (i + 1) kept) rs lens) (drop_more roots i 0 within')
    in
    rw (e, unfolded) (simp append_assoc)

-- the levels left after those of one trie
pub levels_left : (depth : ℕ → ℕ) (i : ℕ) (kept lens : List ℕ) → i < length kept →
    length lens ≡ sum (map depth (drop i kept)) →
    length lens ≡ depth (get_or kept i 0) + sum (map depth (drop (i + 1) kept))
levels_left depth i kept lens within e =
    e ∙ ap (λ ks. sum (map depth ks)) (drop_more kept i 0 within)
    ∙ sum_by-cons (λ n. n) (depth (get_or kept i 0)) (map depth (drop (i + 1) kept))

-- the kept groups of a short key have 32 bits
pub kept_fits : (table : TableView) (k : ℕ) → sound_fault table ≡ None → table.key_len ≤ 37 → k < length table.kept →
    get_or table.kept k 0 < 2 ^ 32
kept_fits table k sound short_key within =
    let shape = (sound_parts table sound).shape in
    let keeps = each_of (is_kept_word table.key_len) table.kept k shape.kept within in
    let few : 2 ^ groups_of table.key_len ≤ 2 ^ 32 = pow_mono {i = groups_of table.key_len} {j = 32} (omega arith) in
    ltb-true (get_or table.kept k 0) (256 ^ short) (kept_small table.key_len (get_or table.kept k 0) few keeps)

-- as many tries as roots
pub kept_count : (table : TableView) → sound_fault table ≡ None → length table.kept ≡ length table.roots
kept_count table sound = (sound_parts table sound).shape.same

-- the levels of all tries
pub all_levels : (table : TableView) → sound_fault table ≡ None →
    length table.level_lens ≡ sum (map (depth_of table.key_len) table.kept)
all_levels table sound = (sound_parts table sound).shape.levels

-- the bounds of a sound table
pub record IsBounded (table : TableView) : Type 0 where
  pub tries : length table.roots ≤ 8
  pub levels : length table.level_lens ≤ 8 * 505
  pub words : length table.words + 16 * length table.rows ≤ 67108864
  pub rows : 0 < length table.rows

-- a trie has no more levels than a key has bytes
depth_le : (key_len kept : ℕ) → depth_of key_len kept ≤ key_len
depth_le key_len kept = omega (
  arith,
  length-filter (is_kept kept) (range_with_len 0 key_len),
  count_by-le-length (is_kept kept) (range_with_len 0 key_len),
  length-range_with_len 0 key_len,
)

-- each trie has at most 505 levels
depths_bound : (key_len : ℕ) (kept : List ℕ) → key_len ≤ 505 → sum (map (depth_of key_len) kept) ≤ 505 * length kept
depths_bound key_len [] few = omega arith
depths_bound key_len (k ∷ kept) few =
    omega (
      arith,
      sum_by-cons (λ n. n) (depth_of key_len k) (map (depth_of key_len) kept),
      depths_bound key_len kept
          few,
      depth_le key_len k,
    )

-- row 0 is a row, and is there
pub zeros_typed : (zeros : List ℕ) (later : List (List ℕ)) → length zeros ≡ 16 →
    begins_with_zeros (zeros ∷ later) ≡ true →
    list_all is_row later ≡ true → list_all is_row (zeros ∷ later) ≡ true
zeros_typed zeros later len begins typed =
    and_from (is_row zeros) (list_all is_row later)
    (ap is_row (sym (zeros_are 16 zeros len begins))) typed

-- rows that begin with zeros are at least one
some_row : (rows : List (List ℕ)) → begins_with_zeros rows ≡ true → 0 < length rows
some_row [] zeros = absurd cc
some_row (row ∷ rows) zeros = omega arith

-- a sound table is within these bounds
pub bounded : (table : TableView) → sound_fault table ≡ None → IsBounded table
bounded table sound =
    let shape = (sound_parts table sound).shape in
    let deep = depths_bound table.key_len table.kept shape.key_bound in
    record {
      tries = shape.few;
      levels = omega (arith, deep, shape.levels, shape.same, shape.few);
      words = shape.small;
      rows = some_row table.rows shape.zeros;
    }

-- row 0 of a sound table has zeros
pub zeros_of : (table : TableView) → sound_fault table ≡ None → begins_with_zeros table.rows ≡ true
zeros_of table sound = (sound_parts table sound).shape.zeros

-- a pair is written: its magic, its version and its two tables
pub pair_written : (pair : PairView) (none one two three all : List ℕ) → none ≡ [] → one ≡ none ++ spelled 4 magic →
    two ≡ one ++ spelled 4 2 → three ≡ two ++ spelled_table Two 4 pair.ip4 →
    all ≡ three ++ spelled_table Two 6 pair.ip6 →
    all ≡ spelled_pair Two pair
unfolding spelled_pair
pair_written pair none one two three all a b c d e = rw (e, d, c, b, a) (simp append_assoc)
