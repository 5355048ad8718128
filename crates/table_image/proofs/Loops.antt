-- One more number, trie, level or row is read after those so far.
use Rattle.std.proofs.Common.{◌≡◌, ℕ, ◌+◌, ◌*◌, List, [], ◌∷◌, ◌++◌, length, refl, sym, ap, ◌∙◌, arith, Bool, Ok, Err}
use Rattle.std.proofs.Common.{add-one, take, drop, sum, map, get_or, ◌<◌, ◌≤◌}
use Rattle.table_image.specs.declared.load_fault.ImageKind.{ImageKind}
use Rattle.table_image.specs.declared.load_fault.ImageFault.{ImageFault}
use Rattle.table_image.specs.declared.load_fault.LoadFault.{LoadFault}
use Rattle.table_image.specs.declared.load_fault.LoadFault.TheVariants.{Image, OutOfMemory}
use Rattle.table_image.specs.declared.version.Version.{Version}
use Rattle.table_image.specs.ImageReading.{Reading, ◌>>=◌, checked, field, tested, numbers_after, TriesView, one_trie}
use Rattle.table_image.specs.ImageReading.{tries_after}
use Rattle.table_image.specs.ImageReading.{numbers, level_fits, trie_of, words_of_levels, words_of_tries, rows_after}
use Rattle.table_image.specs.ImageReading.{row_bytes}
use Rattle.table_image.specs.Spelling.{short, long, kept_len, is_row_word}
use Rattle.table_image.specs.declared.load_fault.ImageKind.TheVariants.{TooMany, Unsound, RowForm}
use Rattle.table_sizes.specs.Sizes.{row_len}
use Rattle.flat_table.specs.Table.{levels_from, portions}
use Rattle.flat_table.specs.Sound.{leads_into, is_sound_word, first_level}
use Rattle.flat_table.proofs.Offered.{levels-take, levels-drop}
use Rattle.std.proofs.lemmas.List.{drop_more, drop_all, drop-drop}
use Rattle.std.proofs.lemmas.List.Sums.{sum_by-cons, sum_by-take-drop}
use Rattle.table_image.specs.Loading.{IsFaultOf}

-- the fault of a reading is that of a reading that begins with it
pub fault_of_both : {A B : Type 0} (first : Reading A) (second : A → Reading B) (fault : LoadFault) →
    IsFaultOf first fault →
    IsFaultOf (first >>= second) fault
fault_of_both first second (Image fault) e = rw e refl
fault_of_both first second OutOfMemory e = tt

-- and of an equal one
pub fault_of_same : {A : Type 0} (one other : Reading A) (fault : LoadFault) → one ≡ other → IsFaultOf other fault →
    IsFaultOf one fault
fault_of_same one other (Image fault) same e = same ∙ e
fault_of_same one other OutOfMemory same e = tt

-- numbers after others, of which one more is read at the place
module _ (kind : ImageKind) (size : ℕ) (test : List ℕ → ℕ → Bool) (bytes : List ℕ) (from count left at : ℕ)
    (first : List ℕ)
    (some : count ≡ left + 1) (here : at ≡ from + size * length first) where
  -- numbers are read as the next one, and then the others
  one_more : numbers_after kind size test bytes from count first
      ≡ (tested kind size (test first) bytes at >>= λ number.
      numbers_after kind size test bytes from left (first ++ number ∷ []))
  unfolding numbers_after
  one_more = rw (some, add-one left, here) refl

  -- a number that is read and passes is added to those before it
  pub number_read : (n m : ℕ) → field size bytes at ≡ Ok n → checked (test first n) kind at n ≡ Ok m →
      numbers_after kind size test bytes from count first
      ≡ numbers_after kind size test bytes from left (first ++ m ∷ [])
  number_read n m e f = one_more ∙ (rw (e, f) refl)

  -- a fault of the next number is that of all
  pub number_cut : (fault : ImageFault) → field size bytes at ≡ Err fault →
      numbers_after kind size test bytes from count first ≡ Err fault
  number_cut fault e = one_more ∙ (rw e refl)

  -- and so is the fault of its test
  pub number_refused : (n : ℕ) (fault : ImageFault) → field size bytes at ≡ Ok n →
      checked (test first n) kind at n ≡ Err fault →
      numbers_after kind size test bytes from count first ≡ Err fault
  number_refused n fault e f = one_more ∙ (rw (e, f) refl)

-- no numbers more
pub numbers_end : (kind : ImageKind) (size : ℕ) (test : List ℕ → ℕ → Bool) (bytes : List ℕ) (from count : ℕ)
    (first : List ℕ) →
    count ≡ 0 → numbers_after kind size test bytes from count first ≡ Ok first
unfolding numbers_after
numbers_end kind size test bytes from count first none = rw none refl

-- the words of one level more, and of no levels more
pub level_more : (rows : ℕ) (bytes : List ℕ) (from p i : ℕ) (lens first : List ℕ) → i < length lens →
    words_of_levels rows bytes from (levels_from p (drop i lens)) first
    ≡ (numbers_after Unsound long
    (λ _. is_sound_word rows (first_level (levels_from (p + get_or lens i 0) (drop (i + 1) lens))))
    bytes from (get_or lens i 0) first
    >>= words_of_levels rows bytes from (levels_from (p + get_or lens i 0) (drop (i + 1) lens)))
unfolding words_of_levels
level_more rows bytes from p i lens first within =
    ap (λ ls. words_of_levels rows bytes from (levels_from p ls) first) (drop_more lens i 0 within)

-- no words are read after the last level
pub levels_end : (rows : ℕ) (bytes : List ℕ) (from p n : ℕ) (lens first : List ℕ) → length lens ≤ n →
    words_of_levels rows bytes from (levels_from p (drop n lens)) first ≡ Ok first
unfolding words_of_levels
levels_end rows bytes from p n lens first all =
    ap (λ ls. words_of_levels rows bytes from (levels_from p ls) first) (drop_all n lens all)

-- the words of one trie more, and of no tries more
pub trie_words_more : (rows : ℕ) (bytes : List ℕ) (from : ℕ) (depth : ℕ → ℕ) (i p : ℕ) (kept lens first : List ℕ) →
    i < length kept →
    words_of_tries rows bytes from (portions (map depth (drop i kept)) (levels_from p lens)) first
    ≡ (words_of_levels rows bytes from (levels_from p (take (depth (get_or kept i 0)) lens)) first
    >>= words_of_tries rows bytes from (portions (map depth (drop (i + 1) kept))
    (levels_from (p + sum (take (depth (get_or kept i 0)) lens)) (drop (depth (get_or kept i 0)) lens))))
unfolding words_of_tries
trie_words_more rows bytes from depth i p kept lens first within =
    let d : ℕ = depth (get_or kept i 0) in
    ap (λ ks. words_of_tries rows bytes from (portions (map depth ks) (levels_from p lens)) first)
    (drop_more kept i 0 within)
    ∙ ap (λ levels. words_of_levels rows bytes from levels first >>= words_of_tries rows bytes from
    (portions (map depth (drop (i + 1) kept)) (drop d (levels_from p lens)))) (levels-take d p lens)
    ∙ ap (λ levels. words_of_levels rows bytes from (levels_from p (take d lens)) first
    >>= words_of_tries rows bytes from
    (portions (map depth (drop (i + 1) kept)) levels)) (levels-drop d p lens)

-- no words are read after the last trie
pub tries_words_end : (rows : ℕ) (bytes : List ℕ) (from : ℕ) (depth : ℕ → ℕ) (n p : ℕ) (kept lens first : List ℕ) →
    length kept ≤ n →
    words_of_tries rows bytes from (portions (map depth (drop n kept)) (levels_from p lens)) first ≡ Ok first
unfolding words_of_tries
tries_words_end rows bytes from depth n p kept lens first all =
    ap (λ ks. words_of_tries rows bytes from (portions (map depth ks) (levels_from p lens)) first) (drop_all n kept all)

-- a loop over tries stands at one of them: its levels are there, and those of the tries after it
pub record TrieTurn (depth : ℕ → ℕ) (i first : ℕ) (kept lens : List ℕ) : Type 0 where
  pub bound : first + depth (get_or kept i 0) ≤ length lens
  pub levels : first + depth (get_or kept i 0) + sum (map depth (drop (i + 1) kept)) ≡ length lens
  pub words : sum (take (depth (get_or kept i 0)) (drop first lens)) + sum (drop (first + depth (get_or kept i 0)) lens)
      ≡ sum (drop first lens)
  pub back : drop (depth (get_or kept i 0)) (drop first lens) ≡ drop (first + depth (get_or kept i 0)) lens

-- a loop that stands at a trie finds its levels, and after them those of the later tries
pub trie_turn : (depth : ℕ → ℕ) (i first : ℕ) (kept lens : List ℕ) → i < length kept →
    first + sum (map depth (drop i kept)) ≡ length lens → TrieTurn depth i first kept lens
trie_turn depth i first kept lens within at =
    let d : ℕ = depth (get_or kept i 0) in
    let total : sum (map depth (drop i kept)) ≡ d + sum (map depth (drop (i + 1) kept)) =
    ap (λ ks. sum (map depth ks)) (drop_more kept i 0 within) ∙ sum_by-cons (λ n. n) d (map depth (drop (i + 1) kept))
    in
    let back : drop d (drop first lens) ≡ drop (first + d) lens = drop-drop d first lens in
    record {
      bound = omega (arith, total, at);
      levels = omega (arith, total, at);
      words = ap (λ xs. sum (take d (drop first lens)) + sum xs) (sym back) ∙ sum_by-take-drop (λ (x : ℕ). x)
          (drop first lens) d;
      back = back;
    }

-- one row more, and no rows more
pub row_more : (rules : ℕ) (bytes : List ℕ) (from count left : ℕ) (first : List (List ℕ)) → count ≡ left + 1 →
    rows_after rules bytes from count first
    ≡ (numbers RowForm long (λ _. is_row_word rules) bytes (from + row_bytes * length first) row_len >>= λ row.
    rows_after rules bytes from left (first ++ row ∷ []))
unfolding rows_after
row_more rules bytes from count left first some = rw (some, add-one left) refl

-- no row is read after the last one
pub rows_end : (rules : ℕ) (bytes : List ℕ) (from count : ℕ) (first : List (List ℕ)) → count ≡ 0 →
    rows_after rules bytes from count first ≡ Ok first
unfolding rows_after
rows_end rules bytes from count first none = rw none refl

-- one trie more, and no tries more
pub trie_more : (version : Version) (key_len taken : ℕ) (bytes : List ℕ) (count left : ℕ) (tries : TriesView) →
    count ≡ left + 1 →
    tries_after version key_len taken bytes count tries
    ≡ (one_trie version key_len taken bytes tries >>= tries_after version key_len taken bytes left)
unfolding tries_after
trie_more version key_len taken bytes count left tries some = rw (some, add-one left) refl

-- no trie is read after the last one
pub tries_end : (version : Version) (key_len taken : ℕ) (bytes : List ℕ) (count : ℕ) (tries : TriesView) → count ≡ 0 →
    tries_after version key_len taken bytes count tries ≡ Ok tries
unfolding tries_after
tries_end version key_len taken bytes count tries none = rw none refl

-- one trie more, of which the code knows how many words the levels before it have, and the place after its kept groups
module _ (version : Version) (taken : ℕ) (bytes : List ℕ) (tries : TriesView) (kept depth words at : ℕ)
    (before : words ≡ sum tries.level_lens) (place : at ≡ tries.end + kept_len version) where
  -- the lengths of its levels have a fault
  pub trie_cut : (fault : LoadFault) →
      IsFaultOf (numbers TooMany short (level_fits (taken + words)) bytes at depth) fault →
      IsFaultOf (trie_of version taken bytes tries kept depth) fault
  trie_cut (Image fault) e = rw (← before, ← place) (rw e refl)
  trie_cut OutOfMemory e = tt

  module _ (lens : List ℕ) (read : numbers TooMany short (level_fits (taken + words)) bytes at depth ≡ Ok lens) where
    -- its root has one
    pub trie_refused : (fault : ImageFault) →
        tested Unsound long (leads_into (first_level (levels_from words lens))) bytes (at + short * depth) ≡ Err fault →
        trie_of version taken bytes tries kept depth ≡ Err fault
    trie_refused fault e = rw (← before, ← place) (rw read (rw e refl))

    -- both were read
    pub trie_read : (root : ℕ) →
        tested Unsound long (leads_into (first_level (levels_from words lens))) bytes (at + short * depth) ≡ Ok root →
        trie_of version taken bytes tries kept depth ≡ Ok (record {
          kept = tries.kept ++ kept ∷ [];
          roots = tries.roots ++ root ∷ [];
          level_lens = tries.level_lens ++ lens;
          end = at + short * depth + long;
        })
    trie_read root e = rw (← before, ← place) (rw read (rw e refl))
