-- How far what is read of an image reaches, and how many words it has.
use Rattle.std.proofs.Common.{◌≡◌, ℕ, zero, suc, ◌+◌, ◌*◌, ◌≤◌, List, [], ◌∷◌, ◌++◌, length, take, drop, sum}
use Rattle.std.proofs.Common.{refl, ap, arith, Ok}
use Rattle.std.specs.Prelude.{Bool, true, ◌==◌, nat_le, sum_by}
use Rattle.std.specs.List.{range_with_len}
use Rattle.std.proofs.lemmas.Bool.{leb-true}
use Rattle.std.proofs.lemmas.List.{length_push}
use Rattle.std.proofs.lemmas.List.FromFn.{length-range_with_len}
use Rattle.std.proofs.lemmas.List.Sums.{count_by-le-length, length-filter, sum_by-cons, sum_by-take-drop}
use Rattle.list_lemmas.proofs.Sums.{sum-append}
use Rattle.table_sizes.specs.Groups.{is_kept}
use Rattle.table_sizes.specs.Sizes.{max_rules, max_tries, max_words, row_len}
use Rattle.flat_table.specs.declared.level.Level.{Level}
use Rattle.flat_table.specs.Groups.{depth_of}
use Rattle.flat_table.specs.Sound.{first_level, is_sound_word, leads_into}
use Rattle.flat_table.specs.Table.{levels_from, portions}
use Rattle.table_image.specs.declared.load_fault.ImageKind.{ImageKind}
use Rattle.table_image.specs.declared.load_fault.ImageKind.TheVariants.{Family, RowForm, TooMany, Unsound}
use Rattle.table_image.specs.declared.version.Version.{Version}
use Rattle.table_image.specs.declared.version.Version.TheVariants.{One, Two}
use Rattle.table_image.specs.Spelling.{is_row_word, kept_len, long, short}
use Rattle.table_image.specs.ImageReading.{Counts, TriesView, ◌>>=◌, checked, counts, field, kept_groups}
use Rattle.table_image.specs.ImageReading.{level_fits, numbers, numbers_after, one_trie, rows_after}
use Rattle.table_image.specs.ImageReading.{tested, trie_of, tries_after, words_of_levels}
use Rattle.table_image.specs.ImageReading.{row_bytes, words_of_tries}
use Rattle.table_image.proofs.Readings.{of_both, of_check}

-- a trie keeps no more places than a key has bytes
pub depth_within : (key_len kept : ℕ) → depth_of key_len kept ≤ key_len
depth_within key_len kept =
    omega (
      arith,
      length-filter (is_kept kept) (range_with_len 0 key_len),
      count_by-le-length (is_kept kept) (range_with_len 0 key_len),
      length-range_with_len 0 key_len,
    )

-- the kept groups of a trie have at most 4 bytes
pub kept_len_within : (version : Version) → kept_len version ≤ 4
kept_len_within One = omega arith
kept_len_within Two = omega arith

-- how many words levels have together
abbrev pub words_in : List Level → ℕ
words_in levels = sum_by (λ level. level.len) levels

-- levels of some lengths have as many words
pub words_in-levels : (place : ℕ) (lens : List ℕ) → words_in (levels_from place lens) ≡ sum lens
words_in-levels place [] = refl
words_in-levels place (len ∷ lens) =
    omega (
      arith,
      sum_by-cons (λ (level : Level). level.len) (record { from = place; len = len }) (levels_from (place + len) lens),
      sum_by-cons (λ (n : ℕ). n) len lens,
      words_in-levels (place + len) lens,
    )

-- a number that was read passed its test
test_passed : (kind : ImageKind) (size : ℕ) (test : ℕ → Bool) (bytes : List ℕ) (at n : ℕ) →
    tested kind size test bytes at ≡ Ok n → test n ≡ true
test_passed kind size test bytes at n e =
    let parts = of_both (field size bytes at) (λ number. checked (test number) kind at number) n e in
    let passed = of_check (test parts.0) kind at parts.0 n parts.2 in
    rw passed.1 at passed.0

-- as many numbers were read as were asked for
pub numbers_count : (kind : ImageKind) (size : ℕ) (test : List ℕ → ℕ → Bool) (bytes : List ℕ) (from count : ℕ)
    (first all : List ℕ) → numbers_after kind size test bytes from count first ≡ Ok all →
    length all ≡ length first + count
unfolding numbers_after
numbers_count kind size test bytes from zero first all e =
    let same : first ≡ all = cc in omega (arith, ap length same)
numbers_count kind size test bytes from (suc count) first all e =
    let parts = of_both (tested kind size (test first) bytes (from + size * length first))
    (λ number. numbers_after kind size test bytes from count (first ++ number ∷ [])) all e in
    omega (
      arith,
      numbers_count kind size test bytes from count (first ++ parts.0 ∷ []) all parts.2,
      length_push first parts.0,
    )

-- levels that fit leave few enough words
lens_fit : (taken : ℕ) (bytes : List ℕ) (from count : ℕ) (first all : List ℕ) → taken + sum first ≤ max_words →
    numbers_after TooMany short (level_fits taken) bytes from count first ≡ Ok all → taken + sum all ≤ max_words
unfolding numbers_after
lens_fit taken bytes from zero first all few e =
    let same : first ≡ all = cc in omega (arith, ap sum same, few)
lens_fit taken bytes from (suc count) first all few e =
    let parts = of_both (tested TooMany short (level_fits taken first) bytes (from + short * length first))
    (λ number. numbers_after TooMany short (level_fits taken) bytes from count (first ++ number ∷ [])) all e in
    let fits = test_passed TooMany short (level_fits taken first) bytes (from + short * length first) parts.0 parts.1 in
    let less : taken + sum first + parts.0 ≤ max_words = leb-true (taken + sum first + parts.0) max_words fits in
    lens_fit taken bytes from count (first ++ parts.0 ∷ []) all
    (omega (arith, less, sum-append first (parts.0 ∷ []), sum_by-cons (λ (n : ℕ). n) parts.0 [])) parts.2

-- Tries that were read end soon enough, and leave few enough words.
pub record Reaches (taken end : ℕ) (tries : TriesView) : Type 0 where
  pub ends : tries.end ≤ end
  pub few : taken + sum tries.level_lens ≤ max_words

-- one trie more takes at most 12 bytes, and 4 for each byte of a key
pub one_trie_reaches : (version : Version) (key_len taken : ℕ) (bytes : List ℕ) (tries next : TriesView) →
    taken + sum tries.level_lens ≤ max_words → one_trie version key_len taken bytes tries ≡ Ok next →
    Reaches taken (tries.end + (12 + 4 * key_len)) next
one_trie_reaches version key_len taken bytes tries next few e =
    let kept = of_both (kept_groups version key_len bytes tries.end)
    (λ kept. trie_of version taken bytes tries kept (depth_of key_len kept)) next e in
    let depth = depth_of key_len kept.0 in
    let at = tries.end + kept_len version in
    let root_of : List ℕ → ℕ → TriesView = λ lens root. record {
      kept = tries.kept ++ kept.0 ∷ [];
      roots = tries.roots ++ root ∷ [];
      level_lens = tries.level_lens ++ lens;
      end = at + short * depth + long;
    } in
    let lens = of_both (numbers TooMany short (level_fits (taken + sum tries.level_lens)) bytes at depth)
    (λ lens. tested Unsound long (leads_into (first_level (levels_from (sum tries.level_lens) lens))) bytes
    (at + short * depth) >>= λ root. Ok (root_of lens root)) next kept.2 in
    let root = of_both (tested Unsound long (leads_into (first_level (levels_from (sum tries.level_lens) lens.0))) bytes
    (at + short * depth)) (λ root. Ok (root_of lens.0 root)) next lens.2 in
    let is : root_of lens.0 root.0 ≡ next = cc in
    record {
      ends = omega (
        arith,
        ap (λ (t : TriesView). t.end) is,
        kept_len_within version,
        depth_within key_len kept.0,
      );
      few = omega (
        arith,
        ap (λ (t : TriesView). sum t.level_lens) is,
        sum-append tries.level_lens lens.0,
        lens_fit (taken + sum tries.level_lens) bytes at depth [] lens.0 (omega (arith, few)) lens.1,
      );
    }

-- and so do some more
pub tries_reach : (version : Version) (key_len taken : ℕ) (bytes : List ℕ) (count : ℕ) (tries all : TriesView) →
    taken + sum tries.level_lens ≤ max_words → tries_after version key_len taken bytes count tries ≡ Ok all →
    Reaches taken (tries.end + (12 + 4 * key_len) * count) all
unfolding tries_after
tries_reach version key_len taken bytes zero tries all few e =
    let same : tries ≡ all = cc in
    record {
      ends = omega (arith, ap (λ (t : TriesView). t.end) same);
      few = omega (arith, few, ap (λ (t : TriesView). sum t.level_lens) same);
    }
tries_reach version key_len taken bytes (suc count) tries all few e =
    let parts = of_both (one_trie version key_len taken bytes tries)
    (tries_after version key_len taken bytes count) all e in
    let one = one_trie_reaches version key_len taken bytes tries parts.0 few parts.1 in
    let rest = tries_reach version key_len taken bytes count parts.0 all one.few parts.2 in
    record { ends = omega (arith, one.ends, rest.ends); few = rest.few }

-- as many words were read as the levels have
pub levels_count : (rows : ℕ) (bytes : List ℕ) (from : ℕ) (levels : List Level) (first all : List ℕ) →
    words_of_levels rows bytes from levels first ≡ Ok all → length all ≡ length first + words_in levels
unfolding words_of_levels
levels_count rows bytes from [] first all e =
    let same : first ≡ all = cc in omega (arith, ap length same)
levels_count rows bytes from (level ∷ levels) first all e =
    let test : List ℕ → ℕ → Bool = λ _. is_sound_word rows (first_level levels) in
    let parts = of_both (numbers_after Unsound long test bytes from level.len first)
    (words_of_levels rows bytes from levels) all e in
    omega (
      arith,
      numbers_count Unsound long test bytes from level.len first parts.0 parts.1,
      levels_count rows bytes from levels parts.0 all parts.2,
      sum_by-cons (λ (l : Level). l.len) level levels,
    )

-- and no more than the levels of all tries have
pub tries_count : (rows : ℕ) (bytes : List ℕ) (from : ℕ) (depths : List ℕ) (levels : List Level)
    (first all : List ℕ) → words_of_tries rows bytes from (portions depths levels) first ≡ Ok all →
    length all ≤ length first + words_in levels
unfolding words_of_tries
tries_count rows bytes from [] levels first all e =
    let same : first ≡ all = cc in omega (arith, ap length same)
tries_count rows bytes from (depth ∷ depths) levels first all e =
    let parts = of_both (words_of_levels rows bytes from (take depth levels) first)
    (words_of_tries rows bytes from (portions depths (drop depth levels))) all e in
    omega (
      arith,
      levels_count rows bytes from (take depth levels) first parts.0 parts.1,
      tries_count rows bytes from depths (drop depth levels) parts.0 all parts.2,
      sum_by-take-drop (λ (l : Level). l.len) levels depth,
    )

-- as many rows were read as were asked for
pub rows_count : (rules : ℕ) (bytes : List ℕ) (from count : ℕ) (first all : List (List ℕ)) →
    rows_after rules bytes from count first ≡ Ok all → length all ≡ length first + count
unfolding rows_after
rows_count rules bytes from zero first all e =
    let same : first ≡ all = cc in omega (arith, ap length same)
rows_count rules bytes from (suc count) first all e =
    let parts = of_both
    (numbers RowForm long (λ _. is_row_word rules) bytes (from + row_bytes * length first) row_len)
    (λ row. rows_after rules bytes from count (first ++ row ∷ [])) all e in
    omega (arith, rows_count rules bytes from count (first ++ parts.0 ∷ []) all parts.2, length_push first parts.0)

-- What an image says of a table before its tries is few enough.
pub record IsFew (counts : Counts) : Type 0 where
  pub tries : counts.tries ≤ max_tries
  pub rows : row_len * (counts.rows + 1) ≤ max_words

-- so it is of what was read
pub counts_few : (family : ℕ) (bytes : List ℕ) (at : ℕ) (read : Counts) → counts family bytes at ≡ Ok read → IsFew read
counts_few family bytes at read e =
    let few_tries : ℕ → Bool = λ number. nat_le number max_tries in
    let few_rows : ℕ → Bool = λ number. nat_le (row_len * (number + 1)) max_words in
    let after_rows : ℕ → ℕ → ℕ → Counts = λ rules tries rows. record { rules = rules; tries = tries; rows = rows } in
    let one = of_both (tested Family short (λ number. number == family) bytes at)
    (λ _. tested TooMany short (λ number. nat_le number max_rules) bytes (at + 4) >>= λ rules.
    tested TooMany short few_tries bytes (at + 8) >>= λ tries.
    tested TooMany short few_rows bytes (at + 12) >>= λ rows. Ok (after_rows rules tries rows)) read e in
    let two = of_both (tested TooMany short (λ number. nat_le number max_rules) bytes (at + 4))
    (λ rules. tested TooMany short few_tries bytes (at + 8) >>= λ tries.
    tested TooMany short few_rows bytes (at + 12) >>= λ rows. Ok (after_rows rules tries rows)) read one.2 in
    let three = of_both (tested TooMany short few_tries bytes (at + 8))
    (λ tries. tested TooMany short few_rows bytes (at + 12) >>= λ rows. Ok (after_rows two.0 tries rows)) read two.2 in
    let four = of_both (tested TooMany short few_rows bytes (at + 12))
    (λ rows. Ok (after_rows two.0 three.0 rows)) read three.2 in
    let is : after_rows two.0 three.0 four.0 ≡ read = cc in
    record {
      tries = omega (
        arith,
        ap (λ (c : Counts). c.tries) is,
        leb-true three.0 max_tries (test_passed TooMany short few_tries bytes (at + 8) three.0 three.1),
      );
      rows = omega (
        arith,
        ap (λ (c : Counts). c.rows) is,
        leb-true (row_len * (four.0 + 1)) max_words
            (test_passed TooMany short few_rows bytes (at + 12) four.0 four.1),
      );
    }
