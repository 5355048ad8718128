-- What stands after enough bytes changes nothing of what is read of an image.
use Rattle.std.proofs.Common.{◌≡◌, ℕ, zero, suc, ◌+◌, ◌*◌, ◌<◌, ◌≤◌, List, [], ◌∷◌, ◌++◌, length, take, drop, sum}
use Rattle.std.proofs.Common.{false, refl, sym, ap, ◌∙◌, arith, length-append, Ok, Err}
use Rattle.std.specs.Prelude.{◌==◌, ◌||◌, nat_le, Bool}
use Rattle.std.proofs.Math.Nat.{mul-le-mul_left}
use Rattle.std.proofs.lemmas.Bool.{eqb-true, le-leb, ne_eqb}
use Rattle.std.proofs.lemmas.List.{drop-append-le, take-append-le, length-drop, length_push}
use Rattle.std.proofs.lemmas.List.Sums.{sum_by-cons, sum_by-take-drop}
use Rattle.byte_numbers.specs.Number.{number_at, number_of}
use Rattle.table_sizes.specs.Sizes.{max_rules, max_tries, max_words, row_len}
use Rattle.flat_table.specs.declared.level.Level.{Level}
use Rattle.flat_table.specs.Groups.{depth_of, is_kept_word}
use Rattle.flat_table.specs.Sound.{first_level, is_sound_word, leads_into}
use Rattle.flat_table.specs.Table.{levels_from, portions, trie_levels, depths_of}
use Rattle.table_image.specs.declared.load_fault.ImageKind.{ImageKind}
use Rattle.table_image.specs.declared.load_fault.ImageKind.TheVariants.{Family, KeptGroups, Length, Magic, RowForm}
use Rattle.table_image.specs.declared.load_fault.ImageKind.TheVariants.{TooMany, Trailing, Unsound}
use Rattle.table_image.specs.declared.load_fault.ImageKind.TheVariants as kind
use Rattle.table_image.specs.declared.version.Version.{Version}
use Rattle.table_image.specs.declared.version.Version.TheVariants.{One, Two}
use Rattle.table_image.specs.Laws.{longest_image, longest_table, longest_trie}
use Rattle.table_image.specs.Spelling.{PairView, is_row_word, kept_len, long, magic, short}
use Rattle.table_image.specs.ImageReading.{Counts, Reading, TableRead, TriesView, ◌>>=◌, checked, counts, fault_at, field}
use Rattle.table_image.specs.ImageReading.{image_of, kept_groups, level_fits, no_tries, numbers, numbers_after, one_trie}
use Rattle.table_image.specs.ImageReading.{pair_read, row_bytes, rows_after, table_of, table_read, tested, trie_of}
use Rattle.table_image.specs.ImageReading.{tries_after, version_of, version_read, words_and_rows, words_of_levels}
use Rattle.table_image.specs.ImageReading.{words_of_tries}
use Rattle.table_image.proofs.Readings.{check_passed, of_both, of_check}
use Rattle.table_image.proofs.Extents.{counts_few, depth_within, kept_len_within, levels_count, numbers_count}
use Rattle.table_image.proofs.Extents.{one_trie_reaches, rows_count, tries_count, tries_reach, words_in, words_in-levels}

-- two readings go on alike from one value if they do so wherever it was read
alike_after : {A B : Type 0} (first : Reading A) (one other : A → Reading B) →
    ((value : A) → first ≡ Ok value → one value ≡ other value) → (first >>= one) ≡ (first >>= other)
alike_after (Ok value) one other same = same value refl
alike_after (Err fault) one other same = refl

-- two readings of which the first parts are alike, and the rest after them
alike : {A B : Type 0} (first second : Reading A) (one other : A → Reading B) → first ≡ second →
    ((value : A) → second ≡ Ok value → one value ≡ other value) → (first >>= one) ≡ (second >>= other)
alike first second one other begins same = ap (λ r. r >>= one) begins ∙ alike_after second one other same

-- a check that fails tells its place
check_failed : {A : Type 0} (passes : Bool) (kind : ImageKind) (at : ℕ) (value : A) → passes ≡ false →
    checked passes kind at value ≡ Err (fault_at kind at)
check_failed passes kind at value e = rw e refl

module _ (front more : List ℕ) where
  -- all bytes
  abbrev all : List ℕ
  all = front ++ more

  -- a field that lies in the first bytes
  field_same : (size at : ℕ) → at + size ≤ length front → field size all at ≡ field size front at
  field_same size at inside =
      let text : take size (drop at all) ≡ take size (drop at front) =
      ap (take size) (drop-append-le at front more (omega (arith, inside)))
      ∙ take-append-le size (drop at front) more (omega (arith, inside, length-drop at front)) in
      check_passed (nat_le (at + size) (length all)) Length at (number_at all at size)
      (le-leb (at + size) (length all) (omega (arith, inside, length-append front more)))
      ∙ ap (λ (bytes : List ℕ). let read : Reading ℕ = Ok (number_of bytes) in read) text
      ∙ sym (check_passed (nat_le (at + size) (length front)) Length at (number_at front at size)
      (le-leb (at + size) (length front) inside))

  -- and one with a test
  tested_same : (kind : ImageKind) (size : ℕ) (test : ℕ → Bool) (at : ℕ) → at + size ≤ length front →
      tested kind size test all at ≡ tested kind size test front at
  tested_same kind size test at inside =
      ap (λ r. r >>= λ number. checked (test number) kind at number) (field_same size at inside)

  -- and numbers one after the other
  numbers_same : (kind : ImageKind) (size : ℕ) (test : List ℕ → ℕ → Bool) (from count : ℕ) (first : List ℕ) →
      from + size * (length first + count) ≤ length front →
      numbers_after kind size test all from count first ≡ numbers_after kind size test front from count first
  unfolding numbers_after
  numbers_same kind size test from zero first inside = refl
  numbers_same kind size test from (suc count) first inside =
      let here : from + size * length first + size ≤ length front = omega (arith, inside) in
      alike (tested kind size (test first) all (from + size * length first))
      (tested kind size (test first) front (from + size * length first))
      (λ number. numbers_after kind size test all from count (first ++ number ∷ []))
      (λ number. numbers_after kind size test front from count (first ++ number ∷ []))
      (tested_same kind size (test first) (from + size * length first) here)
      (λ number e.
      let next : size * (length first + 1 + count) ≡ size * (length first + suc count) =
      ap (λ k. size * k) (omega arith) in
      numbers_same kind size test from count (first ++ number ∷ [])
      (rw (length_push first number) (omega (arith, inside, next))))

  -- the kept groups of a trie
  kept_same : (version : Version) (key_len at : ℕ) → at + 4 ≤ length front →
      kept_groups version key_len all at ≡ kept_groups version key_len front at
  kept_same One key_len at inside = refl
  kept_same Two key_len at inside = tested_same KeptGroups short (is_kept_word key_len) at inside

  -- the levels and the root of a trie
  trie_same : (version : Version) (taken : ℕ) (tries : TriesView) (kept depth : ℕ) →
      tries.end + kept_len version + short * depth + long ≤ length front →
      trie_of version taken all tries kept depth ≡ trie_of version taken front tries kept depth
  trie_same version taken tries kept depth inside =
      let at = tries.end + kept_len version in
      let fits = level_fits (taken + sum tries.level_lens) in
      let leads : List ℕ → ℕ → Bool = λ lens. leads_into (first_level (levels_from (sum tries.level_lens) lens)) in
      let made : List ℕ → ℕ → Reading TriesView = λ lens root. Ok (record {
        kept = tries.kept ++ kept ∷ [];
        roots = tries.roots ++ root ∷ [];
        level_lens = tries.level_lens ++ lens;
        end = at + short * depth + long;
      }) in
      alike (numbers TooMany short fits all at depth) (numbers TooMany short fits front at depth)
      (λ lens. tested Unsound long (leads lens) all (at + short * depth) >>= made lens)
      (λ lens. tested Unsound long (leads lens) front (at + short * depth) >>= made lens)
      (numbers_same TooMany short fits at depth [] (omega (arith, inside)))
      (λ lens e. ap (λ r. r >>= made lens) (tested_same Unsound long (leads lens) (at + short * depth) inside))

  -- a trie
  one_trie_same : (version : Version) (key_len taken : ℕ) (tries : TriesView) →
      tries.end + longest_trie key_len ≤ length front →
      one_trie version key_len taken all tries ≡ one_trie version key_len taken front tries
  one_trie_same version key_len taken tries inside =
      alike (kept_groups version key_len all tries.end) (kept_groups version key_len front tries.end)
      (λ kept. trie_of version taken all tries kept (depth_of key_len kept))
      (λ kept. trie_of version taken front tries kept (depth_of key_len kept))
      (kept_same version key_len tries.end (omega (arith, inside)))
      (λ kept e. trie_same version taken tries kept (depth_of key_len kept)
      (omega (arith, inside, kept_len_within version, depth_within key_len kept)))

  -- tries one after the other, of a table that has few enough words so far
  tries_same : (version : Version) (key_len taken count : ℕ) (tries : TriesView) →
      taken + sum tries.level_lens ≤ max_words → tries.end + longest_trie key_len * count ≤ length front →
      tries_after version key_len taken all count tries ≡ tries_after version key_len taken front count tries
  unfolding tries_after
  tries_same version key_len taken zero tries few inside = refl
  tries_same version key_len taken (suc count) tries few inside =
      alike (one_trie version key_len taken all tries) (one_trie version key_len taken front tries)
      (tries_after version key_len taken all count) (tries_after version key_len taken front count)
      (one_trie_same version key_len taken tries (omega (arith, inside)))
      (λ next e.
      let one = one_trie_reaches version key_len taken front tries next few e in
      tries_same version key_len taken count next one.few (omega (arith, inside, one.ends)))

  -- the words of levels
  levels_same : (rows from : ℕ) (levels : List Level) (first : List ℕ) →
      from + long * (length first + words_in levels) ≤ length front →
      words_of_levels rows all from levels first ≡ words_of_levels rows front from levels first
  unfolding words_of_levels
  levels_same rows from [] first inside = refl
  levels_same rows from (level ∷ levels) first inside =
      let test : List ℕ → ℕ → Bool = λ _. is_sound_word rows (first_level levels) in
      let total = sum_by-cons (λ (l : Level). l.len) level levels in
      alike (numbers_after Unsound long test all from level.len first)
      (numbers_after Unsound long test front from level.len first)
      (words_of_levels rows all from levels) (words_of_levels rows front from levels)
      (numbers_same Unsound long test from level.len first (omega (arith, inside, total)))
      (λ read e. levels_same rows from levels read
      (omega (arith, inside, total, numbers_count Unsound long test front from level.len first read e)))

  -- the words of tries
  words_same : (rows from : ℕ) (depths : List ℕ) (levels : List Level) (first : List ℕ) →
      from + long * (length first + words_in levels) ≤ length front →
      words_of_tries rows all from (portions depths levels) first
      ≡ words_of_tries rows front from (portions depths levels) first
  unfolding words_of_tries
  words_same rows from [] levels first inside = refl
  words_same rows from (depth ∷ depths) levels first inside =
      let total = sum_by-take-drop (λ (l : Level). l.len) levels depth in
      alike (words_of_levels rows all from (take depth levels) first)
      (words_of_levels rows front from (take depth levels) first)
      (words_of_tries rows all from (portions depths (drop depth levels)))
      (words_of_tries rows front from (portions depths (drop depth levels)))
      (levels_same rows from (take depth levels) first (omega (arith, inside, total)))
      (λ read e. words_same rows from depths (drop depth levels) read
      (omega (arith, inside, total, levels_count rows front from (take depth levels) first read e)))

  -- rows
  rows_same : (rules from count : ℕ) (first : List (List ℕ)) →
      from + row_bytes * (length first + count) ≤ length front →
      rows_after rules all from count first ≡ rows_after rules front from count first
  unfolding rows_after
  rows_same rules from zero first inside = refl
  rows_same rules from (suc count) first inside =
      let test : List ℕ → ℕ → Bool = λ _. is_row_word rules in
      let at = from + row_bytes * length first in
      alike (numbers RowForm long test all at row_len) (numbers RowForm long test front at row_len)
      (λ row. rows_after rules all from count (first ++ row ∷ []))
      (λ row. rows_after rules front from count (first ++ row ∷ []))
      (numbers_same RowForm long test at row_len [] (omega (arith, inside)))
      (λ row e. rows_same rules from count (first ++ row ∷ []) (omega (arith, inside, length-append first (row ∷ []))))

  -- what an image says of a table before its tries
  counts_same : (family at : ℕ) → at + 16 ≤ length front → counts family all at ≡ counts family front at
  counts_same family at inside =
      let is_family : ℕ → Bool = λ number. number == family in
      let few_rules : ℕ → Bool = λ number. nat_le number max_rules in
      let few_tries : ℕ → Bool = λ number. nat_le number max_tries in
      let few_rows : ℕ → Bool = λ number. nat_le (row_len * (number + 1)) max_words in
      let made : ℕ → ℕ → ℕ → Reading Counts =
      λ rules tries rows. Ok (record { rules = rules; tries = tries; rows = rows }) in
      let third : List ℕ → ℕ → ℕ → Reading Counts =
      λ bytes rules tries. tested TooMany short few_rows bytes (at + 12) >>= made rules tries in
      let second : List ℕ → ℕ → Reading Counts =
      λ bytes rules. tested TooMany short few_tries bytes (at + 8) >>= third bytes rules in
      let first : List ℕ → Reading Counts =
      λ bytes. tested TooMany short few_rules bytes (at + 4) >>= second bytes in
      alike (tested Family short is_family all at) (tested Family short is_family front at)
      (λ number. first all) (λ number. first front)
      (tested_same Family short is_family at (omega (arith, inside)))
      (λ number e. alike (tested TooMany short few_rules all (at + 4)) (tested TooMany short few_rules front (at + 4))
      (second all) (second front) (tested_same TooMany short few_rules (at + 4) (omega (arith, inside)))
      (λ rules f. alike (tested TooMany short few_tries all (at + 8)) (tested TooMany short few_tries front (at + 8))
      (third all rules) (third front rules) (tested_same TooMany short few_tries (at + 8) (omega (arith, inside)))
      (λ tries g. ap (λ r. r >>= made rules tries)
      (tested_same TooMany short few_rows (at + 12) (omega (arith, inside))))))

  -- the words and the rows of a table
  rest_same : (key_len : ℕ) (counts : Counts) (tries : TriesView) →
      tries.end + long * sum tries.level_lens + row_bytes * counts.rows ≤ length front →
      words_and_rows key_len all counts tries ≡ words_and_rows key_len front counts tries
  rest_same key_len counts tries inside =
      let table = table_of key_len counts.rules tries [] [] in
      let levels = levels_from 0 tries.level_lens in
      let total = words_in-levels 0 tries.level_lens in
      let made : List ℕ → List (List ℕ) → Reading TableRead = λ words rows. Ok (record {
        table = table_of key_len counts.rules tries words rows;
        end = tries.end + long * length words + row_bytes * length rows;
      }) in
      alike (words_of_tries (counts.rows + 1) all tries.end (trie_levels table) [])
      (words_of_tries (counts.rows + 1) front tries.end (trie_levels table) [])
      (λ words. rows_after counts.rules all (tries.end + long * length words) counts.rows [] >>= made words)
      (λ words. rows_after counts.rules front (tries.end + long * length words) counts.rows [] >>= made words)
      (words_same (counts.rows + 1) tries.end (depths_of table) levels [] (omega (arith, inside, total)))
      (λ words e. ap (λ r. r >>= made words)
      (rows_same counts.rules (tries.end + long * length words) counts.rows []
      (omega (
        arith,
        inside,
        total,
        tries_count (counts.rows + 1) front tries.end (depths_of table) levels [] words e,
      ))))

  -- a table
  table_same : (version : Version) (family key_len at : ℕ) → at + longest_table key_len ≤ length front →
      table_read version family key_len all at ≡ table_read version family key_len front at
  unfolding table_read
  table_same version family key_len at inside =
      alike (counts family all at) (counts family front at)
      (λ counts. tries_after version key_len (row_len * (counts.rows + 1)) all counts.tries (no_tries (at + 16))
      >>= words_and_rows key_len all counts)
      (λ counts. tries_after version key_len (row_len * (counts.rows + 1)) front counts.tries (no_tries (at + 16))
      >>= words_and_rows key_len front counts)
      (counts_same family at (omega (arith, inside)))
      (λ counts e.
      let few = counts_few family front at counts e in
      let taken = row_len * (counts.rows + 1) in
      let none = no_tries (at + 16) in
      let room : longest_trie key_len * counts.tries ≤ longest_trie key_len * max_tries =
      mul-le-mul_left (longest_trie key_len) few.tries in
      alike (tries_after version key_len taken all counts.tries none)
      (tries_after version key_len taken front counts.tries none)
      (words_and_rows key_len all counts) (words_and_rows key_len front counts)
      (tries_same version key_len taken counts.tries none (omega (arith, few.rows)) (omega (arith, inside, room)))
      (λ tries f.
      let reach = tries_reach version key_len taken front counts.tries none tries (omega (arith, few.rows)) f in
      rest_same key_len counts tries (omega (arith, inside, room, reach.ends, reach.few, few.rows))))

-- a table that was read ends soon enough
table_ends : (version : Version) (family key_len : ℕ) (bytes : List ℕ) (at : ℕ) (read : TableRead) →
    table_read version family key_len bytes at ≡ Ok read → read.end ≤ at + longest_table key_len
unfolding table_read
table_ends version family key_len bytes at read e =
    let one = of_both (counts family bytes at)
    (λ counts. tries_after version key_len (row_len * (counts.rows + 1)) bytes counts.tries (no_tries (at + 16))
    >>= λ tries. words_and_rows key_len bytes counts tries) read e in
    let few = counts_few family bytes at one.0 one.1 in
    let taken = row_len * (one.0.rows + 1) in
    let two = of_both (tries_after version key_len taken bytes one.0.tries (no_tries (at + 16)))
    (λ tries. words_and_rows key_len bytes one.0 tries) read one.2 in
    let tries = two.0 in
    let reach = tries_reach version key_len taken bytes one.0.tries (no_tries (at + 16)) tries
    (omega (arith, few.rows)) two.1 in
    let table = table_of key_len one.0.rules tries [] [] in
    let made : List ℕ → List (List ℕ) → TableRead = λ words rows. record {
      table = table_of key_len one.0.rules tries words rows;
      end = tries.end + long * length words + row_bytes * length rows;
    } in
    let three = of_both (words_of_tries (one.0.rows + 1) bytes tries.end (trie_levels table) [])
    (λ words. rows_after one.0.rules bytes (tries.end + long * length words) one.0.rows [] >>= λ rows.
    Ok (made words rows)) read two.2 in
    let four = of_both (rows_after one.0.rules bytes (tries.end + long * length three.0) one.0.rows [])
    (λ rows. Ok (made three.0 rows)) read three.2 in
    let is : made three.0 four.0 ≡ read = cc in
    let room : longest_trie key_len * one.0.tries ≤ longest_trie key_len * max_tries =
    mul-le-mul_left (longest_trie key_len) few.tries in
    omega (
      arith,
      ap (λ (r : TableRead). r.end) is,
      reach.ends,
      reach.few,
      few.rows,
      room,
      tries_count (one.0.rows + 1) bytes tries.end (depths_of table) (levels_from 0 tries.level_lens) [] three.0
          three.1,
      words_in-levels 0 tries.level_lens,
      rows_count one.0.rules bytes (tries.end + long * length three.0) one.0.rows [] four.0 four.1,
    )

-- an image that is read isn't longer than the longest
pub image_within : (bytes : List ℕ) (pair : PairView) → image_of bytes ≡ Ok pair → length bytes ≤ longest_image
unfolding image_of
image_within bytes pair e =
    let one = of_both (version_read bytes) (λ version. pair_read version bytes) pair e in
    let version : Version = one.0 in
    let made : TableRead → TableRead → PairView = λ ip4 ip6. record { ip4 = ip4.table; ip6 = ip6.table } in
    let two = of_both (table_read version 4 13 bytes 8)
    (λ ip4. table_read version 6 37 bytes ip4.end >>= λ ip6. checked (length bytes == ip6.end) Trailing ip6.end
    (made ip4 ip6)) pair one.2 in
    let three = of_both (table_read version 6 37 bytes two.0.end)
    (λ ip6. checked (length bytes == ip6.end) Trailing ip6.end (made two.0 ip6)) pair two.2 in
    let last = of_check (length bytes == three.0.end) Trailing three.0.end (made two.0 three.0) pair three.2 in
    omega (
      arith,
      eqb-true (length bytes) three.0.end last.0,
      table_ends version 4 13 bytes 8 two.0 two.1,
      table_ends version 6 37 bytes two.0.end three.0 three.1,
    )

-- bytes after more than that change no answer
pub image_same : (front more : List ℕ) → longest_image < length front → image_of (front ++ more) ≡ image_of front
unfolding image_of
image_same front more long_enough =
    let all = front ++ more in
    let made : TableRead → TableRead → PairView = λ ip4 ip6. record { ip4 = ip4.table; ip6 = ip6.table } in
    let known : ℕ → Bool = λ number. number == 1 || number == 2 in
    let numbered : List ℕ → Reading Version =
    λ bytes. tested kind.Version short known bytes 4 >>= λ number. Ok (version_of number) in
    let ends : Version → List ℕ → TableRead → TableRead → Reading PairView =
    λ version bytes ip4 ip6. checked (length bytes == ip6.end) Trailing ip6.end (made ip4 ip6) in
    alike (version_read all) (version_read front) (λ version. pair_read version all)
    (λ version. pair_read version front)
    (alike (tested Magic short (λ number. number == magic) all 0)
    (tested Magic short (λ number. number == magic) front 0) (λ _. numbered all) (λ _. numbered front)
    (tested_same front more Magic short (λ number. number == magic) 0 (omega (arith, long_enough)))
    (λ number e. ap (λ r. r >>= λ number. Ok (version_of number))
    (tested_same front more kind.Version short known 4 (omega (arith, long_enough)))))
    (λ version e.
    alike (table_read version 4 13 all 8) (table_read version 4 13 front 8)
    (λ ip4. table_read version 6 37 all ip4.end >>= ends version all ip4)
    (λ ip4. table_read version 6 37 front ip4.end >>= ends version front ip4)
    (table_same front more version 4 13 8 (omega (arith, long_enough)))
    (λ ip4 f.
    let first = table_ends version 4 13 front 8 ip4 f in
    alike (table_read version 6 37 all ip4.end) (table_read version 6 37 front ip4.end)
    (ends version all ip4) (ends version front ip4)
    (table_same front more version 6 37 ip4.end (omega (arith, long_enough, first)))
    (λ ip6 g.
    let second = table_ends version 6 37 front ip4.end ip6 g in
    check_failed (length all == ip6.end) Trailing ip6.end (made ip4 ip6)
    (ne_eqb (length all) ip6.end
    (λ same. absurd (omega (arith, same, long_enough, first, second, length-append front more))))
    ∙ sym (check_failed (length front == ip6.end) Trailing ip6.end (made ip4 ip6)
    (ne_eqb (length front) ip6.end (λ same. absurd (omega (arith, same, long_enough, first, second))))))))
