-- A table that was read stands in the bytes as it is spelled, and can be saved.
use Rattle.std.proofs.Common.{◌≡◌, ℕ, ◌+◌, ◌-◌, ◌*◌, ◌≤◌, List, [], ◌∷◌, ◌++◌, length, drop, sum, map}
use Rattle.std.proofs.Common.{refl, sym, ap, ◌∙◌, arith, Bool, true, append_assoc, subst, Ok, None}
use Rattle.std.proofs.Math.Nat.{add_assoc}
use Rattle.std.specs.Prelude.{◌==◌, nat_le}
use Rattle.std.specs.List.{list_all, flat_map, zip}
use Rattle.std.proofs.lemmas.List.{append-nil}
use Rattle.std.proofs.lemmas.Bool.{and_from, le-leb, leb-true, eq-eqb, eqb-true}
use Rattle.flat_table.specs.Groups.{is_key_len, depth_of}
use Rattle.flat_table.specs.Table.{TableView, depths_of, trie_levels}
use Rattle.flat_table.specs.Sound.{begins_with_zeros, is_shaped, first_unsound_root, first_unsound_word, sound_fault}
use Rattle.table_sizes.specs.Sizes.{max_rules, max_tries, max_words, row_len}
use Rattle.table_image.specs.declared.version.Version.{Version}
use Rattle.table_image.specs.declared.version.Version.TheVariants.{One, Two}
use Rattle.table_image.specs.declared.load_fault.ImageKind.TheVariants.{Family, TooMany}
use Rattle.table_image.specs.Spelling.{short, long, spelled, all_spelled, spelled_tries, spelled_table, is_of_version}
use Rattle.table_image.specs.Spelling.{is_row_word, is_row, IsSaved}
use Rattle.table_image.specs.ImageReading.{Reading, ◌>>=◌, tested, Counts, counts, TriesView, no_tries, tries_after}
use Rattle.table_image.specs.ImageReading.{words_of_tries, rows_after, row_bytes, no_rule, table_of, TableRead}
use Rattle.table_image.specs.ImageReading.{words_and_rows, table_read}
use Rattle.table_image.proofs.Fields.{AreBytes}
use Rattle.list_lemmas.proofs.Rests.{joined}
use Rattle.table_image.proofs.Readings.{of_both}
use Rattle.table_image.proofs.NumbersRead.{fits, FieldAt, tested_read}
use Rattle.table_image.proofs.WordsRead.{tries_fault, tries_words_read}
use Rattle.table_image.proofs.TriesRead.{tries_read}
use Rattle.table_image.proofs.TriesSound.{root_leads, AreSound, are_sound}
use Rattle.table_image.proofs.RowsRead.{rows_read}
use Rattle.list_lemmas.proofs.Searches.{none_found}

-- what was read of the numbers before the tries
pub record CountsAt (family : ℕ) (bytes : List ℕ) (at : ℕ) (c : Counts) : Type 0 where
  pub few_rules : c.rules ≤ max_rules
  pub few_tries : c.tries ≤ max_tries
  pub few_rows : row_len * (c.rows + 1) ≤ max_words
  pub text : drop at bytes ≡ spelled short family ++ (spelled short c.rules ++ (spelled short c.tries
      ++ (spelled short c.rows ++ drop (at + 16) bytes)))

-- a reading gives one value
only : {A : Type 0} (reading : Reading A) (one other : A) → reading ≡ Ok one → reading ≡ Ok other → one ≡ other
only reading one other e f = (let same = sym e ∙ f in cc)

-- a field of a number that is known, and the place after it
field_is : (size : ℕ) (bytes : List ℕ) (at next n m : ℕ) → FieldAt size bytes at n → n ≡ m → at + size ≡ next →
    drop at bytes ≡ spelled size m ++ drop next bytes
field_is size bytes at next n m field is place =
    field.text ∙ (λ i. spelled size (is i) ++ drop (place i) bytes)

-- the four numbers, one after the other
counts_text : (bytes : List ℕ) (at family : ℕ) (c : Counts) →
    drop at bytes ≡ spelled short family ++ drop (at + 4) bytes →
    drop (at + 4) bytes ≡ spelled short c.rules ++ drop (at + 8) bytes →
    drop (at + 8) bytes ≡ spelled short c.tries ++ drop (at + 12) bytes →
    drop (at + 12) bytes ≡ spelled short c.rows ++ drop (at + 16) bytes →
    drop at bytes ≡ spelled short family ++ (spelled short c.rules ++ (spelled short c.tries
    ++ (spelled short c.rows ++ drop (at + 16) bytes)))
counts_text bytes at family c one two three four =
    one ∙ ap (λ xs. spelled short family ++ xs) (two ∙ ap (λ xs. spelled short c.rules ++ xs) (three
    ∙ ap (λ xs. spelled short c.tries ++ xs) four))

-- the four numbers that were read stand in the bytes, each within its bound
counts_read : (family : ℕ) (bytes : List ℕ) (at : ℕ) (c : Counts) → AreBytes bytes → counts family bytes at ≡ Ok c →
    CountsAt family bytes at c
counts_read family bytes at c are e =
    let few_rules : ℕ → Bool = λ number. nat_le number max_rules in
    let few_tries : ℕ → Bool = λ number. nat_le number max_tries in
    let few_rows : ℕ → Bool = λ number. nat_le (row_len * (number + 1)) max_words in
    let made : ℕ → ℕ → ℕ → Counts = λ rules tries rows. record { rules = rules; tries = tries; rows = rows } in
    let one = of_both (tested Family short (λ number. number == family) bytes at)
    (λ _. tested TooMany short few_rules bytes (at + 4) >>= λ rules. tested TooMany short few_tries bytes (at + 8)
    >>= λ tries.
    tested TooMany short few_rows bytes (at + 12) >>= λ rows. Ok (made rules tries rows)) c e in
    let two = of_both (tested TooMany short few_rules bytes (at + 4))
    (λ rules. tested TooMany short few_tries bytes (at + 8) >>= λ tries.
    tested TooMany short few_rows bytes (at + 12) >>= λ rows. Ok (made rules tries rows)) c one.2 in
    let three = of_both (tested TooMany short few_tries bytes (at + 8))
    (λ tries. tested TooMany short few_rows bytes (at + 12) >>= λ rows. Ok (made two.0 tries rows)) c two.2 in
    let four = of_both (tested TooMany short few_rows bytes (at + 12)) (λ rows. Ok (made two.0 three.0 rows)) c three.2
    in
    let f = tested_read Family short (λ number. number == family) bytes at one.0 are one.1 in
    let r = tested_read TooMany short few_rules bytes (at + 4) two.0 are two.1 in
    let t = tested_read TooMany short few_tries bytes (at + 8) three.0 are three.1 in
    let w = tested_read TooMany short few_rows bytes (at + 12) four.0 are four.1 in
    let is : made two.0 three.0 four.0 ≡ c = only (Ok (made two.0 three.0 four.0)) _ c refl four.2 in
    let rules_is : two.0 ≡ c.rules = ap (λ (x : Counts). x.rules) is in
    let tries_is : three.0 ≡ c.tries = ap (λ (x : Counts). x.tries) is in
    let rows_is : four.0 ≡ c.rows = ap (λ (x : Counts). x.rows) is in
    record {
      few_rules = subst (λ (n : ℕ). n ≤ max_rules) rules_is (leb-true two.0 max_rules r.1);
      few_tries = subst (λ (n : ℕ). n ≤ max_tries) tries_is (leb-true three.0 max_tries t.1);
      few_rows = subst (λ (n : ℕ). row_len * (n + 1) ≤ max_words) rows_is
          (leb-true (row_len * (four.0 + 1)) max_words w.1);
      text = counts_text bytes at family c
          (field_is short bytes at (at + 4) one.0 family f.0 (eqb-true one.0 family f.1) refl)
          (field_is short bytes (at + 4) (at + 8) two.0 c.rules r.0 rules_is (add_assoc at 4 short))
          (field_is short bytes (at + 8) (at + 12) three.0 c.tries t.0 tries_is (add_assoc at 8 short))
          (field_is short bytes (at + 12) (at + 16) four.0 c.rows w.0 rows_is (add_assoc at 12 short));
    }

-- row 0 has zeros
zeros_begin : (rows : List (List ℕ)) → begins_with_zeros (no_rule ∷ rows) ≡ true
unfolding no_rule
zeros_begin rows = refl

-- the row of zeros is a row
zeros_are_row : is_row no_rule ≡ true
unfolding no_rule
zeros_are_row = refl

-- the parts of a sound table
pub sound_of : (table : TableView) → is_shaped table ≡ true → first_unsound_root table ≡ None →
    first_unsound_word table ≡ None →
    sound_fault table ≡ None
unfolding sound_fault
sound_of table shape root word = rw (shape, root, word) refl

-- the words and the rows of a table that was read
record TailAt (key_len : ℕ) (bytes : List ℕ) (c : Counts) (tries : TriesView) (read : TableRead) : Type 0 where
  pub words : List ℕ
  pub rows : List (List ℕ)
  pub is : read.table ≡ table_of key_len c.rules tries words rows
  pub words_count : length words ≡ sum tries.level_lens
  pub rows_count : length rows ≡ c.rows
  pub sound : tries_fault (c.rows + 1) (trie_levels (table_of key_len c.rules tries [] [])) words ≡ None
  pub small : list_all (fits long) words ≡ true
  pub ranked : list_all (list_all (is_row_word c.rules)) rows ≡ true
  pub typed : list_all is_row rows ≡ true
  pub text : drop tries.end bytes ≡ (all_spelled long words ++ flat_map (all_spelled long) rows) ++ drop read.end bytes

-- words that were read from a place on, of so many levels, and the place after them
words_here : (bytes : List ℕ) (from : ℕ) (words more : List ℕ) (n : ℕ) →
    drop (from + long * 0) bytes ≡ all_spelled long more ++ drop (from + long * (0 + n)) bytes → words ≡ more →
    length words ≡ n → drop from bytes ≡ all_spelled long words ++ drop (from + long * length words) bytes
words_here bytes from words more n text are count =
    let none : from ≡ from + long * 0 = omega arith in
    let end : from + long * (0 + n) ≡ from + long * length words = omega (arith, count) in
    ap (λ k. drop k bytes) none ∙ text ∙ (λ i. all_spelled long (sym are i) ++ drop (end i) bytes)

-- and rows
rows_here : (bytes : List ℕ) (from : ℕ) (rows more : List (List ℕ)) (n : ℕ) →
    drop (from + row_bytes * 0) bytes ≡ flat_map (all_spelled long) more ++ drop (from + row_bytes * (0 + n)) bytes →
    rows ≡ more → length rows ≡ n →
    drop from bytes ≡ flat_map (all_spelled long) rows ++ drop (from + row_bytes * length rows) bytes
rows_here bytes from rows more n text are count =
    let none : from ≡ from + row_bytes * 0 = omega arith in
    let end : from + row_bytes * (0 + n) ≡ from + row_bytes * length rows = omega (arith, count) in
    ap (λ k. drop k bytes) none ∙ text ∙ (λ i. flat_map (all_spelled long) (sym are i) ++ drop (end i) bytes)

-- the words and the rows that were read stand in the bytes, and the words are sound
tail_read : (key_len : ℕ) (bytes : List ℕ) (c : Counts) (tries : TriesView) (read : TableRead) → AreBytes bytes →
    length tries.level_lens ≡ sum (map (depth_of key_len) tries.kept) →
    words_and_rows key_len bytes c tries ≡ Ok read → TailAt key_len bytes c tries read
tail_read key_len bytes c tries read are levels e =
    let all_levels = trie_levels (table_of key_len c.rules tries [] []) in
    let made : List ℕ → List (List ℕ) → TableRead = λ words rows. record {
      table = table_of key_len c.rules tries words rows;
      end = tries.end + long * length words + row_bytes * length rows;
    } in
    let one = of_both (words_of_tries (c.rows + 1) bytes tries.end all_levels [])
    (λ words. rows_after c.rules bytes (tries.end + long * length words) c.rows [] >>= λ rows. Ok (made words rows))
    read e in
    let words : List ℕ = one.0 in
    let rows_from : ℕ = tries.end + long * length words in
    let two = of_both (rows_after c.rules bytes rows_from c.rows []) (λ rows. Ok (made words rows)) read one.2 in
    let rows : List (List ℕ) = two.0 in
    let w = tries_words_read (c.rows + 1) bytes tries.end (map (depth_of key_len) tries.kept) tries.level_lens 0 []
    words are refl
    levels one.1 in
    let r = rows_read c.rules bytes rows_from c.rows [] rows are two.1 in
    let is : made words rows ≡ read = only (Ok (made words rows)) _ read refl two.2 in
    let count : length words ≡ sum tries.level_lens = ap length w.are ∙ w.count_is in
    let rows_count : length rows ≡ c.rows = ap length r.are ∙ r.count_is in
    let words_text = words_here bytes tries.end words w.more (sum tries.level_lens) w.text w.are count in
    let rows_text = rows_here bytes rows_from rows r.more c.rows r.text r.are rows_count
    ∙ ap (λ (t : TableRead). flat_map (all_spelled long) rows ++ drop t.end bytes) is in
    record {
      words = words;
      rows = rows;
      is = ap (λ (t : TableRead). t.table) (sym is);
      words_count = count;
      rows_count = rows_count;
      sound = ap (tries_fault (c.rows + 1) all_levels) (w.are ∙ sym (append-nil w.more)) ∙ w.sound [];
      small = ap (list_all (fits long)) w.are ∙ w.small;
      ranked = ap (list_all (list_all (is_row_word c.rules))) r.are ∙ r.ranked;
      typed = ap (list_all is_row) r.are ∙ r.typed;
      text = joined (drop tries.end bytes) (all_spelled long words) (flat_map (all_spelled long) rows) _ _ words_text
          rows_text;
    }

-- a table that was read
pub record TableAt (version : Version) (family key_len : ℕ) (bytes : List ℕ) (at : ℕ) (read : TableRead) : Type 0 where
  pub text : drop at bytes ≡ spelled_table version family read.table ++ drop read.end bytes
  pub is : IsSaved version key_len read.table

-- the tries of a table have what their version spells
of_version : (version : Version) (key_len taken from : ℕ) (kept roots lens : List ℕ) (table : TableView) →
    AreSound version key_len taken from kept roots lens → table.key_len ≡ key_len → table.kept ≡ kept →
    is_of_version version table ≡ true
of_version One key_len taken from kept roots lens table s keys same = rw (keys, same) (s.groups refl)
of_version Two key_len taken from kept roots lens table s keys same = refl

-- a table can be saved whose numbers, lawful tries, words and rows were read
saved : {family at : ℕ} {bytes : List ℕ} {read : TableRead} (version : Version) (key_len : ℕ) (c : Counts)
    (tries : TriesView) → is_key_len key_len ≡ true → CountsAt family bytes at c → length tries.kept ≡ c.tries →
    AreSound version key_len (row_len * (c.rows + 1)) 0 tries.kept tries.roots tries.level_lens →
    TailAt key_len bytes c tries read → IsSaved version key_len read.table
saved version key_len c tries keyed front count s back =
    let table : TableView = table_of key_len c.rules tries back.words back.rows in
    let rows_len : length table.rows ≡ c.rows + 1 = omega (arith, back.rows_count) in
    let shape : is_shaped table ≡ true =
    and_from _ _ (and_from _ _ (and_from _ _ (and_from _ _ (and_from _ _ (and_from _ _ (and_from _ _
    (eq-eqb (length table.kept) (length table.roots) s.same)
    (le-leb (length table.roots) max_tries (omega (arith, s.same, count, front.few_tries)))) keyed) s.keeps)
    (eq-eqb (length table.level_lens) (sum (depths_of table)) s.levels))
    (eq-eqb (length table.words) (sum table.level_lens) back.words_count)) (zeros_begin back.rows))
    (le-leb (length table.words + row_len * length table.rows) max_words
    (omega (arith, s.fit, back.words_count, rows_len)))
    in
    rw back.is (record {
      sound = sound_of table shape (none_found root_leads 0 (zip table.roots (trie_levels table)) s.leads)
          (ap (λ n. tries_fault n (trie_levels table) back.words) rows_len ∙ back.sound);
      saved = record { keys = refl; few = front.few_rules; ranked = back.ranked };
      typed = record {
        roots = s.small;
        words = back.small;
        rows = and_from (is_row no_rule) (list_all is_row back.rows) zeros_are_row back.typed;
      };
      groups = of_version version key_len _ _ _ _ _ table s refl refl;
    })

-- a table that was read stands in the bytes as it is spelled, and can be saved
pub table_at : (version : Version) (family key_len : ℕ) (bytes : List ℕ) (at : ℕ) (read : TableRead) → AreBytes bytes →
    is_key_len key_len ≡ true → table_read version family key_len bytes at ≡ Ok read →
    TableAt version family key_len bytes at read
unfolding table_read spelled_table
table_at version family key_len bytes at read are keyed e =
    let one = of_both (counts family bytes at)
    (λ c. tries_after version key_len (row_len * (c.rows + 1)) bytes c.tries (no_tries (at + 16)) >>= λ tries.
    words_and_rows key_len bytes c tries) read e in
    let c : Counts = one.0 in
    let front = counts_read family bytes at c are one.1 in
    let two = of_both (tries_after version key_len (row_len * (c.rows + 1)) bytes c.tries (no_tries (at + 16)))
    (words_and_rows key_len bytes c) read one.2 in
    let tries : TriesView = two.0 in
    let t = tries_read version key_len (row_len * (c.rows + 1)) bytes c.tries (no_tries (at + 16)) tries are
    (omega (arith, front.few_rows)) two.1 in
    let s' = are_sound version key_len (row_len * (c.rows + 1)) 0 t.kept t.roots t.lens (omega (arith, front.few_rows))
    t.are in
    let s : AreSound version key_len (row_len * (c.rows + 1)) 0 tries.kept tries.roots tries.level_lens =
    rw (t.kept_are, t.roots_are, t.lens_are) s' in
    let back = tail_read key_len bytes c tries read are s.levels two.2 in
    let count : length tries.kept ≡ c.tries = ap length t.kept_are ∙ t.count_is in
    let table : TableView = table_of key_len c.rules tries back.words back.rows in
    let tries_text : drop (at + 16) bytes ≡ spelled_tries version key_len tries.kept tries.roots tries.level_lens
    ++ drop tries.end bytes =
    t.text ∙ ap (λ xs. spelled_tries version key_len xs t.roots t.lens ++ drop tries.end bytes) (sym t.kept_are)
    ∙ ap (λ xs. spelled_tries version key_len tries.kept xs t.lens ++ drop tries.end bytes) (sym t.roots_are)
    ∙ ap (λ xs. spelled_tries version key_len tries.kept tries.roots xs ++ drop tries.end bytes) (sym t.lens_are) in
    let parts : List ℕ = spelled_tries version key_len tries.kept tries.roots tries.level_lens
    ++ (all_spelled long back.words ++ flat_map (all_spelled long) back.rows) in
    let parts_text : drop (at + 16) bytes ≡ parts ++ drop read.end bytes =
    joined (drop (at + 16) bytes) (spelled_tries version key_len tries.kept tries.roots tries.level_lens)
    (all_spelled long back.words ++ flat_map (all_spelled long) back.rows) _ _ tries_text back.text in
    let rows_is : length table.rows - 1 ≡ c.rows = omega (arith, back.rows_count) in
    let tries_is : length tries.roots ≡ c.tries = omega (arith, s.same, count) in
    let whole : drop at bytes ≡ spelled short family ++ (spelled short c.rules ++ (spelled short c.tries
    ++ (spelled short c.rows ++ (parts ++ drop read.end bytes)))) =
    front.text ∙ ap (λ xs. spelled short family
    ++ (spelled short c.rules ++ (spelled short c.tries ++ (spelled short c.rows ++ xs))))
    parts_text in
    let spelling : spelled_table version family table ++ drop read.end bytes
    ≡ spelled short family ++ (spelled short c.rules ++ (spelled short c.tries ++ (spelled short c.rows
    ++ (parts ++ drop read.end bytes)))) =
    rw (tries_is, rows_is) (simp append_assoc) in
    record {
      text = whole ∙ sym spelling ∙ ap (λ t. spelled_table version family t ++ drop read.end bytes) (sym back.is);
      is = saved version key_len c tries keyed front count s back;
    }
