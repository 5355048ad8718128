-- A table that is spelled and can be saved is read.
use Rattle.std.proofs.Common.{◌≡◌, ℕ, zero, suc, ◌+◌, ◌-◌, ◌*◌, ◌^◌, ◌≤◌, List, [], ◌∷◌, ◌++◌, length, drop, map}
use Rattle.std.proofs.Common.{replicate}
use Rattle.std.proofs.Common.{refl, sym, ap, ◌∙◌, arith, Bool, true, append_assoc, subst, Ok, None}
use Rattle.std.proofs.Math.Nat.{add_assoc}
use Rattle.std.specs.Prelude.{◌==◌, nat_le}
use Rattle.std.specs.List.{list_all, flat_map, zip}
use Rattle.std.proofs.lemmas.List.{append-nil}
use Rattle.std.proofs.lemmas.Bool.{and_parts, lt-ltb, le-leb, eq-eqb, eqb-true}
use Rattle.flat_table.specs.Groups.{groups_of, depth_of}
use Rattle.flat_table.specs.Table.{TableView, trie_levels}
use Rattle.flat_table.specs.Sound.{begins_with_zeros}
use Rattle.table_sizes.specs.Sizes.{max_rules, max_tries, max_words, row_len}
use Rattle.flat_table.proofs.Offered.{IsSound, sound_parts}
use Rattle.table_image.specs.declared.version.Version.{Version}
use Rattle.table_image.specs.declared.version.Version.TheVariants.{One, Two}
use Rattle.table_image.specs.declared.load_fault.ImageKind.TheVariants.{Family, TooMany}
use Rattle.table_image.specs.Spelling.{short, long, spelled, all_spelled, spelled_tries, spelled_table, is_of_version}
use Rattle.table_image.specs.Spelling.{all_groups, is_row, IsSaved}
use Rattle.table_image.specs.ImageReading.{◌>>=◌, tested, Counts, counts, TriesView, no_tries, tries_after, words_of_tries}
use Rattle.table_image.specs.ImageReading.{rows_after, row_bytes, no_rule, table_of, TableRead, words_and_rows, table_read}
use Rattle.list_lemmas.proofs.Rests.{after, inside, RestAt}
use Rattle.table_image.proofs.Readings.{both}
use Rattle.table_image.proofs.NumbersRead.{fits, tested_spelled, after_field, rest_after, length-all_spelled}
use Rattle.table_image.proofs.WordsRead.{tries_fault}
use Rattle.table_image.proofs.WordsSpelled.{Spelled, tries_words_spelled}
use Rattle.table_image.proofs.TriesSpelled.{with_tries, tries_spelled}
use Rattle.table_image.proofs.TriesSound.{root_leads, AreSound, sound_are}
use Rattle.table_image.proofs.RowsRead.{rows_spelled, length-rows}
use Rattle.list_lemmas.proofs.Searches.{none_fails}

-- the counts of a table
abbrev pub counts_of : TableView → Counts
counts_of table = record { rules = table.rules; tries = length table.roots; rows = length table.rows - 1 }

-- they were read, and this stands after them
record CountsOf (family : ℕ) (bytes : List ℕ) (at : ℕ) (c : Counts) (rest : List ℕ) : Type 0 where
  pub read : counts family bytes at ≡ Ok c
  pub next : RestAt bytes (at + 16) rest

-- four numbers within their bounds that are spelled are read
counts_spelled : (family : ℕ) (bytes : List ℕ) (at : ℕ) (c : Counts) (rest : List ℕ) → fits short family ≡ true →
    c.rules ≤ max_rules → c.tries ≤ max_tries → row_len * (c.rows + 1) ≤ max_words →
    drop at bytes ≡ spelled short family
    ++ (spelled short c.rules ++ (spelled short c.tries ++ (spelled short c.rows ++ rest))) →
    CountsOf family bytes at c rest
counts_spelled family bytes at c rest small few_rules few_tries few_rows e =
    let rules_test : ℕ → Bool = λ number. nat_le number max_rules in
    let tries_test : ℕ → Bool = λ number. nat_le number max_tries in
    let rows_test : ℕ → Bool = λ number. nat_le (row_len * (number + 1)) max_words in
    let made : ℕ → ℕ → ℕ → Counts = λ rules tries rows. record { rules = rules; tries = tries; rows = rows } in
    let three : List ℕ = spelled short c.rows ++ rest in
    let two : List ℕ = spelled short c.tries ++ three in
    let one : List ℕ = spelled short c.rules ++ two in
    let rules_text : drop (at + 4) bytes ≡ one = after_field short bytes at family one e in
    let tries_text : drop (at + 8) bytes ≡ two =
    ap (λ k. drop k bytes) (omega arith) ∙ after_field short bytes (at + 4) c.rules two rules_text in
    let rows_text : drop (at + 12) bytes ≡ three =
    ap (λ k. drop k bytes) (omega arith) ∙ after_field short bytes (at + 8) c.tries three tries_text in
    let family_read = tested_spelled Family short (λ number. number == family) bytes at family one (omega arith) e small
    (eq-eqb family family refl) in
    let rules_read = tested_spelled TooMany short rules_test bytes (at + 4) c.rules two (omega arith) rules_text
    (lt-ltb c.rules (256 ^ short) (omega arith)) (le-leb c.rules max_rules few_rules) in
    let tries_read = tested_spelled TooMany short tries_test bytes (at + 8) c.tries three (omega arith) tries_text
    (lt-ltb c.tries (256 ^ short) (omega arith)) (le-leb c.tries max_tries few_tries) in
    let rows_read = tested_spelled TooMany short rows_test bytes (at + 12) c.rows rest (omega arith) rows_text
    (lt-ltb c.rows (256 ^ short) (omega arith)) (le-leb (row_len * (c.rows + 1)) max_words few_rows) in
    record {
      read = both (tested Family short (λ number. number == family) bytes at)
          (λ _. tested TooMany short rules_test bytes (at + 4) >>= λ rules. tested TooMany short tries_test bytes
          (at + 8) >>= λ tries.
          tested TooMany short rows_test bytes (at + 12) >>= λ rows. Ok (made rules tries rows)) family _ family_read
          (both (tested TooMany short rules_test bytes (at + 4))
          (λ rules. tested TooMany short tries_test bytes (at + 8) >>= λ tries.
          tested TooMany short rows_test bytes (at + 12) >>= λ rows. Ok (made rules tries rows)) c.rules _ rules_read
          (both (tested TooMany short tries_test bytes (at + 8))
          (λ tries. tested TooMany short rows_test bytes (at + 12) >>= λ rows. Ok (made c.rules tries rows)) c.tries _
          tries_read
          (both (tested TooMany short rows_test bytes (at + 12)) (λ rows. Ok (made c.rules c.tries rows)) c.rows _
          rows_read refl)));
      next = subst (λ k. RestAt bytes k rest) (add_assoc at 12 short)
          (rest_after short bytes (at + 12) c.rows rest (omega arith) rows_text);
    }

-- a row of so many zeros
pub zeros_are : (n : ℕ) (row : List ℕ) → length row ≡ n → list_all (λ word. word == 0) row ≡ true → replicate n 0 ≡ row
zeros_are zero [] len zeros = refl
zeros_are zero (word ∷ row) len zeros = absurd (omega arith)
zeros_are (suc n) [] len zeros = absurd (omega arith)
zeros_are (suc n) (word ∷ row) len zeros =
    let parts = and_parts (word == 0) (list_all (λ w. w == 0) row) zeros in
    let here : 0 ≡ word = sym (eqb-true word 0 parts.0) in
    let rest = zeros_are n row (omega arith) parts.1 in
    λ i. here i ∷ rest i

-- rows that begin with zeros, and have the words of rows
record Begun (rows : List (List ℕ)) : Type 0 where
  pub are : no_rule ∷ drop 1 rows ≡ rows
  pub some : length rows - 1 + 1 ≡ length rows
  pub count : length (drop 1 rows) ≡ length rows - 1
  pub typed : list_all is_row (drop 1 rows) ≡ true

-- rows that begin with zeros are the row of zeros, and the others after it
begun : (rows : List (List ℕ)) → begins_with_zeros rows ≡ true → list_all is_row rows ≡ true → Begun rows
unfolding no_rule
begun [] zeros typed = absurd cc
begun (row ∷ rows) zeros typed =
    let parts = and_parts (is_row row) (list_all is_row rows) typed in
    let wide = and_parts (length row == row_len) _ parts.0 in
    let zero_row : replicate row_len 0 ≡ row = zeros_are row_len row (eqb-true (length row) row_len wide.0) zeros in
    record {
      are = ap (λ first. first ∷ rows) zero_row;
      some = omega arith;
      count = omega arith;
      typed = parts.1;
    }

-- all groups, where the version has no field for them
version_groups : (version : Version) (table : TableView) → is_of_version version table ≡ true → version ≡ One →
    list_all (λ word. word == all_groups table.key_len) table.kept ≡ true
version_groups One table of one = of
version_groups Two table of one = absurd cc

-- a table was read, and this stands after it
pub record TableOf (version : Version) (family : ℕ) (bytes : List ℕ) (at : ℕ) (table : TableView) (rest : List ℕ) : Type
    0 where
  pub end : ℕ
  pub read : table_read version family table.key_len bytes at ≡ Ok (record { table = table; end = end })
  pub next : drop end bytes ≡ rest
  pub within : end ≤ length bytes

-- a table that can be saved and is spelled is read
pub table_spelled : (version : Version) (family : ℕ) (bytes : List ℕ) (at : ℕ) (table : TableView) (rest : List ℕ) →
    fits short family ≡ true → 2 ^ groups_of table.key_len ≤ 256 ^ short → IsSaved version table.key_len table →
    drop at bytes ≡ spelled_table version family table ++ rest → TableOf version family bytes at table rest
unfolding table_read spelled_table
table_spelled version family bytes at table rest small few is e =
    let sound : IsSound table = sound_parts table is.sound in
    let shape = sound.shape in
    let c : Counts = counts_of table in
    let rows : List (List ℕ) = drop 1 table.rows in
    let b = begun table.rows shape.zeros is.typed.rows in
    let taken : ℕ = row_len * (c.rows + 1) in
    let key_len : ℕ = table.key_len in
    let rows_bytes : List ℕ = flat_map (all_spelled long) rows in
    let rows_rest : List ℕ = rows_bytes ++ rest in
    let words_rest : List ℕ = all_spelled long table.words ++ rows_rest in
    let tries_rest : List ℕ = spelled_tries version key_len table.kept table.roots table.level_lens ++ words_rest in
    let text : drop at bytes ≡ spelled short family
    ++ (spelled short c.rules ++ (spelled short c.tries ++ (spelled short c.rows
    ++ tries_rest))) = e ∙ simp append_assoc in
    let front = counts_spelled family bytes at c tries_rest small is.saved.few shape.few
    (omega (arith, shape.small, b.some)) text in
    let s : AreSound version key_len taken 0 table.kept table.roots table.level_lens = record {
      same = shape.same;
      keeps = shape.kept;
      groups = version_groups version table is.groups;
      levels = shape.levels;
      fit = omega (arith, shape.small, shape.words, b.some);
      leads = none_fails root_leads 0 (zip table.roots (trie_levels table)) sound.roots;
      small = is.typed.roots;
    } in
    let t = tries_spelled version key_len taken (no_tries (at + 16)) table.kept table.roots table.level_lens
    words_rest few (sound_are version key_len taken 0 table.kept table.roots table.level_lens s) front.next in
    let tries : TriesView = with_tries (no_tries (at + 16)) table.kept table.roots table.level_lens t.end in
    let tries_count : length table.kept ≡ c.tries = shape.same in
    let words_text : Spelled bytes t.end 0 [] table.words rows_rest = record {
      place = refl;
      text = ap (λ k. drop k bytes) (omega arith) ∙ t.next.text;
      small = is.typed.words;
    } in
    let words_sound : tries_fault (c.rows + 1) (trie_levels table) ([] ++ (table.words ++ [])) ≡ None =
    ap (tries_fault (c.rows + 1) (trie_levels table)) (append-nil table.words)
    ∙ ap (λ n. tries_fault n (trie_levels table) table.words) b.some ∙ sound.words in
    let words = tries_words_spelled (c.rows + 1) bytes t.end (map (depth_of key_len) table.kept) table.level_lens
    table.words [] shape.levels shape.words words_text words_sound in
    let rows_from : ℕ = t.end + long * length table.words in
    let rows_text : drop rows_from bytes ≡ rows_rest =
    ap (λ k. drop k bytes) (omega (arith, length-all_spelled long table.words))
    ∙ after t.end bytes (all_spelled long table.words) rows_rest t.next.text in
    let none : List (List ℕ) = [] in
    let rows_at : drop (rows_from + row_bytes * length none) bytes ≡ rows_rest = ap (λ k. drop k bytes) (omega arith)
    ∙ rows_text in
    let rows_read : rows_after c.rules bytes rows_from c.rows [] ≡ Ok rows =
    ap (λ n. rows_after c.rules bytes rows_from n []) (sym b.count)
    ∙ rows_spelled c.rules bytes rows_from [] rows rest rows_at is.saved.ranked b.typed in
    let end : ℕ = rows_from + row_bytes * length rows in
    let made : TableRead = record { table = table_of key_len c.rules tries table.words rows; end = end } in
    let same : made ≡ record { table = table; end = end } =
    ap (λ (rs : List (List ℕ)). table_with rs end) b.are in
    record {
      end = end;
      read = both (counts family bytes at)
          (λ counts. tries_after version key_len (row_len * (counts.rows + 1)) bytes counts.tries (no_tries (at + 16))
          >>= λ tries.
          words_and_rows key_len bytes counts tries) c _ front.read
          (both (tries_after version key_len taken bytes c.tries (no_tries (at + 16)))
          (λ tries. words_and_rows key_len bytes c tries) tries _
          (ap (λ n. tries_after version key_len taken bytes n (no_tries (at + 16))) (sym tries_count) ∙ t.read)
          (both (words_of_tries (c.rows + 1) bytes t.end (trie_levels table) [])
          (λ ws. rows_after c.rules bytes (t.end + long * length ws) c.rows [] >>= λ rs.
          Ok (record {
            table = table_of key_len c.rules tries ws rs;
            end = t.end + long * length ws + row_bytes * length
                rs;
          }))
          table.words _ words
          (both (rows_after c.rules bytes rows_from c.rows [])
          (λ rs. Ok (record {
            table = table_of key_len c.rules tries table.words rs;
            end =
                rows_from + row_bytes * length rs;
          }))
          rows _ rows_read (ap Ok same))));
      next = ap (λ k. drop k bytes) (omega (arith, length-rows rows b.typed))
          ∙ after rows_from bytes rows_bytes rest rows_text;
      within = omega (
        arith,
        inside rows_from bytes rows_bytes rest (omega (
          arith,
          inside t.end bytes (all_spelled long table.words) rows_rest t.next.within t.next.text,
          length-all_spelled long table.words,
        )) rows_text,
        length-rows rows b.typed,
      );
    }
  where
    table_with : List (List ℕ) → ℕ → TableRead
    table_with rs end = record {
      table = record {
        key_len = table.key_len;
        rules = table.rules;
        kept = table.kept;
        roots = table.roots;
        level_lens = table.level_lens;
        words = table.words;
        rows = rs;
      };
      end = end;
    }
