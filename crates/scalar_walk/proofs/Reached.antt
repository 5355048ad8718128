-- The rows that the walks of a key reach, trie by trie.
use Rattle.std.proofs.Common.{◌≡◌, ℕ, ◌≢◌, ◌+◌, ◌%◌, ◌<◌, ◌≤◌, List, [], ◌∷◌, sym, ap, ◌∙◌, arith, length, map, take}
use Rattle.std.proofs.Common.{fold, get_or, set, All, length-take, get_or-set_same, get_or-set_other}
use Rattle.std.specs.List.{range_with_len}
use Rattle.std.proofs.lemmas.List.{get_or-take, get_or_default}
use Rattle.std.proofs.lemmas.List.Sums.{fold-append}
use Rattle.std.proofs.lemmas.List.FromFn.{fill_by_all}
use Rattle.std.proofs.Math.ListN.{length-set}
use Rattle.std.proofs.lemmas.Simd.{map-map}
use borrow.Author.Count.{below_more}
use Rattle.std.specs.Prelude.{slice_index, Bool, false, not, ◌==◌}
use Rattle.table_sizes.specs.Sizes.{max_tries, row_len}
use Rattle.flat_table.specs.Table.{TableView}
use Rattle.flat_table.specs.Walk.{walk_row, walk_transitions, tries_of, joined, greatest, key_transitions, userdatas}
use Rattle.flat_table.specs.Batch.{key_verdicts}
use Rattle.list_lemmas.proofs.Maps.{map_agree}
use Rattle.list_lemmas.proofs.Positions.{range-push}
use Rattle.scalar_walk.specs.Rows.{EndsAt, Reaches, joined_rows, row_verdicts, row_winners, key_winners, winners_of}

-- no trie is walked yet
pub reaches_none : {table : TableView} {key rows : List ℕ} → length rows ≡ max_tries → Reaches table key 0 rows
reaches_none len = record {
  len = len;
  each = λ k h. absurd (omega (arith, h));
  there = λ k h. absurd (omega (arith, h));
}

-- a row more is reached, where the walk through the next trie ends
pub reaches_more : {table : TableView} {key rows : List ℕ} {n row : ℕ} → Reaches table key n rows → n < max_tries →
    EndsAt table n key row → Reaches table key (n + 1) (set rows n row)
reaches_more {rows = rows} {n = n} {row = row} r few ends = record {
  len = omega (arith, length-set rows n row, r.len);
  each = below_more _ _ (λ k h. let ne : k ≢ n = omega arith in get_or-set_other rows n k row 0 ne
      ∙ r.each k h) (get_or-set_same rows n row 0 (omega (arith, r.len)) ∙ ends.is);
  there = below_more _ _ (λ k h. let ne : k ≢ n = omega arith in rw get_or-set_other (r.there k h))
      (let at : n < length rows = omega (arith, r.len) in rw get_or-set_same ends.there);
}

-- the words that the walks through the first tries take
abbrev pub first_tries_transitions : TableView → List ℕ → ℕ → ℕ
first_tries_transitions table key n =
    fold (λ total trie. total + walk_transitions table trie key) 0 (range_with_len 0 n)

-- one more trie adds the words that the walk through it takes
pub first_tries_more : (table : TableView) (key : List ℕ) (n : ℕ) →
    first_tries_transitions table key (n + 1) ≡ first_tries_transitions table key n + walk_transitions table n key
first_tries_more table key n =
    ap (λ (tries : List ℕ). fold (λ total trie. total + walk_transitions table trie key) 0 tries) (range-push 0 n)
    ∙ fold-append (λ total trie. total + walk_transitions table trie key) 0 (range_with_len 0 n) ((0 + n) ∷ [])
    ∙ ap (λ (k : ℕ). first_tries_transitions table key n + walk_transitions table k key) (omega arith)

-- of the only trie the row is the joined one
one_joined : (table : TableView) (key : List ℕ) (category : ℕ) → length table.roots ≡ 1 →
    slice_index (get_or table.rows (walk_row table 0 key) []) category ≡ joined table key category
one_joined table key category one = rw one (omega arith)

-- the verdicts of a key are those of the row that the walk reaches if there is one trie
pub one_verdicts : (table : TableView) (key : List ℕ) {row : ℕ} (count : ℕ) → length table.roots ≡ 1 →
    row ≡ walk_row table 0 key → row_verdicts table.rows count row ≡ key_verdicts table count key
one_verdicts table key count one e =
    ap (λ (number : ℕ). row_verdicts table.rows count number) e
    ∙ map_agree _ _ (range_with_len 0 count)
    (λ category. ap (λ (word : ℕ). word % userdatas) (one_joined table key category one))

-- and the marks of a key
pub one_winners : (table : TableView) (key : List ℕ) {row : ℕ} (count : ℕ) → length table.roots ≡ 1 →
    row ≡ walk_row table 0 key → row_winners table.rows count row ≡ key_winners table count key
one_winners table key count one e =
    ap (λ (number : ℕ). row_winners table.rows count number) e
    ∙ map_agree _ _ (range_with_len 0 count)
    (λ category. ap (λ (word : ℕ). not (word == 0)) (one_joined table key category one))

-- a key takes the words of one walk if there is one trie
pub one_transitions : (table : TableView) (key : List ℕ) → length table.roots ≡ 1 →
    key_transitions table key ≡ walk_transitions table 0 key
one_transitions table key one = rw one (omega arith)

-- of all tries
module _ {table : TableView} {key rows : List ℕ} (r : Reaches table key (length table.roots) rows)
    (few : length table.roots ≤ max_tries) where
  -- each row that was reached is there
  pub rows_there : All (λ row. row < length table.rows) (take (length table.roots) rows)
  rows_there = λ k d h.
      let lt : k < length table.roots = omega (arith, h, length-take {A = ℕ}) in
      let same : get_or (take (length table.roots) rows) k d ≡ get_or rows k 0 =
      get_or-take (length table.roots) rows k d lt ∙ get_or_default rows k d 0 (omega (arith, r.len)) in
      omega (arith, same, r.there k lt)

  -- the rows that were reached are those of the walks, trie by trie
  rows_are : take (length table.roots) rows ≡ map (λ trie. walk_row table trie key) (tries_of table)
  rows_are =
      fill_by_all (λ trie. walk_row table trie key) (take (length table.roots) rows) (length table.roots) 0
      (omega (arith, length-take {A = ℕ}, r.len))
      (λ k h. get_or-take (length table.roots) rows k 0 h ∙ r.each k h)

  -- their greatest word is that over all tries
  pub joined_is : (category : ℕ) → joined_rows table.rows (take (length table.roots) rows) category
      ≡ joined table key category
  joined_is category =
      ap (λ (numbers : List ℕ). joined_rows table.rows numbers category) rows_are
      ∙ ap greatest
      (map-map (λ row. slice_index (get_or table.rows row []) category) (λ trie. walk_row table trie key)
      (tries_of table)
      ∙ sym (map-map (λ row. slice_index row category) (λ trie. get_or table.rows (walk_row table trie key) [])
      (tries_of table)))

  -- the userdata of these words are the verdicts of the key
  pub verdicts_are : (count : ℕ) →
      map (λ category. joined_rows table.rows (take (length table.roots) rows) category % userdatas)
      (range_with_len 0 count) ≡ key_verdicts table count key
  verdicts_are count = map_agree _ _ (range_with_len 0 count)
      (λ category. ap (λ (word : ℕ). word % userdatas) (joined_is category))

  -- and the words that aren't 0 say in which some rule wins
  pub winners_are : (count : ℕ) →
      map (λ category. not (joined_rows table.rows (take (length table.roots) rows) category == 0))
      (range_with_len 0 count) ≡ key_winners table count key
  winners_are count = map_agree _ _ (range_with_len 0 count)
      (λ category. ap (λ (word : ℕ). not (word == 0)) (joined_is category))

  -- a category has a winner exactly if its word isn't 0
  pub won_are : (won : List Bool) → length won ≡ row_len →
      ((k : ℕ) → k < row_len → get_or won k false ≡ not (joined_rows table.rows (take (length table.roots) rows) k ==
      0)) → won ≡ winners_of table key
  unfolding winners_of
  won_are won len each = fill_by_all (λ category. not (joined table key category == 0)) won row_len false len
      (λ k h. each k h ∙ ap (λ (word : ℕ). not (word == 0)) (joined_is k))
