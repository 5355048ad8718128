-- Rows that are joined of those that were noted, and the rows of a machine that is done.
use Rattle.std.proofs.Common.{◌≡◌, ◌≢◌, ℕ, ◌+◌, ◌%◌, ◌<◌, ◌≤◌, List, [], ◌∷◌, sym, ap, ◌∙◌, refl, arith}
use Rattle.std.proofs.Common.{length, map, get_or, set, take, drop, subst, inl, inr, length-set, get_or-set_same, get_or-set_other}
use Rattle.std.specs.Prelude.{All, Option, None, Some, max, slice_get, slice_index, replicate}
use Rattle.std.specs.List.{range_with_len}
use Rattle.std.proofs.lemmas.Bool.{cases_Bool, cases_eq}
use Rattle.std.proofs.lemmas.List.{map-append, length-map, length-replicate, get_or-take, get_or-replicate, length-take-le, drop-set-lt}
use Rattle.std.proofs.lemmas.List.Elements.{All-replicate, All-set, All-get_or}
use Rattle.std.proofs.lemmas.List.FromFn.{fill_by_all, length-range_with_len, get_or-map-range_with_len}
use Rattle.std.proofs.lemmas.List.Sums.{fold-append}
use Rattle.std.proofs.lemmas.Simd.{map-map}
use Rattle.list_lemmas.proofs.Maps.{map_where}
use Rattle.list_lemmas.proofs.Positions.{range-push}
use Rattle.list_lemmas.proofs.Ranges.{All-range}
use Rattle.table_sizes.specs.Sizes.{row_len}
use Rattle.flat_table.specs.Table.{TableView}
use Rattle.flat_table.specs.Walk.{greatest, joined, tries_of, userdatas, walk_row}
use Rattle.flat_table.specs.Word.{index_of, is_match}
use Rattle.flat_table.specs.Batch.{key_at, keys_in}
use Rattle.flow_core.specs.declared.flight.Flight.{Flight}
use Rattle.flow_core.specs.Jobs.{Job, jobs_of}
use Rattle.flow_core.specs.Machine.{FlowState, after_empty, first_state, flow_run, flow_step, step_of, word_of}
use Rattle.flow_core.specs.Rows.{joined_row, zero_row}
use Rattle.flow_core.specs.Laws.{AreJoined}
use Rattle.lane_walk.specs.Turn.{AreAllNoted, AreRowsOf, IsRowOf}

-- ---- one row

-- the greatest of what a function gives for the first numbers, and of what it gives for the next
greatest_more : (f : ℕ → ℕ) (n : ℕ) → greatest (map f (range_with_len 0 (n + 1)))
    ≡ max (greatest (map f (range_with_len 0 n))) (f n)
greatest_more f n =
    ap (λ (ks : List ℕ). greatest (map f ks)) (range-push 0 n)
    ∙ ap (λ (xs : List ℕ). greatest xs) (map-append f (range_with_len 0 n) ((0 + n) ∷ []))
    ∙ fold-append max 0 (map f (range_with_len 0 n)) (f (0 + n) ∷ [])
    ∙ ap (λ (k : ℕ). max (greatest (map f (range_with_len 0 n))) (f k)) (omega arith)

-- a joined row has a word for each category
joined_len : (one other : List ℕ) → length (joined_row one other) ≡ row_len
unfolding joined_row
joined_len one other =
    length-map (range_with_len 0 row_len) (λ c. max (slice_index one c) (slice_index other c))
    ∙ length-range_with_len 0 row_len

-- which is the greater of both
joined_at : (one other : List ℕ) (category : ℕ) → category < row_len →
    slice_index (joined_row one other) category ≡ max (slice_index one category) (slice_index other category)
unfolding joined_row
joined_at one other category within =
    get_or-map-range_with_len (λ c. max (slice_index one c) (slice_index other c)) 0 row_len category category 0 within
    (omega arith)

-- before the first trie nothing is joined
pub row_none : (table : TableView) (noted row : List ℕ) → row ≡ replicate row_len 0 → IsRowOf table noted 0 row
row_none table noted row is = record {
  len = ap (λ (xs : List ℕ). length xs) is ∙ length-replicate {A = ℕ} row_len 0;
  words = λ category within. ap (λ (xs : List ℕ). slice_index xs category) is
      ∙ get_or-replicate row_len category 0 0 within;
}

-- the row of one trie more
pub row_more : {table : TableView} {noted row other new : List ℕ} {n : ℕ} → IsRowOf table noted n row →
    get_or table.rows (index_of (slice_index noted n)) [] ≡ other → new ≡ joined_row row other →
    IsRowOf table noted (n + 1) new
row_more {table = table} {noted = noted} {row = row} {other = other} {new = new} {n = n} r there is =
    let f = λ (category trie : ℕ). slice_index (get_or table.rows (index_of (slice_index noted trie)) []) category in
    record {
      len = ap (λ (xs : List ℕ). length xs) is ∙ joined_len row other;
      words = λ category within.
          ap (λ (xs : List ℕ). slice_index xs category) is ∙ joined_at row other category within
          ∙ (λ i. max (r.words category within i) (slice_index (sym there i) category))
          ∙ sym (greatest_more (f category) n);
    }

-- with one trie it is that of the trie
pub row_of_one : {table : TableView} {noted row : List ℕ} → length table.roots ≡ 1 → length row ≡ row_len →
    get_or table.rows (index_of (slice_index noted 0)) [] ≡ row → IsRowOf table noted (length table.roots) row
row_of_one {table = table} {noted = noted} {row = row} one len is =
    subst (λ (n : ℕ). IsRowOf table noted n row) (sym one) record {
      len = len;
      words = λ category within. ap (λ (xs : List ℕ). slice_index xs category) (sym is) ∙ omega arith;
    }

-- ---- the rows of the keys

-- the first rows are joined, and the others are as they were
pub record JoinedTo (table : TableView) (old : List (List ℕ)) (keys n : ℕ) (new : List (List ℕ)) : Type 0 where
  pub len : length new ≡ length old
  pub others : drop keys new ≡ drop keys old
  pub done : AreRowsOf table old n new
  pub later : (k : ℕ) → n ≤ k → get_or new k [] ≡ get_or old k []

-- before the first all are as they were
pub joined_none : (table : TableView) (rows : List (List ℕ)) (keys : ℕ) → JoinedTo table rows keys 0 rows
joined_none table rows keys = record {
  len = refl;
  others = refl;
  done = λ k below. absurd (omega (arith, below));
  later = λ k past. refl;
}

-- one more is joined
pub joined_more : {table : TableView} {old rows : List (List ℕ)} {keys n : ℕ} {noted row : List ℕ} →
    JoinedTo table old keys n rows → n < length old → n < keys → get_or rows n [] ≡ noted →
    IsRowOf table noted (length table.roots) row → JoinedTo table old keys (n + 1) (set rows n row)
joined_more {table = table} {old = old} {rows = rows} {keys = keys} {n = n} {noted = noted} {row = row} j there below
    noted_is is = record {
      len = length-set rows n row ∙ j.len;
      others = drop-set-lt keys rows n row below ∙ j.others;
      done = λ k below. elim (cases_eq k n) [
        | inl same ↦ subst
            (λ (m : ℕ). IsRowOf table (get_or old m []) (length table.roots) (get_or (set rows n row) m [])) (sym same)
            (subst (λ (xs : List ℕ). IsRowOf table (get_or old n []) (length table.roots) xs)
            (sym (get_or-set_same rows n row [] (omega (arith, there, j.len))))
            (subst (λ (xs : List ℕ). IsRowOf table xs (length table.roots) row)
            (sym noted_is ∙ j.later n (omega arith)) is))
        | inr other ↦ subst (λ (xs : List ℕ). IsRowOf table (get_or old k []) (length table.roots) xs)
            (sym (get_or-set_other rows n k row [] other)) (j.done k (omega (arith, below, other)))
      ];
      later = λ k past.
          let other : k ≢ n = omega (arith, past) in
          get_or-set_other rows n k row [] other ∙ j.later k (omega (arith, past));
    }

module _ {table : TableView} {keys : List ℕ} {noted : List (List ℕ)} (new : List (List ℕ))
    (a : AreAllNoted table keys noted) (r : AreRowsOf table noted (keys_in table keys) new)
    (room : keys_in table keys ≤ length new) where
  -- each word of a row is the joined one
  word_joined : (key category : ℕ) → key < keys_in table keys → category < row_len →
      slice_index (get_or (take (keys_in table keys) new) key []) category
      ≡ joined table (key_at table keys key) category
  word_joined key category below within =
      let f = λ (trie : ℕ). slice_index
      (get_or table.rows (index_of (slice_index (get_or noted key []) trie)) []) category in
      let row = λ (trie : ℕ). get_or table.rows (walk_row table trie (key_at table keys key)) [] in
      ap (λ (xs : List ℕ). slice_index xs category) (get_or-take (keys_in table keys) new key [] below)
      ∙ (r key below).words category within
      ∙ ap (λ (xs : List ℕ). greatest xs)
      (map_where f (λ trie. slice_index (row trie) category) (tries_of table)
      (All-range (λ trie. f trie ≡ slice_index (row trie) category) (length table.roots)
      (λ trie there. ap (λ (k : ℕ). slice_index (get_or table.rows k []) category) (a.each key trie below there)))
      ∙ sym (map-map (λ them. slice_index them category) row (tries_of table)))

  -- so the rows are joined
  pub rows_joined : AreJoined table keys (take (keys_in table keys) new)
  rows_joined = record {
    len = length-take-le (keys_in table keys) new room;
    joined_is = word_joined;
    verdict_is = λ key category below within.
        ap (λ (word : ℕ). word % userdatas) (word_joined key category below within);
  }

  -- and each has a word for each category
  pub rows_wide : (k : ℕ) → k < keys_in table keys →
      length (get_or (take (keys_in table keys) new) k []) ≡ row_len
  rows_wide k below = ap (λ (xs : List ℕ). length xs) (get_or-take (keys_in table keys) new k [] below)
      ∙ (r k below).len

-- ---- the rows of a machine

-- a row has a word for each category
abbrev IsWide : List ℕ → Type 0
IsWide row = length row ≡ row_len

module _ (table : TableView) (keys : List ℕ) where
  -- a job changes no row
  wide_job : (state : FlowState) (slot : ℕ) (job : Option Job) → All IsWide state.rows →
      All IsWide (after_empty table state slot job).rows
  wide_job state slot None wide = wide
  wide_job state slot (Some job) wide = wide

  -- a step leaves rows with a word for each category
  wide_step : (state : FlowState) (slot : ℕ) (held : Option Flight) → All IsWide state.rows →
      All IsWide (step_of table keys state slot held).rows
  wide_step state slot None wide = wide_job state slot (slice_get (jobs_of table keys) state.machine.given) wide
  wide_step state slot (Some flight) wide = elim (cases_Bool (is_match (word_of table keys flight))) [
    | inl match ↦ (
        let row : List ℕ = get_or table.rows (index_of (word_of table keys flight)) [] in
        let old : List ℕ = get_or state.rows flight.key [] in
        rw match (All-set IsWide state.rows flight.key (joined_row old row) (joined_len old row) wide)
        )
    | inr on ↦ rw on wide
  ]

  -- and so does a run
  wide_run : (slots : List ℕ) (state : FlowState) → All IsWide state.rows →
      All IsWide (flow_run table keys state slots).rows
  wide_run [] state wide = wide
  wide_run (slot ∷ slots) state wide =
      wide_run slots (flow_step table keys state slot)
      (wide_step state slot (get_or state.machine.slots slot None) wide)

  -- rows of zeros are so
  wide_zeros : All IsWide (replicate (keys_in table keys) zero_row)
  unfolding zero_row
  wide_zeros = All-replicate IsWide (keys_in table keys) (replicate row_len 0) (length-replicate {A = ℕ} row_len 0)

  -- the rows of a machine are so from the first state on
  pub wide_from_first : (width : ℕ) (slots : List ℕ) →
      All IsWide (flow_run table keys (first_state table keys width) slots).rows
  wide_from_first width slots = wide_run slots (first_state table keys width) wide_zeros

  -- there is one way to join them
  pub same_rows : {one other : List (List ℕ)} → AreJoined table keys one → AreJoined table keys other →
      ((k : ℕ) → k < keys_in table keys → length (get_or one k []) ≡ row_len) →
      All IsWide other → one ≡ other
  same_rows {one = one} {other = other} a b wide as_wide =
      let n : ℕ = keys_in table keys in
      fill_by_all (λ k. get_or other k []) one n [] a.len
      (λ k below. same_row k below
      (wide k below) (All-get_or IsWide other k [] (omega (arith, below, b.len)) as_wide))
      ∙ sym (fill_by_all (λ k. get_or other k []) other n [] b.len (λ k below. refl))
    where
      same_row : (k : ℕ) → k < keys_in table keys → length (get_or one k []) ≡ row_len →
          length (get_or other k []) ≡ row_len → get_or one k [] ≡ get_or other k []
      same_row k below wide as_wide =
          fill_by_all (λ c. slice_index (get_or other k []) c) (get_or one k []) row_len 0 wide
          (λ c within. a.joined_is k c below within ∙ sym (b.joined_is k c below within))
          ∙ sym (fill_by_all (λ c. slice_index (get_or other k []) c) (get_or other k []) row_len 0 as_wide
          (λ c within. refl))
