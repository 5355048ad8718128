-- The verdicts of rows, key by key.
use Rattle.std.proofs.Common.{◌≡◌, ℕ, ◌+◌, ◌-◌, ◌*◌, ◌%◌, ◌<◌, ◌≤◌, List, [], ◌∷◌, ◌++◌, sym, ap, ◌∙◌, refl, arith}
use Rattle.std.proofs.Common.{length}
use Rattle.std.proofs.Common.{take, drop, map, get_or, append-nil, length-take, length-drop}
use Rattle.std.specs.Prelude.{flat_map, slice_get, slice_index, Some}
use Rattle.std.specs.List.{range_with_len}
use Rattle.std.proofs.Math.Nat.{mul-le-mul_right}
use Rattle.std.proofs.lemmas.Grind.{flat_map-append}
use Rattle.std.proofs.lemmas.List.{length-map, length-take-le, take_more, get_or-map, get_or-take}
use Rattle.std.proofs.lemmas.List.Concat.{flat_map_single}
use Rattle.std.proofs.lemmas.List.FromFn.{length-range_with_len, fill_by_all}
use Rattle.std.proofs.lemmas.Option.{get_or_from_slice_get}
use Rattle.std.proofs.lemmas.List.Folds.{flat_map-map}
use borrow.Rule.Slice.PartMut.{put_mid}
use Rattle.list_lemmas.proofs.Maps.{map_where, flat_map_where}
use Rattle.list_lemmas.proofs.Positions.{piece_written}
use Rattle.table_sizes.specs.Sizes.{row_len}
use Rattle.flat_table.specs.Table.{TableView}
use Rattle.flat_table.specs.Walk.{table_verdict, userdatas}
use Rattle.flat_table.specs.Batch.{key_at, keys_in, key_verdicts, batch_verdicts}
use Rattle.flow_core.specs.Rows.{row_verdicts}
use Rattle.flow_core.specs.Laws.{AreJoined}
use Rattle.flow_core.proofs.Given.{even_pieces}
use Rattle.list_lemmas.proofs.Ranges.{All-range}

-- a row has as many verdicts as categories are asked for
verdicts_len : (count : ℕ) (row : List ℕ) → length (row_verdicts count row) ≡ count
verdicts_len count row = length-map (range_with_len 0 count) (λ category. slice_index row category % userdatas)
    ∙ length-range_with_len 0 count

-- ---- they are written row by row
module _ (rows : List (List ℕ)) (count keys : ℕ) (old : List ℕ) (few : keys ≤ length rows)
    (room : length old ≡ keys * count) where
  -- the first rows have as many verdicts each
  written_len : (k : ℕ) → k ≤ keys → length (flat_map (row_verdicts count) (take k rows)) ≡ k * count
  written_len k within = even_pieces (row_verdicts count) count (verdicts_len count) (take k rows)
      ∙ ap (λ (n : ℕ). n * count) (length-take-le k rows (omega (arith, within, few)))

  -- the room for one row more
  room_of_row : (k : ℕ) (out : List ℕ) → k < keys → length out ≡ length old →
      length (take ((k + 1) * count - k * count) (drop (k * count) out)) ≡ count
  room_of_row k out within same =
      let fits : (k + 1) * count ≤ keys * count = mul-le-mul_right count
      (let next : k + 1 ≤ keys = omega (arith, within) in next) in
      omega (
        arith,
        fits,
        room,
        same,
        length-take ((k + 1) * count - k * count) (drop (k * count) out),
        length-drop (k * count) out,
      )

  -- the verdicts of one more row come after those of the first rows
  pub row_written : (k : ℕ) (out verdicts row : List ℕ) → k < keys → length out ≡ length old →
      out ≡ flat_map (row_verdicts count) (take k rows) ++ drop (k * count) old → slice_get rows k ≡ Some row →
      verdicts ≡ row_verdicts (length (take ((k + 1) * count - k * count) (drop (k * count) out))) row →
      put_mid (k * count) ((k + 1) * count - k * count) out verdicts
      ≡ flat_map (row_verdicts count) (take (k + 1) rows) ++ drop ((k + 1) * count) old
  row_written k out verdicts row within same so_far row_is verdicts_are =
      let there : k < length rows = omega (arith, within, few) in
      let are : verdicts ≡ row_verdicts count row = verdicts_are
      ∙ ap (λ (n : ℕ). row_verdicts n row) (room_of_row k out within same) in
      let len : length verdicts ≡ count = ap length are ∙ verdicts_len count row in
      let now = piece_written record {
        is = so_far;
        len = written_len k (omega (arith, within));
      } verdicts ((k + 1) * count) (omega (arith, len)) in
      let more : flat_map (row_verdicts count) (take (k + 1) rows)
      ≡ flat_map (row_verdicts count) (take k rows) ++ row_verdicts count row =
      ap (flat_map (row_verdicts count)) (take_more rows k [] there)
      ∙ flat_map-append (row_verdicts count) (take k rows) (get_or rows k [] ∷ [])
      ∙ ap (λ (piece : List ℕ). flat_map (row_verdicts count) (take k rows) ++ piece)
      (append-nil (row_verdicts count (get_or rows k []))
      ∙ ap (row_verdicts count) (get_or_from_slice_get rows k row [] row_is)) in
      now.is
      ∙ ap (λ (piece : List ℕ). (flat_map (row_verdicts count) (take k rows) ++ piece) ++ drop ((k + 1) * count) old)
      are
      ∙ ap (λ (front : List ℕ). front ++ drop ((k + 1) * count) old) (sym more)

-- ---- in category 0 alone

-- the verdict of a row in it
abbrev first_of : List ℕ → ℕ
first_of row = slice_index row 0 % userdatas

-- verdicts that were written place by place are those of the first rows
pub firsts_written : (rows : List (List ℕ)) (out : List ℕ) (n : ℕ) → length out ≡ n → n ≤ length rows →
    ((k : ℕ) → k < n → get_or out k 0 ≡ first_of (get_or rows k [])) → out ≡ map first_of (take n rows)
firsts_written rows out n len few each =
    let taken : length (take n rows) ≡ n = length-take-le n rows few in
    fill_by_all (λ k. first_of (get_or rows k [])) out n 0 len each
    ∙ sym (fill_by_all (λ k. first_of (get_or rows k [])) (map first_of (take n rows)) n 0
    (length-map (take n rows) first_of ∙ taken)
    (λ k below. get_or-map first_of (take n rows) k [] 0 (omega (arith, below, taken))
    ∙ ap first_of (get_or-take n rows k [] below)))

-- and so they are where one category is asked for
pub firsts_are : (rows : List (List ℕ)) (n : ℕ) {out : List ℕ} {count room : ℕ} → count ≡ 1 → room ≡ n * count →
    out ≡ map first_of (take room rows) → out ≡ flat_map (row_verdicts count) (take n rows)
firsts_are rows n {count = count} {room = room} one fits is =
    let all : room ≡ n = omega (arith, fits, ap (λ (m : ℕ). n * m) one) in
    is ∙ ap (λ (m : ℕ). map first_of (take m rows)) all
    ∙ sym (flat_map_single first_of (take n rows))
    ∙ ap (λ (m : ℕ). flat_map (row_verdicts m) (take n rows)) (sym one)

-- ---- of rows that are joined they are those of the table
module _ (table : TableView) (keys : List ℕ) (count : ℕ) (few : count ≤ row_len) (rows : List (List ℕ))
    (joined : AreJoined table keys rows) where
  -- the verdicts of a key's row are those of the key
  verdicts_of_key : (k : ℕ) → k < keys_in table keys →
      row_verdicts count (get_or rows k []) ≡ key_verdicts table count (key_at table keys k)
  verdicts_of_key k below =
      map_where (λ category. slice_index (get_or rows k []) category % userdatas)
      (λ category. table_verdict table (key_at table keys k) category) (range_with_len 0 count)
      (All-range (λ category. slice_index (get_or rows k []) category % userdatas
      ≡ table_verdict table (key_at table keys k) category) count
      (λ category narrow. joined.verdict_is k category below (omega (arith, narrow, few))))

  -- the verdicts of all rows are those of the batch
  pub verdicts_of_rows : flat_map (row_verdicts count) rows ≡ batch_verdicts table count keys
  verdicts_of_rows =
      let n : ℕ = keys_in table keys in
      ap (flat_map (row_verdicts count))
      (fill_by_all (λ k. get_or rows k []) rows n [] joined.len (λ k below. refl))
      ∙ flat_map-map (row_verdicts count) (λ k. get_or rows k []) (range_with_len 0 n)
      ∙ flat_map_where (λ k. row_verdicts count (get_or rows k []))
      (λ k. key_verdicts table count (key_at table keys k))
      (range_with_len 0 n)
      (All-range (λ k. row_verdicts count (get_or rows k []) ≡ key_verdicts table count (key_at table keys k)) n
      verdicts_of_key)
