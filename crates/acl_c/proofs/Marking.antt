-- Marks of keys: those of one key by its winners, and those of a batch key by key.
use Rattle.std.proofs.Common.{◌≡◌, ℕ, ◌+◌, ◌-◌, ◌*◌, ◌≤◌, ◌==◌, List, [], ◌∷◌, ◌++◌, Bool, true, false, not}
use Rattle.std.proofs.Common.{map, take, drop, length, refl, ap, ◌∙◌, append-nil}
use Rattle.std.proofs.Common.{arith}
use Rattle.std.specs.Prelude.{flat_map, if◌then◌else◌}
use Rattle.std.specs.List.{range_with_len}
use Rattle.std.proofs.lemmas.Grind.{flat_map-append}
use Rattle.std.proofs.lemmas.List.{length-map}
use Rattle.std.proofs.lemmas.List.FromFn.{length-range_with_len, take-map-range_with_len}
use Rattle.std.proofs.Common.{length-take, length-drop}
use Rattle.std.proofs.Math.Nat.{mul-le-mul_right}
use Rattle.list_lemmas.proofs.Positions.{range-push}
use Rattle.flat_table.specs.Table.{TableView}
use Rattle.flat_table.specs.Walk.{joined}
use Rattle.flat_table.specs.Batch.{key_at}
use Rattle.scalar_walk.specs.Rows.{winners_of}
use Rattle.acl_c.specs.Marks.{mark_of, table_mark, key_marks, first_marks}

-- a mark says the contrary of a winner
mark_of_not : (none : Bool) → mark_of (not none) ≡ (if none then 1 else 0)
mark_of_not true = refl
mark_of_not false = refl

-- the marks of some categories are those of the table
marks_of : (table : TableView) (key categories : List ℕ) →
    map mark_of (map (λ category. not (joined table key category == 0)) categories) ≡ map
    (table_mark table key) categories
marks_of table key [] = refl
marks_of table key (category ∷ rest) =
    λ i. mark_of_not (joined table key category == 0) i ∷ marks_of table key rest i

-- the marks of the first categories are those by the winners
pub marks_of_winners : (table : TableView) (key : List ℕ) (n : ℕ) → n ≤ 16 →
    map mark_of (take n (winners_of table key)) ≡ key_marks table n key
unfolding winners_of
marks_of_winners table key n few =
    ap (map mark_of) (take-map-range_with_len (λ category. not (joined table key category == 0)) 0 16 n few)
    ∙ marks_of table key (range_with_len 0 n)

module _ (table : TableView) (count : ℕ) (keys : List ℕ) where
  -- the marks of one key more
  pub first_marks-more : (k : ℕ) →
      first_marks table count keys (k + 1) ≡ first_marks table count keys k ++ key_marks table count
      (key_at table keys k)
  first_marks-more k =
      let one : ℕ → List ℕ = λ j. key_marks table count (key_at table keys j) in
      ap (λ (ks : List ℕ). flat_map one ks) (range-push 0 k)
      ∙ flat_map-append one (range_with_len 0 k) ((0 + k) ∷ [])
      ∙ ap (λ (ms : List ℕ). first_marks table count keys k ++ ms) (append-nil _ ∙ ap one (omega arith))

  -- a key has so many marks
  pub length-key_marks : (key : List ℕ) → length (key_marks table count key) ≡ count
  length-key_marks key = length-map (range_with_len 0 count) _ ∙ length-range_with_len 0 count

-- the key at the place, as the code cuts it
pub key_cut : (table : TableView) (keys : List ℕ) (len k : ℕ) → len ≡ table.key_len →
    take ((k + 1) * len - k * len) (drop (k * len) keys) ≡ key_at table keys k
key_cut table keys len k same =
    let one : (k + 1) * len - k * len ≡ len = omega arith in
    ap (λ (n : ℕ). take n (drop (k * len) keys)) one
    ∙ ap (λ (n : ℕ). take n (drop (k * n) keys)) same

-- the room for the marks of one key, as the code cuts it
pub length_cut : (out : List ℕ) (k n count : ℕ) → length out ≡ n * count → k + 1 ≤ n →
    length (take ((k + 1) * count - k * count) (drop (k * count) out)) ≡ count
length_cut out k n count room within =
    let fits : (k + 1) * count ≤ n * count = mul-le-mul_right count within in
    omega (arith, fits, room, length-take {A = ℕ}, length-drop {A = ℕ})
