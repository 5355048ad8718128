-- The rows of walks that have ended, written lane by lane.
use Rattle.std.proofs.Common.{◌≡◌, ℕ, ◌≢◌, ◌+◌, ◌*◌, ◌%◌, ◌<◌, ◌≤◌, List, refl, sym, ◌∙◌, arith, length, get_or, set}
use Rattle.std.proofs.Common.{get_or-set_same, get_or-set_other}
use Rattle.std.specs.Prelude.{bit_and}
use Rattle.std.proofs.lemmas.Nat.{and_mask}
use Rattle.std.proofs.Math.ListN.{length-set}
use borrow.Author.Count.{below_more}
use Rattle.table_sizes.specs.Groups.{max_key_len}
use Rattle.flat_table.specs.Word.{indexes}
use Rattle.scalar_walk.specs.Lanes.{sum_below}
use Rattle.scalar_walk.proofs.Below.{sum_none, sum_more}

-- the rows of the first n lanes are written from a place on, and those before them stay
pub record RowsTo (lows old : List ℕ) (at n : ℕ) (rows : List ℕ) : Type 0 where
  pub len : length rows ≡ length old
  pub written : (k : ℕ) → k < n → get_or rows (at + k) 0 ≡ get_or lows k 0 % indexes
  pub others : (k : ℕ) → k < at → get_or rows k 0 ≡ get_or old k 0

-- before the first lane no row is written
pub rows_none : (lows old : List ℕ) (at : ℕ) → RowsTo lows old at 0 old
rows_none lows old at = record {
  len = refl;
  written = λ k h. absurd (omega (arith, h));
  others = λ k h. refl;
}

-- the row of one more lane is written
pub rows_more : {lows old rows : List ℕ} {at n row : ℕ} → RowsTo lows old at n rows → n < 4 → at + 4 ≤ length old →
    row ≡ bit_and (get_or lows n 0) 536870911 → RowsTo lows old at (n + 1) (set rows (at + n) row)
rows_more {lows = lows} {rows = rows} {at = at} {n = n} {row = row} r few room row_is = record {
  len = omega (arith, length-set rows (at + n) row, r.len);
  written = below_more _ _
      (λ k h. let other : at + k ≢ at + n = omega (arith, h) in get_or-set_other rows (at + n) (at + k) row 0 other
      ∙ r.written k h)
      (get_or-set_same rows (at + n) row 0 (omega (arith, r.len, few, room)) ∙ row_is
      ∙ and_mask (get_or lows n 0) 29);
  others = λ k h. let other : k ≢ at + n = omega (arith, h) in get_or-set_other rows (at + n) k row 0 other
      ∙ r.others k h;
}

-- the words of the first n lanes are counted
pub record TakenTo (counts : List ℕ) (n taken : ℕ) : Type 0 where
  pub is : taken ≡ sum_below (λ (k : ℕ). get_or counts k 0) n
  pub most : taken ≤ n * max_key_len

-- before the first lane none are
pub taken_none : (counts : List ℕ) → TakenTo counts 0 0
taken_none counts = record { is = sym (sum_none (λ (k : ℕ). get_or counts k 0)); most = omega arith }

-- those of one more lane are counted
pub taken_more : {counts : List ℕ} {n taken count : ℕ} → TakenTo counts n taken → count ≡ get_or counts n 0 →
    count ≤ max_key_len → TakenTo counts (n + 1) (taken + count)
taken_more {counts = counts} {n = n} t is most = record {
  is = omega (arith, t.is, sum_more (λ (k : ℕ). get_or counts k 0) n, is);
  most = omega (arith, t.most, most);
}
