use Rattle.std.proofs.Common.{◌≡◌, ◌+◌, ◌*◌, ◌-◌, ◌≤◌, ◌∷◌, length, drop, []}
use Rattle.table_image.specs.ImageReading.{rows_after, row_bytes, no_rule}
use Rattle.table_image.proofs.rows.read_rows.Given as goal

-- the rows left are read after those so far
abbrev pub invariant-loop-row : goal.invariant-loop-row
invariant-loop-row l = record {
  first : l.rows.items ≡ no_rule ∷ drop 1 l.rows.items;
  rest : rows_after l.rules l.bytes l.from l.count []
      ≡ rows_after l.rules l.bytes l.from (l.count - l.row) (drop 1 l.rows.items);
  len : length l.rows.items ≡ l.row + 1;
  place : l.at ≡ l.from + row_bytes * l.row;
  inside : l.at ≤ length l.bytes;
}
