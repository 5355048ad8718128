use Rattle.std.proofs.Common.{◌≡◌, ◌+◌, ◌*◌, ◌-◌, ◌≤◌, length, take}
use Rattle.table_sizes.specs.Sizes.{row_len}
use Rattle.table_image.specs.Spelling.{is_row_word}
use Rattle.table_image.specs.declared.load_fault.ImageKind.TheVariants.{RowForm}
use Rattle.table_image.specs.ImageReading.{numbers, numbers_after}
use Rattle.table_image.proofs.rows.read_row.Given as goal

-- the words left of the row are read after those so far
abbrev pub invariant-loop-category : goal.invariant-loop-category
invariant-loop-category l = record {
  rest : numbers RowForm 8 (λ _. is_row_word l.rules) l.bytes l.from row_len
      ≡ numbers_after RowForm 8 (λ _. is_row_word l.rules) l.bytes l.from (row_len - l.category)
      (take l.category l.row);
  len : length l.row ≡ row_len;
  place : l.at ≡ l.from + 8 * l.category;
  inside : l.at ≤ length l.bytes;
}
