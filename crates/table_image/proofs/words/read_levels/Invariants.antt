use Rattle.std.proofs.Common.{◌≡◌, ◌+◌, ◌*◌, ◌≤◌, length, drop, sum}
use Rattle.flat_table.specs.Table.{levels_from}
use Rattle.table_image.specs.ImageReading.{words_of_levels}
use Rattle.table_image.proofs.words.read_levels.Given as goal

-- the words of the levels left are read after those so far
abbrev pub invariant-loop-depth : goal.invariant-loop-depth
invariant-loop-depth l = record {
  rest : words_of_levels l.rows l.bytes l.from (levels_from (length l.initial.words.items) l.lens) l.initial.words.items
      ≡ words_of_levels l.rows l.bytes l.from (levels_from (length l.words.items) (drop l.depth l.lens)) l.words.items;
  len : length l.words.items + sum (drop l.depth l.lens) ≡ length l.initial.words.items + sum l.lens;
  inside : l.from + 8 * length l.words.items ≤ length l.bytes;
}
