use Rattle.std.proofs.Common.{◌≡◌, ◌+◌, ◌*◌, ◌≤◌, length, drop, sum, map, []}
use Rattle.flat_table.specs.Groups.{depth_of}
use Rattle.flat_table.specs.Table.{levels_from, portions}
use Rattle.table_image.specs.ImageReading.{words_of_tries}
use Rattle.table_image.specs.Loading.{levels_of_tries}
use Rattle.table_image.proofs.words.read_words.Given as goal

-- the words of the tries left are read after those so far
abbrev pub invariant-loop-kept : goal.invariant-loop-kept
invariant-loop-kept l = record {
  rest : words_of_tries l.rows l.bytes l.tries.end (levels_of_tries l.key_len l.groups l.lens) []
      ≡ words_of_tries l.rows l.bytes l.tries.end
      (portions (map (depth_of l.key_len) (drop l.kept-index l.groups)) (levels_from (length l.words.items)
      (drop l.first l.lens)))
      l.words.items;
  levels : l.first + sum (map (depth_of l.key_len) (drop l.kept-index l.groups)) ≡ length l.lens;
  len : length l.words.items + sum (drop l.first l.lens) ≡ sum l.lens;
  inside : l.tries.end + 8 * length l.words.items ≤ length l.bytes;
}
