use Rattle.std.proofs.Common.{◌≡◌, ◌+◌, ◌*◌, ◌-◌, ◌≤◌, length, sum, []}
use Rattle.table_sizes.specs.Sizes.{max_words}
use Rattle.table_image.specs.declared.load_fault.ImageKind.TheVariants.{TooMany}
use Rattle.table_image.specs.ImageReading.{numbers_after, level_fits}
use Rattle.table_image.proofs.tries.level_lens.Given as goal

-- the levels left are read after those so far
abbrev pub invariant-loop-level : goal.invariant-loop-level
invariant-loop-level l = record {
  rest : numbers_after TooMany 4 (level_fits l.taken) l.bytes l.from l.depth []
      ≡ numbers_after TooMany 4 (level_fits l.taken) l.bytes l.from (l.depth - l.level) l.lens.items;
  words : l.words ≡ l.taken + sum l.lens.items;
  few : l.words ≤ max_words;
  count : length l.lens.items ≡ l.level;
  place : l.at ≡ l.from + 4 * l.level;
  inside : l.at ≤ length l.bytes;
}
