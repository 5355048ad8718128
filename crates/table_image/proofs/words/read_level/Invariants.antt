use Rattle.std.proofs.Common.{◌≡◌, ◌+◌, ◌*◌, ◌/◌, ◌≤◌, length}
use Rattle.flat_table.specs.Sound.{is_sound_word}
use Rattle.table_image.specs.declared.load_fault.ImageKind.TheVariants.{Unsound}
use Rattle.table_image.specs.ImageReading.{numbers_after}
use Rattle.table_image.proofs.words.read_level.Given as goal

-- the words left are read after those so far
abbrev pub invariant-loop-portion : goal.invariant-loop-portion
invariant-loop-portion l = record {
  rest : numbers_after Unsound 8 (λ _. is_sound_word l.rows l.next) l.bytes l.from l.count l.initial.words.items
      ≡ numbers_after Unsound 8 (λ _. is_sound_word l.rows l.next) l.bytes l.from l.left l.words.items;
  len : length l.words.items + l.left ≡ length l.initial.words.items + l.count;
  few : l.left ≤ l.count;
  turns : l.left + 128 * l.portion ≤ 128 * (l.count / 128 + 1);
  inside : l.from + 8 * length l.words.items ≤ length l.bytes;
}
