use Rattle.std.proofs.Common.{◌≡◌, ◌-◌, ◌≤◌, length, take}
use Rattle.flat_table.specs.Sound.{is_sound_word}
use Rattle.table_image.specs.declared.load_fault.ImageKind.TheVariants.{Unsound}
use Rattle.table_image.specs.ImageReading.{numbers_after}
use Rattle.table_image.proofs.words.read_whole.Given as goal

-- the words left are read after those so far
abbrev pub invariant-loop-i : goal.invariant-loop-i
invariant-loop-i l = record {
  rest : numbers_after Unsound 8 (λ _. is_sound_word l.rows l.next) l.bytes l.from (length l.initial.words - l.start)
      (take l.start l.initial.words)
      ≡ numbers_after Unsound 8 (λ _. is_sound_word l.rows l.next) l.bytes l.from (length l.initial.words - l.i)
      (take l.i l.words);
  len : length l.words ≡ length l.initial.words;
  begun : l.start ≤ l.i;
}
