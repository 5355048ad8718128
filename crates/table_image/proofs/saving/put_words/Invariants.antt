use Rattle.std.proofs.Common.{◌≡◌, ◌+◌, ◌*◌, ◌/◌, ◌≤◌, ◌++◌, length}
use Rattle.table_image.specs.Spelling.{all_spelled}
use Rattle.table_image.proofs.saving.put_words.Given as goal

-- those left are written after those so far
abbrev pub invariant-loop-portion : goal.invariant-loop-portion
invariant-loop-portion l = record {
  text : l.out.items ++ all_spelled 8 l.left ≡ l.initial.out.items ++ all_spelled 8 l.words;
  turns : length l.left + 128 * l.portion ≤ 128 * (length l.words / 128 + 1);
}
