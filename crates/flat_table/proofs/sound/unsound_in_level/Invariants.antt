-- the first unsound word is among those not yet looked at, and the last one looked at is sound
use Rattle.std.proofs.Common.{◌≡◌, ◌+◌, not, true, drop, IfSome}
use Rattle.std.specs.List.{position_from}
use Rattle.flat_table.specs.Sound.{is_sound_word}
use Rattle.flat_table.proofs.sound.unsound_in_level.Given as goal

abbrev pub invariant-loop-i : goal.invariant-loop-i
invariant-loop-i l = record {
  place : position_from (λ word. not (is_sound_word l.rows l.next word)) (l.from + l.i) (drop l.i l.words)
      ≡ position_from (λ word. not (is_sound_word l.rows l.next word)) l.from l.words;
  known : IfSome l.sound (λ before. is_sound_word l.rows l.next before ≡ true);
}
