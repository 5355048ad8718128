-- the levels not yet looked at begin here, and the first unsound word is in them
use Rattle.std.proofs.Common.{◌≡◌, ◌+◌, ◌≤◌, length, drop, sum}
use Rattle.flat_table.specs.Table.{levels_from}
use Rattle.flat_table.specs.Sound.{unsound_word}
use Rattle.flat_table.proofs.sound.unsound_word.Given as goal

abbrev pub invariant-loop-depth : goal.invariant-loop-depth
invariant-loop-depth l =
    (unsound_word l.rows l.words (levels_from l.from (drop l.depth l.lens))
    ≡ unsound_word l.rows l.words (levels_from l.initial.from l.lens)) ×
    (l.from + sum (drop l.depth l.lens) ≤ length l.words)
