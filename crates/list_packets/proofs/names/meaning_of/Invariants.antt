-- The names that were looked at.
use Rattle.std.proofs.Common.{◌≡◌, drop}
use Rattle.text_scan.specs.Parts.{words_of}
use Rattle.list_packets.specs.Names.{named}
use Rattle.list_packets.proofs.names.meaning_of.Given as goal

-- those that are left name what all do
abbrev pub invariant-loop-meaning : goal.invariant-loop-meaning
invariant-loop-meaning g l =
    named l.word (words_of l.names) l.meanings
    ≡ named l.word (words_of l.left) (drop l.meaning-index l.meanings)
