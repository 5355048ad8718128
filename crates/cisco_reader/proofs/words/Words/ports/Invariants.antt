-- The ports that were read so far.
use Rattle.std.proofs.Common.{◌≡◌, [], length}
use Rattle.text_scan.specs.Parts.{words_of}
use Rattle.cisco_reader.specs.PortList.{listed}
use Rattle.cisco_reader.proofs.words.Words.ports.Given as goal

-- the words that are left, after the ports so far, make what all words make
abbrev pub invariant-loop-word : goal.invariant-loop-word
invariant-loop-word l = listed [] l.fn.self ≡ listed l.ports (words_of l.left)

abbrev pub decreases-loop-word : goal.decreases-loop-word
decreases-loop-word l = length l.left
