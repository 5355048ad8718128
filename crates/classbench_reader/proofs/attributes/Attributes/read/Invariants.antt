use Rattle.std.proofs.Common.{◌≡◌, Ok, length}
use Rattle.text_scan.specs.Parts.{words_of}
use Rattle.classbench_reader.specs.Attributes.{attributes_of, with_words}
use Rattle.classbench_reader.proofs.attributes.Attributes.read.Given as goal

-- the words that are left, added to the attributes so far, make those of all words
abbrev pub invariant-loop-word : goal.invariant-loop-word
invariant-loop-word l = attributes_of (words_of l.text) ≡ with_words (Ok l.attributes) (words_of l.left)

abbrev pub decreases-loop-word : goal.decreases-loop-word
decreases-loop-word l = length l.left
