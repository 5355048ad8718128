-- The options that were read so far.
use Rattle.std.proofs.Common.{◌≡◌, length}
use Rattle.text_scan.specs.Parts.{words_of}
use Rattle.iptables_reader.specs.Reading.{first_reading, with_options}
use Rattle.iptables_reader.proofs.reading.options.Given as goal

-- the words that are left, after what was read, make what all words make
abbrev pub invariant-loop-word : goal.invariant-loop-word
invariant-loop-word l =
    with_options (words_of l.text) l.setting (first_reading l.setting.family) (words_of l.text)
    ≡ with_options l.words l.setting l.reading l.words

abbrev pub decreases-loop-word : goal.decreases-loop-word
decreases-loop-word l = length l.words
