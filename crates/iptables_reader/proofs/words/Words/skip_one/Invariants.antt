-- The parts of a word that were read.
use Rattle.std.proofs.Common.{◌≡◌, length}
use Rattle.iptables_reader.specs.Quotes.{after_open, after_word, by_quotes}
use Rattle.iptables_reader.proofs.words.Words.skip_one.Given as goal

-- those that are left end the word, if they do at all, where all parts end it
abbrev pub invariant-loop-quotes : goal.invariant-loop-quotes
invariant-loop-quotes l = after_word l.fn.self ≡ by_quotes l.quotes l.self (after_open l.self)

abbrev pub decreases-loop-quotes : goal.decreases-loop-quotes
decreases-loop-quotes l = length l.self
