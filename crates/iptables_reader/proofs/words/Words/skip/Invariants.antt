-- The words that were passed over.
use Rattle.std.proofs.Common.{◌≡◌, ◌-◌}
use Rattle.iptables_reader.specs.Quotes.{after_words}
use Rattle.iptables_reader.proofs.words.Words.skip.Given as goal

-- those that are left of so many end where all of them end
abbrev pub invariant-loop : goal.invariant-loop
invariant-loop l = after_words l.count l.fn.self ≡ after_words (l.count - l.counter) l.self
