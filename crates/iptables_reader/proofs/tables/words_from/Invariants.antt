-- The words that were passed.
use Rattle.std.proofs.Common.{◌≡◌, drop}
use Rattle.text_scan.specs.Parts.{words_of}
use Rattle.iptables_reader.proofs.tables.words_from.Given as goal

-- so many of them aren't left
abbrev pub invariant-loop : goal.invariant-loop
invariant-loop l = words_of l.left ≡ drop l.counter (words_of l.table)
