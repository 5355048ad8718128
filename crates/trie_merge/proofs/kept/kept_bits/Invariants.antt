use Rattle.std.proofs.Common.{◌≡◌}
use Rattle.list_lemmas.proofs.Sums.{bits_of}
use Rattle.trie_merge.proofs.kept.kept_bits.Given as goal
use Rattle.trie_merge.specs.Wild.{is_kept_by}

abbrev pub invariant-loop-input : goal.invariant-loop-input
invariant-loop-input l = l.bits ≡ bits_of (is_kept_by l.wild) l.input
