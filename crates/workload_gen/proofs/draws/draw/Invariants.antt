-- So many words have been drawn, into an array that keeps its length.
use Rattle.std.proofs.Common.{◌≡◌, length, take}
use Rattle.workload_gen.specs.Draws.{after_words, words_of}
use Rattle.workload_gen.proofs.draws.draw.Given as goal

abbrev pub invariant-loop-word : goal.invariant-loop-word
invariant-loop-word g l = record {
  len : length l.word-items ≡ g.row.N;
  words : take l.word-index l.word-items ≡ words_of l.word-index l.fn.generator;
  state : l.generator ≡ after_words l.word-index l.fn.generator;
}
