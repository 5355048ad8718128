use Rattle.std.proofs.Common.{◌≡◌, ◌+◌, ◌-◌, ◌≤◌, length, sum}
use Rattle.table_sizes.specs.Sizes.{max_words}
use Rattle.table_image.specs.ImageReading.{tries_after, no_tries}
use Rattle.table_image.specs.Loading.{tries_of}
use Rattle.table_image.proofs.tries.Tries.read.Given as goal

-- the tries left are read after those so far
abbrev pub invariant-loop-trie : goal.invariant-loop-trie
invariant-loop-trie l = record {
  rest : tries_after l.version l.key_len l.taken l.bytes l.count (no_tries l.at)
      ≡ tries_after l.version l.key_len l.taken l.bytes (l.count - l.trie) (tries_of l.tries);
  inside : l.tries.end ≤ length l.bytes;
  words : l.tries.words ≡ sum l.tries.level_lens.items;
  room : l.taken + l.tries.words ≤ max_words;
}
