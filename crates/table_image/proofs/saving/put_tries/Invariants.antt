use Rattle.std.proofs.Common.{◌≡◌, ◌++◌, take, drop, length, sum, map, true, None}
use Rattle.std.specs.List.{list_all}
use Rattle.flat_table.specs.Groups.{depth_of}
use Rattle.flat_table.specs.Sound.{sound_fault}
use Rattle.table_image.specs.declared.version.Version.TheVariants.{Two}
use Rattle.table_image.specs.Spelling.{spelled_tries, is_word}
use Rattle.table_image.proofs.saving.put_tries.Given as goal

-- those so far are written, and those left are written after them
abbrev pub invariant-loop-trie : goal.invariant-loop-trie
invariant-loop-trie l = record {
  rest : l.out.items ++ spelled_tries Two l.table.key_len (drop l.trie l.table.kept) (drop l.trie l.table.roots) l.lens
      ≡ l.initial.out.items ++ spelled_tries Two l.table.key_len l.table.kept l.table.roots l.table.level_lens;
  levels : length l.lens ≡ sum (map (depth_of l.table.key_len) (drop l.trie l.table.kept));
  typed : list_all is_word (take l.trie l.table.roots) ≡ true;
  sound : sound_fault l.table ≡ None;
}
