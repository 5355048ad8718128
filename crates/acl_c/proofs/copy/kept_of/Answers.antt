use Rattle.flat_table.proofs.Offered.{sound_parts}
use Rattle.acl_c.proofs.copy.kept_of.Goals as goal

pub loop-trie-init : goal.loop-trie-init
loop-trie-init c = record {
  kept = c.new-kept.ensures.items;
  count = (sound_parts c.args.table.now c.tries-trie-end.ensures.sound).shape.same;
  sound = c.tries-trie-end.ensures.sound;
}
