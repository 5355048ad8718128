use Rattle.std.proofs.Common.{◌∙◌}
use Rattle.acl_c.proofs.copy.copy_of.Goals as goal

pub from_sound-requires : goal.from_sound-requires
from_sound-requires c = rw (
  c.key_len.ensures.value,
  c.rules.ensures,
  c.in_ok-kept_of.ensures.kept,
  c.in_ok-roots_of.ensures,
  c.in_ok-from_slice.ensures.items ∙ c.level_lens.ensures,
  c.in_ok-from_slice-2.ensures.items ∙ c.words.ensures,
  c.in_ok-from_slice-3.ensures.items ∙ c.rows.ensures,
) c.in_ok-kept_of.ensures.sound
