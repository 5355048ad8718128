use Rattle.flat_table.proofs.Each.{each_is_sound, sound_of_each}
use Rattle.flat_table.proofs.laws.soundness_is_of_every_root_and_word.Goals as goal

pub returns : goal.returns
returns c = record { each = each_is_sound; sound = sound_of_each }
