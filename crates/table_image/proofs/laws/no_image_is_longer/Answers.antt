use Rattle.table_image.proofs.FirstBytes.{image_same, image_within}
use Rattle.table_image.proofs.laws.no_image_is_longer.Goals as goal

pub returns : goal.returns
returns c = record { longest = image_within; first = image_same }
