use Rattle.std.proofs.Common.{refl}
use Rattle.table_image.specs.Spelling.{spelled_pair}
use Rattle.table_image.proofs.Images.{either, image_read, image_spelled}
use Rattle.table_image.proofs.laws.what_has_no_fault_is_an_image.Goals as goal

pub returns : goal.returns
returns c = record {
  read = λ bytes pair are e. either bytes pair (image_read bytes pair are e);
  image = λ version bytes pair is. image_spelled version bytes pair is;
  saved = λ version pair ip4 ip6. image_spelled version (spelled_pair version pair) pair
      (record { spelling = refl; ip4 = ip4; ip6 = ip6 });
}
