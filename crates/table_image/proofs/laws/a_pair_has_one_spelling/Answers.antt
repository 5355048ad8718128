use Rattle.std.proofs.Common.{◌∙◌, sym}
use Rattle.table_image.proofs.Images.{image_spelled}
use Rattle.table_image.proofs.laws.a_pair_has_one_spelling.Goals as goal

pub returns : goal.returns
returns c = record {
  one = λ version pair bytes other is also. is.spelling ∙ sym also.spelling;
  shared = λ version second pair other bytes is also.
      (let one = image_spelled version bytes pair is in let two = image_spelled second bytes other also in cc);
}
