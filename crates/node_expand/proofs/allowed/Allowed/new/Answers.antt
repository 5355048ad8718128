use Rattle.std.proofs.lemmas.Bool.{true≢false}
use Rattle.node_expand.proofs.Bytes.{Answers, range_answers, mask_answers, agreeing_answer}
use Rattle.field_defs.proofs.Offered.{size_at_most_8}
use Rattle.node_expand.proofs.allowed.Allowed.new.Goals as goal
use Rattle.list_lemmas.proofs.Powers.{shift_count}
use Rattle.list_lemmas.proofs.Bits.{and_again}

-- the ends of a range answer
pub returns-in-Range : goal.returns-in-Range
returns-in-Range c =
    let answers : Answers c.args.value.now c.args.size c.args.place c.args.edge c.between-in-Range.result =
    rw (c.between-in-Range.ensures, c.from-shift.ensures, c.in-Range.is)
    (range_answers c.in-Range.low c.in-Range.high c.args.size c.args.place c.args.edge
    (size_at_most_8 c.args.size c.requires.value.lawful_size) c.requires.place
    (rw c.in-Range.is at c.requires.edge)) in
    assumption answers

-- and those of a mask
pub returns-in-Mask : goal.returns-in-Mask
returns-in-Mask c =
    let answers : Answers c.args.value.now c.args.size c.args.place c.args.edge c.between.result =
    rw (
      c.between.ensures,
      c.mask_ends-low.ensures.low,
      c.mask_ends-low.ensures.high,
      c.from-shift.ensures,
      c.in-Mask.is,
    )
    (mask_answers c.in-Mask.value c.in-Mask.bits c.args.size c.args.place c.args.edge
    (size_at_most_8 c.args.size c.requires.value.lawful_size) c.requires.place (rw c.in-Mask.is at c.requires.edge)) in
    assumption answers

pub returns-in-Bitmask : goal.returns-in-Bitmask
returns-in-Bitmask c = record {
  answer = λ byte below. rw (
    c.byte_at.ensures,
    c.byte_at-mask.ensures,
    c.from-shift.ensures,
    shift_count c.args.size c.args.place,
    c.in-Bitmask.is,
  )
      (agreeing_answer c.in-Bitmask.value c.in-Bitmask.mask c.args.size c.args.place byte c.args.edge c.requires.place);
  filled = and_again c.byte_at.result c.byte_at-mask.result;
  between = λ interval. absurd (true≢false (rw c.in-Bitmask.is at interval));
}
