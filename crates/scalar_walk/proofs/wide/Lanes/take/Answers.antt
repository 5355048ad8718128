use Rattle.std.proofs.Common.{◌+◌, ◌*◌, ◌<◌, ℕ, List, arith, refl, ap, subst}
use Rattle.std.specs.Prelude.{slice_index}
use Rattle.scalar_walk.specs.Lanes.{word_in}
use Rattle.scalar_walk.specs.Rows.{Takes}
use Rattle.scalar_walk.specs.Wide.{goes, in_four, together, word_of}
use Rattle.scalar_walk.proofs.Below.{sum_none}
use Rattle.scalar_walk.proofs.Counted.{counted_is}
use Rattle.scalar_walk.proofs.Taking.{PutsFour, taken_more, taken_none}
use Rattle.scalar_walk.proofs.wide.Lanes.take.Goals as goal

pub loop-four-init : goal.loop-four-init
loop-four-init g c = (
  taken_none c.args.words.now c.args.at.now c.args.self.now c.args.taken,
  omega (arith, sum_none (goes c.args.self.now)),
)

pub loop-four-preserved : goal.loop-four-preserved
loop-four-preserved g c =
    let l = c.loop-four in
    let next = c.take-next.result in
    let puts : PutsFour l.self (record {
      lows = c.put_four.new.numbers;
      highs = c.put_four-in-loop-four.new.numbers;
      keys = l.self.keys;
    }) l.four next.lows next.highs = record {
      low = λ i h. c.put_four.ensures.four i h;
      high = λ i h. c.put_four-in-loop-four.ensures.four i h;
      others = λ j either. record {
        low = c.put_four.ensures.others j either;
        high = c.put_four-in-loop-four.ensures.others j either;
        key = refl;
      };
      keys = refl;
    } in
    let takes : (i : ℕ) → i < 4 → Takes c.args.words.now (word_of l.self (4 * l.four + i))
    (in_four c.args.at.now l.four i)
    (word_in next.lows next.highs i) (slice_index l.taken i) (slice_index next.taken i) =
    λ i h. subst
    (λ (word : ℕ). Takes c.args.words.now word (in_four c.args.at.now l.four i) (word_in next.lows next.highs i)
    (slice_index l.taken i) (slice_index next.taken i))
    (c.four.ensures.words i h)
    (subst
    (λ (counts : List ℕ). Takes c.args.words.now (word_in c.four.result.lows c.four.result.highs i)
    (in_four c.args.at.now l.four i) (word_in next.lows next.highs i) (slice_index counts i) (slice_index next.taken i))
    c.four.ensures.taken (c.take-next.ensures.walks i h)) in
    let after = taken_more l.invariant.0 puts
    (λ i h. omega (arith, c.put_four.ensures.four i h, c.put_four.ensures.small i h)) takes in (
      after,
      omega (
        arith,
        l.invariant.1,
        c.take-next.ensures.steps,
        counted_is c.four.result.taken 4 (omega arith),
        counted_is next.taken 4 (omega arith),
        ap together c.four.ensures.taken,
        l.invariant.0.total,
        after.total,
      ),
    )
