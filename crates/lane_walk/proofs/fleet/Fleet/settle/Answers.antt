use Rattle.std.proofs.Common.{ℕ, rules, ap, sym, ◌∙◌, subst, arith, w64}
use Rattle.std.proofs.lemmas.Nat.Bits.{bit_at_clear_same, bit_at_clear_other}
use Rattle.lane_walk.specs.declared.fleet.Course.{Course}
use Rattle.lane_walk.proofs.FleetSettles.{count_all, least_below, least_few, settled_all, settles_more, settles_none}
use Rattle.std.specs.Int.{trailing_zeros}
use Rattle.lane_walk.specs.Fleet.{SettlesLane}
use Rattle.lane_walk.proofs.FleetWalks.{word_of_halves}
use Rattle.lane_walk.proofs.LaneBits.{least_bit}
use Rattle.lane_walk.proofs.fleet.Fleet.settle.Goals as goal

pub loop-rest-init : goal.loop-rest-init
loop-rest-init g c = settles_none c.requires.given c.requires.small record {
  words = search rules;
  ats = search rules;
  keys = search rules;
}

pub bounds-lows-lane : goal.bounds-lows-lane
bounds-lows-lane g c = least_below c.loop-rest.invariant c.requires.width c.requires.empty
    (least_bit c.loop-rest.rest c.loop-rest-test.true (omega (arith, c.loop-rest.auto.rest-fits)))

pub bounds-highs-lane : goal.bounds-highs-lane
bounds-highs-lane g c = least_below c.loop-rest.invariant c.requires.width c.requires.empty
    (least_bit c.loop-rest.rest c.loop-rest-test.true (omega (arith, c.loop-rest.auto.rest-fits)))

pub settle_lane-requires : goal.settle_lane-requires
settle_lane-requires g c =
    let s = c.loop-rest.invariant.settled in
    let below = least_below c.loop-rest.invariant c.requires.width c.requires.empty
    (least_bit c.loop-rest.rest c.loop-rest-test.true (omega (arith, c.loop-rest.auto.rest-fits))) in (
      omega (arith, c.requires.width),
      (
        below,
        (
          omega (arith, ap (λ (course : Course). course.jobs) s.course, c.requires.jobs),
          (
            omega (arith, ap (λ (course : Course). course.len) s.course, c.requires.len),
            (
              omega (arith, ap (λ (course : Course). course.first) s.course, c.requires.first),
              omega (arith, s.small _ below, c.requires.room, s.len),
            ),
          ),
        ),
      ),
    )

pub overflow_add-count : goal.overflow_add-count
overflow_add-count g c = omega (
  arith,
  least_few c.loop-rest.invariant c.requires.width c.requires.empty
      (least_bit c.loop-rest.rest c.loop-rest-test.true (omega (arith, c.loop-rest.auto.rest-fits))),
  c.requires.width,
)

pub loop-rest-smaller : goal.loop-rest-smaller
loop-rest-smaller g c = omega (
  arith,
  least_few c.loop-rest.invariant c.requires.width c.requires.empty
      (least_bit c.loop-rest.rest c.loop-rest-test.true (omega (arith, c.loop-rest.auto.rest-fits))),
)

pub loop-rest-preserved : goal.loop-rest-preserved
loop-rest-preserved g c =
    let least = least_bit c.loop-rest.rest c.loop-rest-test.true (omega (arith, c.loop-rest.auto.rest-fits)) in
    let below = least_below c.loop-rest.invariant c.requires.width c.requires.empty least in
    settles_more c.loop-rest.invariant c.requires.width c.requires.empty least
    (subst (λ (word : ℕ). SettlesLane (trailing_zeros w64 c.loop-rest.rest) word c.loop-rest.self
    c.settle_lane.new.self c.loop-rest.scratch c.settle_lane.new.scratch)
    (c.word_of.ensures ∙ sym (word_of_halves g.row.W c.args.lows.now c.args.highs.now below))
    c.settle_lane.ensures)
    (bit_at_clear_same w64 c.loop-rest.rest _ least.small)
    (λ other there apart. bit_at_clear_other w64 c.loop-rest.rest _ least.small other there apart)

pub returns-clause-settled : goal.returns-clause-settled
returns-clause-settled g c = settled_all c.loop-rest.invariant c.requires.width c.requires.empty c.loop-rest-test.false

pub returns-clause-count : goal.returns-clause-count
returns-clause-count g c = count_all c.loop-rest.invariant c.requires.width c.requires.empty c.loop-rest-test.false
