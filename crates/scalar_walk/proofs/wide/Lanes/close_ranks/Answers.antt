use Rattle.std.proofs.Common.{ℕ, arith, ap, refl, ◌∙◌, get_or-set_same, get_or-set_other, inl, inr}
use Rattle.std.specs.Prelude.{slice_index, slice_set}
use Rattle.std.proofs.lemmas.Bool.{cases_eq}
use Rattle.scalar_walk.specs.declared.wide.Lanes.{Lanes}
use Rattle.scalar_walk.specs.Wide.{HasWalk}
use Rattle.scalar_walk.proofs.Closed.{closed_emptied, closed_more}
use Rattle.scalar_walk.proofs.wide.Lanes.close_ranks.Goals as goal

pub loop-lane-preserved : goal.loop-lane-preserved
loop-lane-preserved c =
    let l = c.loop-lane in
    let now : Lanes = l.self in
    let new : Lanes = record {
      lows = slice_set now.lows l.kept (slice_index now.lows l.lane);
      highs = slice_set now.highs l.kept (slice_index now.highs l.lane);
      keys = slice_set now.keys l.kept (slice_index now.keys l.lane);
    } in
    let put : HasWalk now l.lane new l.kept = record {
      low = get_or-set_same now.lows l.kept (slice_index now.lows l.lane) 0
          (omega (arith, l.invariant.few, c.loop-lane-test.true, c.requires.left));
      high = get_or-set_same now.highs l.kept (slice_index now.highs l.lane) 0
          (omega (arith, l.invariant.few, c.loop-lane-test.true, c.requires.left));
      key = get_or-set_same now.keys l.kept (slice_index now.keys l.lane) 0
          (omega (arith, l.invariant.few, c.loop-lane-test.true, c.requires.left));
    } in
    closed_more l.invariant put
    (λ j other. record {
      low = get_or-set_other now.lows l.kept j _ 0 other;
      high = get_or-set_other now.highs l.kept j _ 0 other;
      key = get_or-set_other now.keys l.kept j _ 0 other;
    })
    c.from-kept.ensures refl
    (omega (
      arith,
      (l.invariant.others l.lane (omega arith)).key,
      c.requires.keys l.lane c.loop-lane-test.true,
      c.requires.room,
      l.invariant.written.len,
    ))
    refl

pub loop-lane-2-preserved : goal.loop-lane-2-preserved
loop-lane-2-preserved c =
    let l = c.loop-lane-2 in (
      closed_emptied l.invariant.0 l.lane l.invariant.1 c.loop-lane-2-test.true
          (λ j other. record {
            low = get_or-set_other l.self.lows l.lane j _ 0 other;
            high = refl;
            key = refl;
          })
          refl,
      omega (arith, l.invariant.1),
      λ j past h. elim (cases_eq j l.lane) [
        | inl is ↦ ap (λ (k : ℕ). slice_index (slice_set l.self.lows l.lane 2147483648) k) is
            ∙ get_or-set_same l.self.lows l.lane 2147483648 0
            (omega (arith, c.loop-lane-2-test.true, c.requires.left))
        | inr other ↦ get_or-set_other l.self.lows l.lane j _ 0 other
            ∙ l.invariant.2 j past (omega (arith, h, other))
      ],
    )
