use Rattle.std.proofs.Common.{◌≡◌, ◌*◌, ◌+◌, ◌-◌, ◌^◌, ◌<◌, ◌∙◌, ℕ, arith, subst, sym, inl, inr, length}
use Rattle.std.specs.Prelude.{slice_index}
use Rattle.std.proofs.lemmas.Bool.{cases_lt}
use Rattle.std.proofs.lemmas.List.{ext_get_or}
use Rattle.std.proofs.lemmas.List.FromFn.{get_or-map-range_with_len, length-map-range_with_len}
use Rattle.scalar_walk.specs.Lanes.{word_in}
use Rattle.lane_walk.specs.Fleet.{words_in}
use Rattle.lane_walk.proofs.Turns.{lanes_whole}
use Rattle.lane_walk.proofs.walks.Walks.words.Goals as goal

pub loop-group-preserved : goal.loop-group-preserved
loop-group-preserved g c = (
  c.put_words.ensures.len,
  λ lane less.
      let n : ℕ = c.loop-group.group * 4 in
      elim (cases_lt lane n) [
        | inl before ↦ c.put_words.ensures.others lane (inl before) ∙ c.loop-group.invariant.1 lane before
        | inr past ↦ (
            let j : ℕ = lane - n in
            let few : j < 4 = omega (arith, past, less) in
            let at : n + j ≡ lane = omega (arith, past) in
            let low = c.four_of.ensures.four j few in
            let high = c.four_of-in-loop-group.ensures.four j few in
            subst (λ (k : ℕ). slice_index c.put_words.new.numbers k
            ≡ word_in c.args.self.now.lows c.args.self.now.highs k) at
            (c.put_words.ensures.four j few ∙ c.words_of-four.ensures j few ∙ (λ i. low i + 2 ^ 32 * high i))
            )
      ],
)

pub returns : goal.returns
returns g c =
    let word = λ (lane : ℕ). word_in c.args.self.now.lows c.args.self.now.highs lane in
    let long : length c.loop-group.words ≡ g.row.W = c.loop-group.invariant.0 in
    ext_get_or 0 c.loop-group.words (words_in c.args.self.now) (long ∙ sym (length-map-range_with_len word 0 g.row.W))
    (λ lane below.
    c.loop-group.invariant.1 lane (omega (
      arith,
      below,
      long,
      lanes_whole c.requires,
      c.loop-group-test.false,
      c.loop-group.auto.group-end,
    ))
    ∙ sym (get_or-map-range_with_len word 0 g.row.W lane lane 0 (omega (arith, below, long)) (omega arith)))
