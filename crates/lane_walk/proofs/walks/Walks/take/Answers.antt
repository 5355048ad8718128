use Rattle.std.proofs.Common.{◌+◌, ◌*◌, ◌^◌, ◌∙◌, ℕ, ap, arith, sym}
use Rattle.std.specs.Prelude.{slice_index}
use Rattle.lane_walk.proofs.walks.Walks.take.Goals as goal

pub returns-clause-takes : goal.returns-clause-takes
returns-clause-takes g c k within =
    let low = c.put_four.ensures.four k within in
    let high = c.put_four-2.ensures.four k within in
    let at = c.put_four-3.ensures.four k within in
    record {
      word_is = (λ i. low i + 2 ^ 32 * high i) ∙ c.halves_of.ensures.words k within ∙ c.four_words.ensures k within;
      place = at ∙ c.four_of-ats.ensures.four k within;
      byte = λ there. c.put_four-4.ensures.four k within
          ∙ c.bytes_at.ensures.bytes k within (omega (arith, there, at, c.requires.last_byte))
          ∙ ap (λ (n : ℕ). slice_index c.args.keys.now n) (sym at);
    }

pub returns-clause-others : goal.returns-clause-others
returns-clause-others g c lane either = record {
  low = c.put_four.ensures.others lane either;
  high = c.put_four-2.ensures.others lane either;
  place = c.put_four-3.ensures.others lane either;
  byte = c.put_four-4.ensures.others lane either;
}
