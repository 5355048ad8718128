use Rattle.std.proofs.Common.{◌≡◌, ◌*◌, ◌+◌, ◌%◌, ◌^◌, ◌<◌, ◌≤◌, ◌∙◌, ℕ, ap, arith, subst, sym, length}
use Rattle.std.specs.Prelude.{slice_index, true}
use Rattle.flat_table.specs.Word.{is_node, next_place}
use Rattle.scalar_walk.specs.Lanes.{ended, word_in}
use Rattle.lane_walk.specs.Fleet.{over_bit}
use Rattle.lane_walk.proofs.FleetSteps.{bit_off, bit_on, chosen_off, chosen_on}
use Rattle.lane_walk.proofs.walks.Walks.step.Goals as goal

pub returns-clause-steps : goal.returns-clause-steps
returns-clause-steps g c k within =
    let lane : ℕ = c.args.first + k in
    let word : ℕ = word_in c.args.self.now.lows c.args.self.now.highs lane in
    let lows = c.four_of-lows.result in
    let highs = c.four_of-highs.result in
    let bytes = c.four_of-bytes.result in
    let next = c.words_after.result in
    let low_is = c.four_of-lows.ensures.four k within in
    let high_is = c.four_of-highs.ensures.four k within in
    let half : word % 2 ^ 32 ≡ slice_index lows k = omega (arith, low_is, c.of_ended.ensures.small k within) in
    let low = c.put_four.ensures.four k within ∙ c.of_ended.ensures.lanes k within in
    let high = c.put_four-2.ensures.four k within ∙ c.of_ended-2.ensures.lanes k within in
    let at = c.put_four-3.ensures.four k within ∙ c.of_ended-ats.ensures.lanes k within in
    let on : over_bit word ≡ 0 → slice_index lows k < ended = λ is. omega (arith, bit_on word is, half) in
    let off : over_bit word ≡ 1 → ended ≤ slice_index lows k = λ is. omega (arith, bit_off word is, half) in
    let P = λ (w b : ℕ). is_node w ≡ true → b < 256 → next_place w b ≤ c.args.last →
    word_in next.0 next.1 k ≡ slice_index c.args.words.now (next_place w b) in
    let took : P word (slice_index c.args.self.now.bytes lane) =
    subst (λ (w : ℕ). P w (slice_index c.args.self.now.bytes lane)) (λ i. low_is i + 2 ^ 32 * high_is i)
    (subst (λ (b : ℕ). P (word_in lows highs k) b) (c.four_of-bytes.ensures.four k within)
    (c.words_after.ensures.words k within)) in
    let byte : slice_index c.put_four-3.new.numbers lane < length c.args.keys.now →
    slice_index c.put_four-4.new.numbers lane
    ≡ slice_index c.args.keys.now (slice_index c.put_four-3.new.numbers lane) =
    λ there. c.put_four-4.ensures.four k within
    ∙ c.bytes_at.ensures.bytes k within (omega (arith, there, c.put_four-3.ensures.four k within, c.requires.last_byte))
    ∙ ap (λ (n : ℕ). slice_index c.args.keys.now n) (sym (c.put_four-3.ensures.four k within)) in
    record {
      word_is = λ is node small inside.
          let l = chosen_on _ low (on is) in
          let h = chosen_on _ high (on is) in
          (λ i. l i + 2 ^ 32 * h i) ∙ took node small (omega (arith, inside, c.requires.last));
      place = λ is. chosen_on _ at (on is) ∙ c.places_on-after.ensures.places k within
          ∙ ap (λ (n : ℕ). (n + 1) % 2 ^ 32) (c.four_of.ensures.four k within);
      across = λ is.
          let l = chosen_off _ low (off is) in
          let h = chosen_off _ high (off is) in
          record {
            word_is = (λ i. l i + 2 ^ 32 * h i) ∙ c.halves_of.ensures.words k within ∙ c.four_words.ensures k within;
            place = chosen_off _ at (off is) ∙ c.four_of-2.ensures.four k within;
            byte = byte;
          };
      byte = byte;
    }

pub returns-clause-others : goal.returns-clause-others
returns-clause-others g c lane either = record {
  low = c.put_four.ensures.others lane either;
  high = c.put_four-2.ensures.others lane either;
  place = c.put_four-3.ensures.others lane either;
  byte = c.put_four-4.ensures.others lane either;
}
