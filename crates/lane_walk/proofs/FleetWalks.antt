-- A fleet as its walks go: what lanes show after a step of their walks.
use Rattle.std.proofs.Common.{◌≡◌, ℕ, ◌<◌, List, length, sym, ap, ◌∙◌, arith}
use Rattle.std.specs.Prelude.{slice_index, true}
use Rattle.std.specs.Int.{bit_at}
use Rattle.std.proofs.lemmas.List.FromFn.{get_or-map-range_with_len, length-map-range_with_len}
use Rattle.flat_table.specs.Word.{is_match, is_node, next_place}
use Rattle.scalar_walk.specs.Lanes.{word_in}
use Rattle.lane_walk.specs.declared.fleet.Fleet.{Fleet}
use Rattle.lane_walk.specs.declared.walks.Walks.{Walks}
use Rattle.lane_walk.specs.Fleet.{GoesOn, HasByte, IsAcross, IsBegun, SettledTo, StepsOn, fleet_of, over_bit, words_in, words_of}

-- one of the words of halves
pub word_of_halves : (n : ℕ) (lows highs : List ℕ) {lane : ℕ} → lane < n →
    slice_index (words_of n lows highs) lane ≡ word_in lows highs lane
word_of_halves n lows highs {lane = lane} below =
    get_or-map-range_with_len (λ (k : ℕ). word_in lows highs k) 0 n lane lane 0 below (omega arith)

-- the word of a lane among those of all
pub word_at : {W : ℕ} (walks : Walks W) {lane : ℕ} → lane < W →
    slice_index (words_in walks) lane ≡ word_in walks.lows walks.highs lane
word_at {W = W} walks below = word_of_halves W walks.lows walks.highs below

-- there are as many as lanes
pub words_long : {W : ℕ} (walks : Walks W) → length (words_in walks) ≡ W
words_long {W = W} walks = length-map-range_with_len (λ (n : ℕ). word_in walks.lows walks.highs n) 0 W

module _ {W : ℕ} {bytes : List ℕ} {old new : Walks W} {lane : ℕ} (below : lane < W) where
  -- a lane that was on its way takes its next word
  pub steps_on : {words : List ℕ} {heads : Fleet W} (from now : Fleet W) → GoesOn words bytes heads old new lane →
      HasByte bytes old lane → ((i : ℕ) → slice_index bytes i < 256) →
      over_bit (word_in old.lows old.highs lane) ≡ 0 → StepsOn words bytes (fleet_of old from) (fleet_of new now) lane
  steps_on {words = words} from now g has small on = record {
    word_is = λ node there inside.
        let word = word_at old below in
        let byte = has there in
        let same : next_place (word_in old.lows old.highs lane) (slice_index old.bytes lane)
        ≡ next_place (slice_index (words_in old) lane) (slice_index bytes (slice_index old.ats lane)) =
        λ i. next_place (sym word i) (byte i) in
        word_at new below
        ∙ g.word_is on (ap (λ (w : ℕ). is_node w) (sym word) ∙ node)
        (omega (arith, byte, small (slice_index old.ats lane))) (omega (arith, same, inside))
        ∙ ap (λ (place : ℕ). slice_index words place) same;
    place = g.place on;
  }

module _ {W : ℕ} {bytes : List ℕ} {heads : Fleet W} {new : Walks W} {lane : ℕ} (below : lane < W)
    (a : IsAcross bytes heads new lane) where
  -- one that took what the fleet had for it begins as that does
  pub across_begun : {key : ℕ} → IsBegun heads lane key → IsBegun (fleet_of new heads) lane key
  across_begun b = record {
    word = word_at new below ∙ a.word_is ∙ b.word;
    at = a.place ∙ b.at;
    key_is = b.key_is;
  }

  -- and is empty if that is
  pub across_empty : is_match (slice_index heads.words lane) ≡ true → is_match (slice_index (words_in new) lane) ≡ true
  across_empty match = ap (λ (word : ℕ). is_match word) (word_at new below ∙ a.word_is) ∙ match

-- lanes that took what was settled for them are settled
pub across_settled : {W mask : ℕ} {words bytes : List ℕ} {from heads : Fleet W} (old : Walks W) {new : Walks W}
    {rows now : List (List ℕ)} → SettledTo mask W words from heads rows now →
    ((lane : ℕ) → lane < W → bit_at mask lane ≡ 1 → IsAcross bytes heads new lane) →
    SettledTo mask W words (fleet_of old from) (fleet_of new heads) rows now
across_settled old {new = new} s across = record {
  some = s.some;
  all = s.all;
  course = s.course;
  walks = s.walks;
  begins = λ lane below bit less. across_begun below (across lane below bit) (s.begins lane below bit less);
  rests = λ lane below bit past.
      let it = s.rests lane below bit past in
      (word_at new below ∙ (across lane below bit).word_is ∙ it.0, it.1);
  noted = s.noted;
  others = s.others;
  small = s.small;
  len = s.len;
  past = s.past;
}
