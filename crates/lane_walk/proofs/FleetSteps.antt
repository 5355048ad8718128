-- Lanes of a fleet that take their words, four at a time.
use Rattle.std.proofs.Common.{◌≡◌, ◌⊎◌, ℕ, ◌+◌, ◌-◌, ◌*◌, ◌%◌, ◌^◌, ◌<◌, ◌≤◌, List, sym, ap, ◌∙◌, refl, arith, subst, inl, inr}
use Rattle.std.specs.Prelude.{slice_index, length, true, false, nat_lt, if◌then◌else◌}
use Rattle.std.specs.Int.{bit_at}
use Rattle.std.proofs.lemmas.Bool.{cases_lt}
use Rattle.std.proofs.lemmas.Bool.Decides.{nat_tests}
use Rattle.std.proofs.lemmas.Nat.{mul-add-lt, pow-add}
use Rattle.std.proofs.lemmas.Nat.Bits.{bit_at_cat_low, bit_at_cat_high}
use Rattle.flat_table.specs.Word.{is_node, next_place}
use Rattle.scalar_walk.specs.Lanes.{ended, word_in}
use Rattle.lane_walk.specs.declared.fleet.Fleet.{Fleet}
use Rattle.lane_walk.specs.declared.walks.Walks.{Walks}
use Rattle.lane_walk.specs.Fleet.{GoesOn, HasByte, IsAcross, StaysIn, over_bit}

-- ---- what the bit of a lane says

-- the low half of a word whose bit is 0 is that of a word on the way
pub bit_on : (word : ℕ) → over_bit word ≡ 0 → word % 2 ^ 32 < ended
bit_on word is = elim (cases_lt (word % 2 ^ 32) ended) [
  | inl less ↦ less
  | inr past ↦ (
      let no : nat_lt (word % 2 ^ 32) ended ≡ false = grind (arith, nat_tests) in
      let one : over_bit word ≡ 1 = rw no refl in
      absurd (omega (arith, is, one))
      )
]

-- that of one whose bit is 1 isn't
pub bit_off : (word : ℕ) → over_bit word ≡ 1 → ended ≤ word % 2 ^ 32
bit_off word is = elim (cases_lt (word % 2 ^ 32) ended) [
  | inl less ↦ (
      let yes : nat_lt (word % 2 ^ 32) ended ≡ true = grind (arith, nat_tests) in
      let none : over_bit word ≡ 0 = rw yes refl in
      absurd (omega (arith, is, none))
      )
  | inr past ↦ past
]

-- what is chosen by the low half of a word on the way
pub chosen_on : {low n one : ℕ} (other : ℕ) → n ≡ (if nat_lt low ended then one else other) → low < ended → n ≡ one
chosen_on {low = low} other is less = (let yes : nat_lt low ended ≡ true = grind (arith, nat_tests) in is ∙ rw yes refl)

-- and by that of another
pub chosen_off : {low n other : ℕ} (one : ℕ) → n ≡ (if nat_lt low ended then one else other) → ended ≤ low → n ≡ other
chosen_off {low = low} one is past = (let no : nat_lt low ended ≡ false = grind (arith, nat_tests) in is ∙ rw no refl)

-- ---- the bits of empty lanes

-- the bits of a mask say which of the first n lanes are empty
pub record EndedTo {W : ℕ} (walks : Walks W) (empty n : ℕ) : Type 0 where
  pub bits : (lane : ℕ) → lane < n → bit_at empty lane ≡ over_bit (word_in walks.lows walks.highs lane)
  pub few : empty < 2 ^ n

-- four lanes more
pub ended_more : {W : ℕ} {walks : Walks W} {empty n bits : ℕ} → EndedTo walks empty n → bits < 2 ^ 4 →
    ((k : ℕ) → k < 4 → bit_at bits k ≡ over_bit (word_in walks.lows walks.highs (n + k))) →
    EndedTo walks (bits * 2 ^ n + empty) (n + 4)
ended_more {walks = walks} {empty = empty} {n = n} {bits = bits} s few four = record {
  bits = λ lane less. elim (cases_lt lane n) [
    | inl before ↦ bit_at_cat_low bits n empty lane before ∙ s.bits lane before
    | inr past ↦ (
        let at : n + (lane - n) ≡ lane = omega (arith, past) in
        bit_at_cat_high bits n empty lane s.few past ∙ four (lane - n) (omega (arith, past, less))
        ∙ ap (λ (k : ℕ). over_bit (word_in walks.lows walks.highs k)) at
        )
  ];
  few = omega (arith, mul-add-lt bits (2 ^ n) empty (2 ^ 4) few s.few, pow-add 2 n 4);
}

-- ---- a step

-- the first n lanes went on
pub record StepsTo {W : ℕ} (words bytes : List ℕ) (fleet : Fleet W) (old now : Walks W) (n : ℕ) : Type 0 where
  pub steps : (lane : ℕ) → lane < n → GoesOn words bytes fleet old now lane
  pub later : (lane : ℕ) → n ≤ lane → StaysIn old now lane

-- the word of a lane that stays
word_stays : {W : ℕ} {old new : Walks W} {lane : ℕ} → StaysIn old new lane →
    word_in new.lows new.highs lane ≡ word_in old.lows old.highs lane
word_stays s = λ i. s.low i + 2 ^ 32 * s.high i

-- its byte is that at its place still
byte_stays : {W : ℕ} (bytes : List ℕ) {old new : Walks W} {lane : ℕ} → StaysIn old new lane → HasByte bytes old lane →
    HasByte bytes new lane
byte_stays bytes s has there =
    s.byte ∙ has (omega (arith, there, s.place)) ∙ ap (λ (at : ℕ). slice_index bytes at) (sym s.place)

-- what a lane took that stays
pub across_stays : {W : ℕ} {bytes : List ℕ} {fleet : Fleet W} {old new : Walks W} {lane : ℕ} →
    IsAcross bytes fleet old lane → StaysIn old new lane → IsAcross bytes fleet new lane
across_stays {bytes = bytes} a s =
    record { word_is = word_stays s ∙ a.word_is; place = s.place ∙ a.place; byte = byte_stays bytes s a.byte }

module _ {W : ℕ} {words bytes : List ℕ} {fleet : Fleet W} {old mid new : Walks W} {lane : ℕ} where
  -- a lane that went on and then stays
  pub goes_stays : GoesOn words bytes fleet old mid lane → StaysIn mid new lane → GoesOn words bytes fleet old new lane
  goes_stays g s = record {
    word_is = λ on node small inside. word_stays s ∙ g.word_is on node small inside;
    place = λ on. s.place ∙ g.place on;
    across = λ off. across_stays (g.across off) s;
    byte = byte_stays bytes s g.byte;
  }

  -- one that stayed and then goes on
  pub stays_goes : StaysIn old mid lane → GoesOn words bytes fleet mid new lane → GoesOn words bytes fleet old new lane
  stays_goes s g =
      let word : word_in mid.lows mid.highs lane ≡ word_in old.lows old.highs lane = word_stays s in
      let P = λ (w byte : ℕ). over_bit w ≡ 0 → is_node w ≡ true → byte < 256 → next_place w byte < length words →
      word_in new.lows new.highs lane ≡ slice_index words (next_place w byte) in
      record {
        word_is = subst (λ (w : ℕ). P w (slice_index old.bytes lane)) word
            (subst (λ (byte : ℕ). P (word_in mid.lows mid.highs lane) byte) s.byte g.word_is);
        place = λ on. g.place (ap over_bit word ∙ on) ∙ ap (λ (at : ℕ). (at + 1) % 2 ^ 32) s.place;
        across = λ off. g.across (ap over_bit word ∙ off);
        byte = g.byte;
      }

-- four lanes more
pub steps_more : {W : ℕ} {words bytes : List ℕ} {fleet : Fleet W} {old mid new : Walks W} {n : ℕ} →
    StepsTo words bytes fleet old mid n →
    ((k : ℕ) → k < 4 → GoesOn words bytes fleet mid new (n + k)) →
    ((lane : ℕ) → (lane < n) ⊎ (n + 4 ≤ lane) → StaysIn mid new lane) →
    StepsTo words bytes fleet old new (n + 4)
steps_more {words = words} {bytes = bytes} {fleet = fleet} {mid = mid} {new = new} {n = n} s goes others = record {
  steps = λ lane less. elim (cases_lt lane n) [
    | inl before ↦ goes_stays (s.steps lane before) (others lane (inl before))
    | inr past ↦ (
        let at : n + (lane - n) ≡ lane = omega (arith, past) in
        stays_goes (s.later lane past)
        (subst (GoesOn words bytes fleet mid new) at (goes (lane - n) (omega (arith, past, less))))
        )
  ];
  later = λ lane past.
      let four = others lane (inr past) in
      let had = s.later lane (omega (arith, past)) in
      record {
        low = four.low ∙ had.low;
        high = four.high ∙ had.high;
        place = four.place ∙ had.place;
        byte = four.byte ∙ had.byte;
      };
}
