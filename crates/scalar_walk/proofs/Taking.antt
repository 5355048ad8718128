-- Many fours of walks that take their next words, one four after the other.
use Rattle.std.proofs.Common.{◌≡◌, ◌⊎◌, ℕ, ◌+◌, ◌-◌, ◌*◌, ◌<◌, ◌≤◌, ◌^◌, List, refl, ap, ◌∙◌, arith, inl, inr}
use Rattle.std.specs.Prelude.{slice_index, if◌then◌else◌}
use Rattle.std.proofs.lemmas.Bool.{cases_lt}
use borrow.Author.Count.{below_more}
use Rattle.flat_table.specs.Word.{is_match}
use Rattle.scalar_walk.specs.declared.wide.Lanes.{Lanes}
use Rattle.scalar_walk.specs.Lanes.{word_in}
use Rattle.scalar_walk.specs.Rows.{Takes}
use Rattle.scalar_walk.specs.Wide.{HasWalk, goes, going, in_four, together, word_of}
use Rattle.scalar_walk.proofs.Below.{sum_agree, sum_both, sum_none, sum_split}
use Rattle.scalar_walk.proofs.LaneWalks.{at_most_one}
use Rattle.scalar_walk.proofs.Closed.{own_walk, walk_from}

-- the lanes of the fours so far took the words at their places, which are counted, and the others stay
pub record TakenTo (words : List ℕ) (at : List (List ℕ)) (old : Lanes) (start : List ℕ) (four : ℕ) (lanes : Lanes)
    (taken : List ℕ) : Type 0 where
  pub took : (f : ℕ) → f < four → (i : ℕ) → i < 4 → word_of lanes (4 * f + i)
      ≡ (if is_match (word_of old (4 * f + i)) then word_of old (4 * f + i) else slice_index words (in_four at f i))
  pub small : (j : ℕ) → j < 4 * four → slice_index lanes.lows j < 2 ^ 32
  pub others : (j : ℕ) → 4 * four ≤ j → HasWalk old j lanes j
  pub keys : lanes.keys ≡ old.keys
  pub total : together taken ≡ together start + going old (4 * four)
  pub few : (i : ℕ) → i < 4 → slice_index taken i ≤ slice_index start i + four

-- before the first four all stay
pub taken_none : (words : List ℕ) (at : List (List ℕ)) (lanes : Lanes) (start : List ℕ) →
    TakenTo words at lanes start 0 lanes start
taken_none words at lanes start = record {
  took = λ f h i few. absurd (omega (arith, h));
  small = λ j h. absurd (omega (arith, h));
  others = λ j h. own_walk lanes j;
  keys = refl;
  total = omega (arith, sum_none (goes lanes));
  few = λ i h. omega arith;
}

-- a four has put its walks into its lanes, and the others stay
pub record PutsFour (lanes new : Lanes) (four : ℕ) (lows highs : List ℕ) : Type 0 where
  pub low : (i : ℕ) → i < 4 → slice_index new.lows (4 * four + i) ≡ slice_index lows i
  pub high : (i : ℕ) → i < 4 → slice_index new.highs (4 * four + i) ≡ slice_index highs i
  pub others : (j : ℕ) → (j < 4 * four) ⊎ (4 * four + 4 ≤ j) → HasWalk lanes j new j
  pub keys : new.keys ≡ lanes.keys

-- where one four more has taken its words, so have the fours so far and that one
pub taken_more : {words : List ℕ} {at : List (List ℕ)} {old lanes new : Lanes}
    {start taken next lows highs : List ℕ} {four : ℕ} → TakenTo words at old start four lanes taken →
    PutsFour lanes new four lows highs → ((i : ℕ) → i < 4 → slice_index lows i < 2 ^ 32) →
    ((i : ℕ) → i < 4 → Takes words (word_of lanes (4 * four + i)) (in_four at four i) (word_in lows highs i)
    (slice_index taken i) (slice_index next i)) → TakenTo words at old start (four + 1) new next
taken_more {words = words} {at = at} {old = old} {lanes = lanes} {new = new} {start = start} {taken = taken}
    {next = next} {lows = lows} {highs = highs} {four = four} t p small takes = record {
      took = below_more
          (λ (f : ℕ). (i : ℕ) → i < 4 → word_of new (4 * f + i)
          ≡ (if is_match (word_of old (4 * f + i)) then word_of old (4 * f + i)
          else slice_index words (in_four at f i)))
          four (λ f h i few. stays (4 * f + i) (omega (arith, h, few)) ∙ t.took f h i few)
          (λ i few. put i few ∙ (takes i few).word_is
          ∙ ap (λ (word : ℕ). if is_match word then word else slice_index words (in_four at four i)) (was i));
      small = λ j h. elim (cases_lt j (4 * four)) [
        | inl before ↦ omega (arith, (p.others j (inl before)).low, t.small j before)
        | inr past ↦
            let is : 4 * four + (j - 4 * four) ≡ j = omega (arith, past) in
            let few : j - 4 * four < 4 = omega (arith, past, h) in
            omega (
              arith,
              ap (λ (m : ℕ). slice_index new.lows m) is,
              p.low (j - 4 * four) few,
              small (j - 4 * four) few,
            )
      ];
      others = λ j h. walk_from (t.others j (omega (arith, h))) (p.others j (inr (omega (arith, h))));
      keys = p.keys ∙ t.keys;
      total =
          let more : 4 * four + 4 ≡ 4 * (four + 1) = omega arith in
          omega (
            arith,
            t.total,
            sum_agree (slice_index next) (λ i. slice_index taken i + goes old (4 * four + i)) 4 counts,
            sum_both (slice_index taken) (λ i. goes old (4 * four + i)) 4,
            sum_split (goes old) (4 * four) 4,
            ap (λ (m : ℕ). going old m) more,
          );
      few = λ i h. omega (arith, counts i h, at_most_one (is_match (word_of old (4 * four + i))), t.few i h);
    }
  where
    -- a lane of the four had its old word
    was : (i : ℕ) → word_of lanes (4 * four + i) ≡ word_of old (4 * four + i)
    was i = let w = t.others (4 * four + i) (omega arith) in omega (arith, w.low, w.high)

    -- and has its next one
    put : (i : ℕ) → i < 4 → word_of new (4 * four + i) ≡ word_in lows highs i
    put i few = omega (arith, p.low i few, p.high i few)

    -- a lane before it stays
    stays : (j : ℕ) → j < 4 * four → word_of new j ≡ word_of lanes j
    stays j before = let w = p.others j (inl before) in omega (arith, w.low, w.high)

    -- one more word is counted for each that is on its way
    counts : (i : ℕ) → i < 4 → slice_index next i ≡ slice_index taken i + goes old (4 * four + i)
    counts i h = (takes i h).taken_is
        ∙ ap (λ (word : ℕ). slice_index taken i + (if is_match word then 0 else 1)) (was i)
