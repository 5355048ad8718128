-- Up to sixty-four walks in step, of which those that have ended stand behind the others.
use Rattle.std.proofs.Common.{◌≡◌, ◌⊎◌, ℕ, zero, suc, ◌+◌, ◌-◌, ◌*◌, ◌/◌, ◌%◌, ◌<◌, ◌≤◌, ◌^◌, true, List, refl, sym, ap}
use Rattle.std.proofs.Common.{◌∙◌, arith, subst, length, inl, inr}
use Rattle.std.specs.Prelude.{slice_index, if◌then◌else◌}
use Rattle.std.proofs.lemmas.Bool.{cases_lt}
use Rattle.std.proofs.lemmas.Bool.Decides.{nat_tests}
use Rattle.std.proofs.Math.Nat.{mul-le-mul_right}
use Rattle.table_sizes.specs.Groups.{max_key_len}
use Rattle.flat_table.specs.Word.{is_match}
use Rattle.flat_table.specs.Walk.{root_of, transitions_after, walk_transitions}
use Rattle.flat_table.specs.Batch.{key_at}
use Rattle.flat_table.specs.Laws.{WalksStay}
use Rattle.scalar_walk.specs.declared.wide.Lanes.{Lanes}
use Rattle.scalar_walk.specs.Lanes.{ended, lane_key, sum_below}
use Rattle.scalar_walk.specs.Rows.{CanTake, EndsAt, ReadsAt}
use Rattle.scalar_walk.specs.Wide.{AreClosed, AreWritten, HasWalk, IsNamed, goes, going, in_four, number_of}
use Rattle.scalar_walk.specs.Wide.{word_of}
use Rattle.scalar_walk.proofs.Below.{sum_agree, sum_both, sum_more, sum_none, sum_split, sum_zero}
use Rattle.scalar_walk.proofs.InStep.{group_in_key}
use Rattle.scalar_walk.proofs.LaneKeys.{lane_own, lane_within}
use Rattle.scalar_walk.proofs.LaneWalks.{LaneStands, SomeKeys, lane_ended, lane_over, lane_ready, lane_row, lane_stands}
use Rattle.scalar_walk.proofs.LaneWalks.{lane_step, lane_took, lane_went, some_words}
use Rattle.scalar_walk.proofs.Stepping.{can_take, goes_on}
use Rattle.scalar_walk.proofs.Ways.{Way, IsWay}

-- how many fours of lanes have the first ones, so many
abbrev pub fours_of : ℕ → ℕ
fours_of left = (left + 3) / 4

-- the walk of the key of a number has ended within n bytes
pub record IsOver (way : Way) (keys : List ℕ) (n key : ℕ) : Type 0 where
  pub word : ℕ
  pub stands : LaneStands way keys key n word
  pub match : is_match word ≡ true

-- and its row is known
pub record IsDone (way : Way) (keys : List ℕ) (n key row : ℕ) : Type 0 where
  pub over : IsOver way keys n key
  pub ends : EndsAt way.table way.trie (key_at way.table keys key) row

-- The walks of so many keys after n bytes each, in the first lanes, so many: each key has its row, or one of these
-- lanes. What is summed over all keys is summed over these lanes, if it is 0 for keys whose walks have ended.
pub record Ranks (way : Way) (keys : List ℕ) (count left n : ℕ) (lanes : Lanes) (rows : List ℕ) : Type 0 where
  pub is_way : IsWay way
  pub keys_are : SomeKeys way keys count
  pub few : left ≤ count
  pub most : count ≤ 64
  pub small : (j : ℕ) → j < 64 → slice_index lanes.lows j < 2 ^ 32
  pub numbers : (j : ℕ) → j < 64 → number_of lanes j < count
  pub lane : (j : ℕ) → j < left → LaneStands way keys (number_of lanes j) n (word_of lanes j)
  pub over : (j : ℕ) → left ≤ j → j < 64 → is_match (word_of lanes j) ≡ true
  pub each : (k : ℕ) → k < count →
      IsDone way keys n k (slice_index rows k) ⊎ (j : ℕ) × (j < left) × (number_of lanes j ≡ k)
  pub sums : (f : ℕ → ℕ) → ((k : ℕ) → k < count → IsOver way keys n k → f k ≡ 0) →
      sum_below (λ j. f (number_of lanes j)) left ≡ sum_below f count

-- how many transitions the walk of a key takes for n bytes
abbrev pub took_for : Way → List ℕ → ℕ → ℕ → ℕ
took_for way keys n k = transitions_after way.table way.trie (key_at way.table keys k) n

-- and so many keys together
abbrev pub all_took : Way → List ℕ → ℕ → ℕ → ℕ
all_took way keys count n = sum_below (took_for way keys n) count

-- ---- they begin

-- at the root, each with the key of its number
pub ranks_begin : {way : Way} {keys : List ℕ} {count root : ℕ} {lanes : Lanes} → IsWay way → SomeKeys way keys count →
    count ≤ 64 → root ≡ root_of way.table way.trie → ((j : ℕ) → j < count → word_of lanes j ≡ root) →
    ((j : ℕ) → count ≤ j → j < 64 → word_of lanes j ≡ ended) →
    ((j : ℕ) → j < 64 → slice_index lanes.lows j < 2 ^ 32) →
    ((j : ℕ) → j < 64 → number_of lanes j ≡ lane_key count j) → (rows : List ℕ) →
    Ranks way keys count count 0 lanes rows
ranks_begin {way = way} {keys = keys} {count = count} {lanes = lanes} w k most root words others small numbers rows =
    record {
      is_way = w;
      keys_are = k;
      few = omega arith;
      most = most;
      small = small;
      numbers = λ j h. omega (arith, numbers j h, lane_within count j k.some);
      lane = λ j h. lane_stands w keys (number_of lanes j) root (words j h);
      over = λ j past h. ap is_match (others j past h);
      each = λ j h. inr (j, h, own j h);
      sums = λ f none. sum_agree (λ j. f (number_of lanes j)) f count (λ j h. ap f (own j h));
    }
  where
    own : (j : ℕ) → j < count → number_of lanes j ≡ j
    own j h = numbers j (omega (arith, h, most)) ∙ lane_own count j h

-- and no transition is taken
pub none_took : (way : Way) (keys : List ℕ) (count : ℕ) → all_took way keys count 0 ≡ 0
none_took way keys count = sum_zero (took_for way keys 0) count (λ k. refl)

-- ---- they read

-- what the lanes of so many fours read at once of their keys: the bytes at places that stand one after the other
pub record AreRead (way : Way) (keys : List ℕ) (fours n read : ℕ) (numbers : List ℕ) (groups : List (List ℕ))
    : Type 0 where
  pub within : n + read ≤ length way.places
  pub follow : (k : ℕ) → k < read → slice_index way.places (n + k) ≡ slice_index way.places n + k
  pub bytes : (f i k : ℕ) → f < fours → i < 4 → k < read → in_four groups f (4 * i + k)
      ≡ slice_index keys (slice_index numbers (4 * f + i) * way.table.key_len + (slice_index way.places n + k))

-- they are some of the keys
pub ranks_there : {way : Way} {keys : List ℕ} {count left n : ℕ} {lanes : Lanes} {rows : List ℕ} →
    Ranks way keys count left n lanes rows → {len read from : ℕ} → len ≡ way.table.key_len → 0 < read →
    n + read ≤ length way.places →
    ((k : ℕ) → k < read → slice_index way.places (n + k) ≡ slice_index way.places n + k) →
    from ≡ slice_index way.places n → (j : ℕ) → j < 64 → number_of lanes j * len + from + read ≤ length keys
ranks_there {way = way} {n = n} {lanes = lanes} r len_is some within follow from_is j h =
    let own = r.numbers j h in
    let whole = mul-le-mul_right way.table.key_len own in
    omega (
      arith,
      whole,
      group_in_key r.is_way n some within follow from_is,
      r.keys_are.whole,
      ap (λ (size : ℕ). number_of lanes j * size) len_is,
    )

-- and so they are read
pub ranks_read : {way : Way} {keys : List ℕ} {fours n : ℕ} (lanes : Lanes) (groups : List (List ℕ)) →
    {len read from : ℕ} → len ≡ way.table.key_len → n + read ≤ length way.places →
    ((k : ℕ) → k < read → slice_index way.places (n + k) ≡ slice_index way.places n + k) →
    from ≡ slice_index way.places n →
    ((f i k : ℕ) → f < fours → i < 4 → k < read →
    in_four groups f (4 * i + k) ≡ slice_index keys (number_of lanes (4 * f + i) * len + from + k)) →
    AreRead way keys fours n read lanes.keys groups
ranks_read {keys = keys} lanes groups len_is within follow from_is bytes = record {
  within = within;
  follow = follow;
  bytes = λ f i k there few more. bytes f i k there few more ∙ ap (λ (place : ℕ). slice_index keys place)
      (omega (arith, from_is, ap (λ (size : ℕ). number_of lanes (4 * f + i) * size) len_is));
}

-- ---- they go on

-- a walk that has ended within n bytes has done so within one more
over_more : {way : Way} {keys : List ℕ} {count n key : ℕ} → IsWay way → SomeKeys way keys count →
    n < length way.places → IsOver way keys n key → IsOver way keys (n + 1) key
over_more w k within o = record {
  word = o.word;
  stands = lane_went w k o.stands within refl refl {taken = 0} {new = 0} (record {
    word_is = rw o.match refl;
    taken_is = rw o.match refl;
  });
  match = o.match;
}

-- and takes no transition for it
none_more : {way : Way} {keys : List ℕ} {count n key : ℕ} → IsWay way → SomeKeys way keys count →
    n < length way.places → IsOver way keys n key → took_for way keys (n + 1) key ≡ took_for way keys n key
none_more w k within o =
    let steps = (lane_step w k o.stands within refl refl).steps in
    omega (arith, rw o.match at steps)

-- What one byte more brings them: the lanes of the fours with those that are left take the words at their places.
module _ {way : Way} {keys : List ℕ} {count left n read k : ℕ} {lanes : Lanes} {rows : List ℕ}
    {groups : List (List ℕ)} (r : Ranks way keys count left (n + k) lanes rows)
    (g : AreRead way keys (fours_of left) n read lanes.keys groups)
    (more : k < read) (stay : WalksStay) (at : List (List ℕ))
    (reads : (f i : ℕ) → f < fours_of left → i < 4 →
    ReadsAt (word_of lanes (4 * f + i)) (in_four groups f (4 * i + k)) (in_four at f i)) where
  -- there is a place more
  place_there : n + k < length way.places
  place_there = omega (arith, g.within, more)

  -- each of them can take its word
  pub ranks_ready : (f i : ℕ) → f < fours_of left → i < 4 →
      CanTake way.words (word_of lanes (4 * f + i)) (in_four at f i) 0
  ranks_ready f i there few = elim (cases_lt (4 * f + i) left) [
    | inl own ↦
        can_take
        (lane_ready r.is_way r.keys_are (r.lane (4 * f + i) own) place_there (sym (g.follow k more))
        (g.bytes f i k there few more) stay 0 (omega arith))
        (reads f i there few)
    | inr other ↦
        let match = r.over (4 * f + i) other (omega (arith, there, few, r.few, r.most)) in
        record {
          node = λ no_match. absurd (cc (match, no_match));
          there = omega (arith, (reads f i there few).over match, some_words r.is_way stay);
          few = omega arith;
        }
  ]

  module _ {next : Lanes}
      (words : (f i : ℕ) → f < fours_of left → i < 4 → word_of next (4 * f + i)
      ≡ (if is_match (word_of lanes (4 * f + i)) then word_of lanes (4 * f + i)
      else slice_index way.words (in_four at f i)))
      (others : (j : ℕ) → 4 * fours_of left ≤ j → HasWalk lanes j next j) where
    -- a lane at a match stays
    stays : (j : ℕ) → is_match (word_of lanes j) ≡ true → word_of next j ≡ word_of lanes j
    stays j match = elim (cases_lt j (4 * fours_of left)) [
      | inl stepped ↦
          let is : 4 * (j / 4) + j % 4 ≡ j = omega arith in
          let here : word_of next (4 * (j / 4) + j % 4) ≡ _ =
          words (j / 4) (j % 4) (omega (arith, stepped)) (omega arith) in
          rw match at (rw is at here)
      | inr past ↦ let w = others j past in omega (arith, w.low, w.high)
    ]

    -- and a walk has read one byte more
    went : (f i : ℕ) → f < fours_of left → i < 4 → 4 * f + i < left →
        LaneStands way keys (number_of lanes (4 * f + i)) (n + k + 1) (word_of next (4 * f + i))
    went f i there few own =
        let stands = r.lane (4 * f + i) own in
        let place_is = sym (g.follow k more) in
        let byte_is = g.bytes f i k there few more in
        lane_went r.is_way r.keys_are stands place_there place_is byte_is
        (goes_on (lane_ready r.is_way r.keys_are stands place_there place_is byte_is stay 0 (omega arith))
        (reads f i there few) (record { word_is = words f i there few; taken_is = refl }))

    -- so all have
    pub ranks_went : ((j : ℕ) → j < 4 * fours_of left → slice_index next.lows j < 2 ^ 32) → next.keys ≡ lanes.keys →
        Ranks way keys count left (n + (k + 1)) next rows
    ranks_went small keys_stay =
        subst (λ (m : ℕ). Ranks way keys count left m next rows) (omega arith) (record {
          is_way = r.is_way;
          keys_are = r.keys_are;
          few = r.few;
          most = r.most;
          small = λ j h. elim (cases_lt j (4 * fours_of left)) [
            | inl stepped ↦ small j stepped
            | inr past ↦ omega (arith, (others j past).low, r.small j h)
          ];
          numbers = λ j h. omega (arith, same j, r.numbers j h);
          lane = λ j own.
              let is : 4 * (j / 4) + j % 4 ≡ j = omega arith in
              let one = went (j / 4) (j % 4) (omega (arith, own)) (omega arith) (omega (arith, own, is)) in
              subst (λ (key : ℕ). LaneStands way keys key (n + k + 1) (word_of next j)) (sym (same j))
              (subst (λ (m : ℕ). LaneStands way keys (number_of lanes m) (n + k + 1) (word_of next m)) is one);
          over = λ j past h. let match = r.over j past h in ap is_match (stays j match) ∙ match;
          each = λ key h. elim (r.each key h) [
            | inl done ↦ inl (record {
              over = over_more r.is_way r.keys_are place_there done.over;
              ends = done.ends;
            })
            | inr lane ↦ inr (lane.0, lane.1, same lane.0 ∙ lane.2)
          ];
          sums = λ f none. sum_agree (λ j. f (number_of next j)) (λ j. f (number_of lanes j)) left
              (λ j h. ap f (same j))
              ∙ r.sums f (λ key h over. none key h (over_more r.is_way r.keys_are place_there over));
        })
      where
        same : (j : ℕ) → number_of next j ≡ number_of lanes j
        same j = ap (λ (xs : List ℕ). slice_index xs j) keys_stay

-- ---- what they take is counted

-- a sum stays where later numbers give 0
sum_past : (f : ℕ → ℕ) (m n : ℕ) → m ≤ n → ((j : ℕ) → m ≤ j → j < n → f j ≡ 0) → sum_below f n ≡ sum_below f m
sum_past f m n within none =
    let rest : ℕ = n - m in
    let whole : m + rest ≡ n = omega (arith, within) in
    let last : sum_below (λ i. f (m + i)) rest ≡ 0 =
    sum_agree (λ i. f (m + i)) (λ i. 0) rest (λ i h. none (m + i) (omega arith) (omega (arith, h, whole)))
    ∙ sum_zero (λ (i : ℕ). 0) rest (λ i. refl) in
    omega (arith, ap (λ (k : ℕ). sum_below f k) whole, sum_split f m rest, last)

-- the lanes that are on their way take one transition each for the next byte
pub ranks_count : {way : Way} {keys : List ℕ} {count left n : ℕ} {lanes : Lanes} {rows : List ℕ} →
    Ranks way keys count left n lanes rows → n < length way.places →
    all_took way keys count (n + 1) ≡ all_took way keys count n + going lanes (4 * fours_of left)
ranks_count {way = way} {keys = keys} {count = count} {left = left} {n = n} {lanes = lanes} r within =
    let more = λ (k : ℕ). took_for way keys (n + 1) k - took_for way keys n k in
    let stepped : going lanes (4 * fours_of left) ≡ going lanes left =
    sum_past (goes lanes) left (4 * fours_of left) (omega arith)
    (λ j past h. none_goes j (r.over j past (omega (arith, h, r.few, r.most)))) in
    let of_lanes : sum_below (λ j. more (number_of lanes j)) left ≡ going lanes left =
    sum_agree (λ j. more (number_of lanes j)) (goes lanes) left (λ j h. omega (arith, one_more j h)) in
    let all : sum_below (took_for way keys (n + 1)) count
    ≡ sum_below (λ k. took_for way keys n k + more k) count =
    sum_agree (took_for way keys (n + 1)) (λ k. took_for way keys n k + more k) count
    (λ k h. elim (r.each k h) [
      | inl done ↦ omega (arith, none_more r.is_way r.keys_are within done.over)
      | inr lane ↦
          let step : took_for way keys (n + 1) k ≡ took_for way keys n k + goes lanes lane.0 =
          subst (λ (m : ℕ). took_for way keys (n + 1) m ≡ took_for way keys n m + goes lanes lane.0) lane.2
          (one_more lane.0 lane.1) in
          omega (arith, step)
    ]) in
    omega (
      arith,
      stepped,
      of_lanes,
      all,
      sum_both (took_for way keys n) more count,
      r.sums more (λ k h over. omega (arith, none_more r.is_way r.keys_are within over)),
    )
  where
    none_goes : (j : ℕ) → is_match (word_of lanes j) ≡ true → goes lanes j ≡ 0
    none_goes j match = rw match refl

    one_more : (j : ℕ) → j < left →
        took_for way keys (n + 1) (number_of lanes j) ≡ took_for way keys n (number_of lanes j) + goes lanes j
    one_more j h = (lane_step r.is_way r.keys_are (r.lane j h) within refl refl).steps

-- ---- they close ranks

-- a lane that has ended and its key
module _ {way : Way} {keys : List ℕ} {count left n : ℕ} {lanes : Lanes} {rows : List ℕ}
    (r : Ranks way keys count left n lanes rows) where
  -- its walk is over
  lane_match : (j : ℕ) → j < left → ended ≤ slice_index lanes.lows j → is_match (word_of lanes j) ≡ true
  lane_match j h over = lane_ended (slice_index lanes.lows j) (slice_index lanes.highs j) (r.lane j h)
      (over, r.small j (omega (arith, h, r.few, r.most)))

  lane_is_over : (j : ℕ) → j < left → is_match (word_of lanes j) ≡ true → IsOver way keys n (number_of lanes j)
  lane_is_over j h match = record { word = word_of lanes j; stands = r.lane j h; match = match }

  -- a row that is named for a key whose walk is over is that of its end
  named_ends : (k : ℕ) {row : ℕ} → IsOver way keys n k → IsNamed lanes left k row →
      EndsAt way.table way.trie (key_at way.table keys k) row
  named_ends k {row = row} over named =
      let stands = subst (λ (m : ℕ). LaneStands way keys m n (word_of lanes named.lane)) named.walks
      (r.lane named.lane named.there) in
      let same : word_of lanes named.lane ≡ over.word = stands.at.is ∙ sym over.stands.at.is in
      lane_row (slice_index lanes.lows named.lane) (slice_index lanes.highs named.lane) row stands
      (ap is_match same ∙ over.match) named.names

-- once ranks are closed, fewer lanes are left
pub ranks_closed : {way : Way} {keys : List ℕ} {count left n kept : ℕ} {lanes next : Lanes} {before rows : List ℕ} →
    Ranks way keys count left n lanes before → AreClosed lanes next left kept before rows →
    ((j : ℕ) → kept ≤ j → j < left → slice_index next.lows j ≡ ended) → Ranks way keys count kept n next rows
ranks_closed {way = way} {keys = keys} {count = count} {left = left} {n = n} {kept = kept} {lanes = lanes}
    {next = next} {before = before} {rows = rows} r c over = record {
      is_way = r.is_way;
      keys_are = r.keys_are;
      few = omega (arith, c.few, r.few);
      most = r.most;
      small = λ j h. elim (cases_lt j kept) [
        | inl kept_one ↦ let s = c.from j kept_one in
            omega (arith, s.2.low, r.small s.0 (omega (arith, s.1, r.few, r.most)))
        | inr past ↦
            elim (cases_lt j left) [
              | inl empty ↦ omega (arith, over j past empty)
              | inr other ↦ omega (arith, (c.others j other).low, r.small j h)
            ]
      ];
      numbers = λ j h. elim (cases_lt j left) [
        | inl one ↦ let s = c.keys j one in
            omega (arith, s.2, r.numbers s.0 (omega (arith, s.1, r.few, r.most)))
        | inr other ↦ omega (arith, (c.others j other).key, r.numbers j h)
      ];
      lane = λ j h. let s = c.from j h in the_same s.0 j s.2 (r.lane s.0 s.1);
      over = λ j past h. elim (cases_lt j left) [
        | inl empty ↦ empty_match (slice_index next.lows j) (slice_index next.highs j) (over j past empty)
        | inr other ↦ let w = c.others j other in rw (w.low, w.high) (r.over j other h)
      ];
      each = λ k h. elim (r.each k h) [
        | inl done ↦ inl (record { over = done.over; ends = still k done (c.written.only k) })
        | inr lane ↦
            elim (cases_lt (slice_index lanes.lows lane.0) ended) [
              | inl on_way ↦ let to = c.to lane.0 lane.1 on_way in inr (to.0, to.1, to.2.key ∙ lane.2)
              | inr gone ↦
                  let done = lane_is_over r lane.0 lane.1 (lane_match r lane.0 lane.1 gone) in
                  inl (subst (λ (m : ℕ). IsDone way keys n m (slice_index rows m)) lane.2 (record {
                    over = done;
                    ends = named_ends r (number_of lanes lane.0) done (c.written.each lane.0 lane.1);
                  }))
            ]
      ];
      sums = λ f none. c.sums f (λ i h gone. none (number_of lanes i) (r.numbers i (omega (arith, h, r.few, r.most)))
          (lane_is_over r i h (lane_match r i h gone))) ∙ r.sums f none;
    }
  where
    the_same : (i j : ℕ) → HasWalk lanes i next j → LaneStands way keys (number_of lanes i) n (word_of lanes i) →
        LaneStands way keys (number_of next j) n (word_of next j)
    the_same i j w stands = rw (w.low, w.high, w.key) stands

    empty_match : (low high : ℕ) → low ≡ ended → is_match (low + 2 ^ 32 * high) ≡ true
    empty_match low high is = grind (arith, nat_tests, is)

    still : (k : ℕ) → IsDone way keys n k (slice_index before k) →
        IsNamed lanes left k (slice_index rows k) ⊎ (slice_index rows k ≡ slice_index before k) →
        EndsAt way.table way.trie (key_at way.table keys k) (slice_index rows k)
    still k done either = elim either [
      | inl named ↦ named_ends r k done.over named
      | inr stays ↦ subst (EndsAt way.table way.trie (key_at way.table keys k)) (sym stays) done.ends
    ]

-- ---- they end

-- where all places are read or no lane is left, each walk is over
pub ranks_over : {way : Way} {keys : List ℕ} {count left n : ℕ} {lanes : Lanes} {rows : List ℕ} →
    Ranks way keys count left n lanes rows → (n ≡ length way.places) ⊎ (left ≡ 0) → (k : ℕ) → k < count →
    IsOver way keys n k
ranks_over {way = way} {keys = keys} {n = n} r past k h = elim (r.each k h) [
  | inl done ↦ done.over
  | inr lane ↦
      subst (IsOver way keys n) lane.2
      (lane_is_over r lane.0 lane.1 (elim past [
        | inl all ↦ lane_over r.is_way (r.lane lane.0 lane.1) all
        | inr none ↦ absurd (omega (arith, lane.1, none))
      ]))
]

-- so once the lanes that are left have written their rows, each key has its own
pub ranks_rows : {way : Way} {keys : List ℕ} {count left n : ℕ} {lanes : Lanes} {before rows : List ℕ} →
    Ranks way keys count left n lanes before → ((k : ℕ) → k < count → IsOver way keys n k) →
    AreWritten lanes left before rows → (k : ℕ) → k < count →
    EndsAt way.table way.trie (key_at way.table keys k) (slice_index rows k)
ranks_rows {way = way} {keys = keys} {left = left} {lanes = lanes} {rows = rows} r over w k h = elim (w.only k) [
  | inl named ↦ named_ends r k (over k h) named
  | inr stays ↦
      elim (r.each k h) [
        | inl done ↦ subst (EndsAt way.table way.trie (key_at way.table keys k)) (sym stays) done.ends
        | inr lane ↦
            named_ends r k (over k h)
            (subst (λ (m : ℕ). IsNamed lanes left m (slice_index rows m)) lane.2 (w.each lane.0 lane.1))
      ]
]

-- and all transitions are counted
pub all_taken : {way : Way} {keys : List ℕ} {n : ℕ} (count : ℕ) → ((k : ℕ) → k < count → IsOver way keys n k) →
    all_took way keys count n
    ≡ sum_below (λ k. walk_transitions way.table way.trie (key_at way.table keys k)) count
all_taken {way = way} {keys = keys} {n = n} count over =
    sum_agree (took_for way keys n) (λ k. walk_transitions way.table way.trie (key_at way.table keys k)) count
    (λ k h. let o = over k h in lane_took o.stands o.match)

-- which are few
pub sum_few : (f : ℕ → ℕ) (n : ℕ) → ((k : ℕ) → k < n → f k ≤ max_key_len) → sum_below f n ≤ n * max_key_len
sum_few f zero each = omega (arith, sum_none f)
sum_few f (suc n) each =
    let next : n + 1 ≡ suc n = omega arith in
    omega (
      arith,
      ap (λ (m : ℕ). sum_below f m) next,
      sum_more f n,
      each n (omega arith),
      sum_few f n (λ k h. each k (omega (arith, h))),
    )
