-- Four of up to sixteen walks in step.
use Rattle.std.proofs.Common.{◌≡◌, ℕ, ◌+◌, ◌-◌, ◌*◌, ◌%◌, ◌<◌, ◌≤◌, ◌^◌, true, List, refl, sym, ap, ◌∙◌}
use Rattle.std.proofs.Common.{arith, subst, length, drop, take, inl, inr}
use Rattle.std.specs.Prelude.{slice_index}
use Rattle.std.proofs.lemmas.List.{take_all}
use Rattle.std.proofs.lemmas.Bool.{cases_lt}
use Rattle.std.proofs.Math.Nat.{mul-le-mul_right}
use Rattle.table_sizes.specs.Groups.{max_key_len}
use Rattle.flat_table.specs.Word.{is_match}
use Rattle.flat_table.specs.Table.{TableView}
use Rattle.flat_table.specs.Walk.{root_of, walk_transitions}
use Rattle.flat_table.specs.Batch.{key_at}
use Rattle.flat_table.specs.Laws.{WalksStay}
use Rattle.scalar_walk.specs.Lanes.{HaveEnded, lane_key, word_in}
use Rattle.scalar_walk.specs.Rows.{CanGoOn, EndsAt, GoesOn}
use Rattle.scalar_walk.specs.declared.vectors.Four.{Four}
use Rattle.scalar_walk.proofs.LaneKeys.{lane_own, lane_within}
use Rattle.scalar_walk.proofs.LaneWalks.{LaneWalks, SomeKeys, lane_begins, lane_ended, lane_over, lane_ready}
use Rattle.scalar_walk.proofs.LaneWalks.{lane_row, lane_took, lane_counted}
use Rattle.scalar_walk.proofs.Ways.{Way, IsWay, place_in_key}

-- what a walk of the code goes by
abbrev pub way_of : TableView → ℕ → List ℕ → List ℕ → Way
way_of table trie places words = record { table = table; trie = trie; places = places; words = words }

-- the bytes of a key alone are the first key
pub key_alone : (table : TableView) (keys : List ℕ) → length keys ≡ 1 * table.key_len → key_at table keys 0 ≡ keys
key_alone table keys whole =
    let none : 0 * table.key_len ≡ 0 = omega arith in
    ap (λ (at : ℕ). take table.key_len (drop at keys)) none ∙ take_all table.key_len keys (omega (arith, whole))

-- four walks after n bytes each, of the keys of the lanes from the first of them on
pub record FourWalks (way : Way) (keys : List ℕ) (count first n : ℕ) (walks : Four) : Type 0 where
  pub is_way : IsWay way
  pub keys_are : SomeKeys way keys count
  pub lane : (i : ℕ) → i < 4 → LaneWalks way keys (lane_key count (first + i)) n (word_in walks.lows walks.highs i)
      (slice_index walks.taken i)

-- they begin at the root
pub four_begin : {way : Way} {keys : List ℕ} {count : ℕ} {walks : Four} {root : ℕ} → IsWay way →
    SomeKeys way keys count → (first : ℕ) → root ≡ root_of way.table way.trie →
    ((i : ℕ) → i < 4 → word_in walks.lows walks.highs i ≡ root) → ((i : ℕ) → i < 4 → slice_index walks.taken i ≡ 0) →
    FourWalks way keys count first 0 walks
four_begin {keys = keys} {count = count} w k first root words taken = record {
  is_way = w;
  keys_are = k;
  lane = λ i h. lane_begins w keys (lane_key count (first + i)) root (words i h) (taken i h);
}

-- where the bytes of their keys begin
pub record AreBegins (way : Way) (count first : ℕ) (places : List ℕ) : Type 0 where
  pub each : (i : ℕ) → i < 4 → slice_index places i ≡ lane_key count (first + i) * way.table.key_len

-- they are worked out by the length of a key
pub begins_are : (way : Way) (count first : ℕ) {len : ℕ} (at : List ℕ) → len ≡ way.table.key_len →
    ((i : ℕ) → i < 4 → slice_index at i ≡ lane_key count (first + i) * len) → AreBegins way count first at
begins_are way count first at is each = record {
  each = λ i few. each i few ∙ ap (λ (size : ℕ). lane_key count (first + i) * size) is;
}

-- What the four walks read at once of their keys: the bytes at some places, which stand one after the other.
pub record GroupOf (way : Way) (keys : List ℕ) (count first n read : ℕ) (groups : List ℕ) : Type 0 where
  pub within : n + read ≤ length way.places
  pub follow : (k : ℕ) → k < read → slice_index way.places (n + k) ≡ slice_index way.places n + k
  pub bytes : (i k : ℕ) → i < 4 → k < read → slice_index groups (4 * i + k)
      ≡ slice_index keys (lane_key count (first + i) * way.table.key_len + (slice_index way.places n + k))

-- four walks that have gone on by the first k bytes of what they read
pub record FourRead (way : Way) (keys : List ℕ) (count first n read : ℕ) (groups : List ℕ) (k : ℕ) (walks : Four)
    : Type 0 where
  pub group : GroupOf way keys count first n read groups
  pub walks_are : FourWalks way keys count first (n + k) walks

-- places that stand one after the other lie in the key
pub group_in_key : {way : Way} → IsWay way → (n : ℕ) {read from : ℕ} → 0 < read → n + read ≤ length way.places →
    ((k : ℕ) → k < read → slice_index way.places (n + k) ≡ slice_index way.places n + k) →
    from ≡ slice_index way.places n → from + read ≤ way.table.key_len
group_in_key {way = way} w n {read = read} some within follow from_is =
    let last : ℕ = read - 1 in
    let last_is : slice_index way.places (n + last) ≡ slice_index way.places n + last =
    follow last (omega (arith, some)) in
    let below : slice_index way.places n + last < way.table.key_len =
    omega (
      arith,
      last_is,
      place_in_key w (n + last) (slice_index way.places (n + last)) (omega (arith, within, some)) refl,
    ) in
    omega (arith, below, some, from_is)

-- the bytes that are read are those of the keys
pub bytes_in_keys : {way : Way} {keys : List ℕ} {count first n : ℕ} {walks : Four} →
    FourWalks way keys count first n walks → {read from : ℕ} {at : List ℕ} → 0 < read →
    n + read ≤ length way.places →
    ((k : ℕ) → k < read → slice_index way.places (n + k) ≡ slice_index way.places n + k) →
    from ≡ slice_index way.places n → AreBegins way count first at → (i : ℕ) → i < 4 →
    slice_index at i + from + read ≤ length keys
bytes_in_keys {way = way} {count = count} {first = first} {n = n} w some within follow from_is begun i few =
    let whole = mul-le-mul_right way.table.key_len (lane_within count (first + i) w.keys_are.some) in
    omega (
      arith,
      whole,
      group_in_key w.is_way n some within follow from_is,
      begun.each i few,
      w.keys_are.whole,
    )

-- before the first of them
pub group_begins : {way : Way} {keys : List ℕ} {count first n : ℕ} {walks : Four} →
    FourWalks way keys count first n walks → {read from : ℕ} {at groups : List ℕ} → n + read ≤ length way.places →
    ((k : ℕ) → k < read → slice_index way.places (n + k) ≡ slice_index way.places n + k) →
    from ≡ slice_index way.places n → AreBegins way count first at →
    ((i k : ℕ) → i < 4 → k < read →
    slice_index groups (4 * i + k) ≡ slice_index keys (slice_index at i + from + k)) →
    FourRead way keys count first n read groups 0 walks
group_begins {way = way} {keys = keys} {count = count} {first = first} {n = n} {walks = walks} w within follow from_is
    begun bytes = record {
      group = record {
        within = within;
        follow = follow;
        bytes = λ i k few h. bytes i k few h ∙ ap (λ (place : ℕ). slice_index keys place)
            (omega (arith, from_is, begun.each i few));
      };
      walks_are = subst (λ (m : ℕ). FourWalks way keys count first m walks) (omega arith) w;
    }

-- after the last of them
pub group_ends : {way : Way} {keys : List ℕ} {count first n read k : ℕ} {groups : List ℕ} {walks : Four} →
    FourRead way keys count first n read groups k walks → k ≡ read → FourWalks way keys count first (n + read) walks
group_ends {way = way} {keys = keys} {count = count} {first = first} {n = n} {walks = walks} r all =
    subst (λ (m : ℕ). FourWalks way keys count first (n + m) walks) all r.walks_are

-- what one byte more brings them
module _ {way : Way} {keys : List ℕ} {count first n read k : ℕ} {groups : List ℕ} {walks : Four}
    (r : FourRead way keys count first n read groups k walks) (more : k < read) where
  -- there is a place more
  place_there : n + k < length way.places
  place_there = omega (arith, r.group.within, more)

  -- each of the four walks can go on by its byte
  pub group_ready : WalksStay → length way.places ≤ max_key_len → (i : ℕ) → i < 4 →
      CanGoOn way.words (word_in walks.lows walks.highs i) (slice_index groups (4 * i + k)) (slice_index walks.taken i)
  group_ready stay short i few =
      let w = r.walks_are.lane i few in
      lane_ready r.walks_are.is_way r.walks_are.keys_are w.stands place_there (sym (r.group.follow k more))
      (r.group.bytes i k few more) stay (slice_index walks.taken i) (omega (arith, w.few, place_there, short))

  -- once each of the four has gone on, one more byte is read
  pub group_went : {next : Four} → ((i : ℕ) → i < 4 → GoesOn way.words (word_in walks.lows walks.highs i)
      (slice_index groups (4 * i + k)) (word_in next.lows next.highs i) (slice_index walks.taken i)
      (slice_index next.taken i)) → FourRead way keys count first n read groups (k + 1) next
  group_went {next = next} went = record {
    group = r.group;
    walks_are = subst (λ (m : ℕ). FourWalks way keys count first m next) (omega arith) (record {
      is_way = r.walks_are.is_way;
      keys_are = r.walks_are.keys_are;
      lane = λ i few.
          let w = r.walks_are.lane i few in
          lane_counted r.walks_are.is_way r.walks_are.keys_are w.stands place_there (sym (r.group.follow k more))
          (r.group.bytes i k few more) w.taken_is w.few (went i few);
    });
  }

-- where all places are read or all four have ended, each stands at a match
pub four_over : {way : Way} {keys : List ℕ} {count first n four fours : ℕ} {walks : Four} →
    FourWalks way keys count first n walks → n ≤ length way.places →
    HaveEnded (length way.places) n four fours walks.lows → four < fours → (i : ℕ) → i < 4 →
    is_match (word_in walks.lows walks.highs i) ≡ true
four_over {walks = walks} w within over there i few =
    elim over [
      | inl past ↦ lane_over w.is_way (w.lane i few).stands (omega (arith, past, within))
      | inr ended ↦
          lane_ended (slice_index walks.lows i) (slice_index walks.highs i) (w.lane i few).stands (ended there i few)
    ]

-- where each stands at a match, each has ended at a row, and all its transitions are counted
module _ {way : Way} {keys : List ℕ} {count first n : ℕ} {walks : Four} (w : FourWalks way keys count first n walks)
    (over : (i : ℕ) → i < 4 → is_match (word_in walks.lows walks.highs i) ≡ true) where
  -- each walk of a key of its own has ended at the row that its word names
  pub lane_ends : (i row : ℕ) → i < 4 → first + i < count → row ≡ slice_index walks.lows i % 2 ^ 29 →
      EndsAt way.table way.trie (key_at way.table keys (first + i)) row
  lane_ends i row few own is_row =
      subst (λ (lane : ℕ). EndsAt way.table way.trie (key_at way.table keys lane) row)
      (lane_own count (first + i) own)
      (lane_row (slice_index walks.lows i) (slice_index walks.highs i) row (w.lane i few).stands (over i few) is_row)

  -- and has taken its transitions
  pub own_took : (i : ℕ) → i < 4 → first + i < count →
      slice_index walks.taken i ≡ walk_transitions way.table way.trie (key_at way.table keys (first + i))
  own_took i few own =
      (w.lane i few).taken_is ∙ lane_took (w.lane i few).stands (over i few)
      ∙ ap (λ (lane : ℕ). walk_transitions way.table way.trie (key_at way.table keys lane))
      (lane_own count (first + i) own)

-- each walk has taken at most as many as a key may have bytes
pub lane_took_few : {way : Way} {keys : List ℕ} {count first n : ℕ} {walks : Four} →
    FourWalks way keys count first n walks → n ≤ max_key_len → (i : ℕ) → i < 4 →
    slice_index walks.taken i ≤ max_key_len
lane_took_few w short i few = omega (arith, (w.lane i few).few, short)

-- what holds of each of four fours holds of each of sixteen
pub each_of_fours : (P : ℕ → Type 0) → ((i : ℕ) → i < 4 → P (0 + i)) → ((i : ℕ) → i < 4 → P (4 + i)) →
    ((i : ℕ) → i < 4 → P (8 + i)) → ((i : ℕ) → i < 4 → P (12 + i)) → (k : ℕ) → k < 16 → P k
each_of_fours P first second third fourth k h =
    elim (cases_lt k 4) [
      | inl one ↦ at 0 k (omega (arith, one)) first
      | inr past ↦
          elim (cases_lt k 8) [
            | inl two ↦ at 4 k (omega (arith, two, past)) second
            | inr past ↦
                elim (cases_lt k 12) [
                  | inl three ↦ at 8 k (omega (arith, three, past)) third
                  | inr past ↦ at 12 k (omega (arith, h, past)) fourth
                ]
          ]
    ]
  where
    at : (from n : ℕ) → (from ≤ n) × (n < from + 4) → ((i : ℕ) → i < 4 → P (from + i)) → P n
    at from n within each = subst P (omega (arith, within.0)) (each (n - from) (omega (arith, within.0, within.1)))
