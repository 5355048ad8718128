-- One of many walks in step.
use Rattle.std.proofs.Common.{◌≡◌, ℕ, ◌+◌, ◌*◌, ◌%◌, ◌<◌, ◌≤◌, ◌^◌, Bool, true, false, List, sym, ap, ◌∙◌}
use Rattle.std.proofs.Common.{arith, subst, length, drop, ltb, inl, inr}
use Rattle.std.specs.Prelude.{slice_index, if◌then◌else◌}
use Rattle.std.proofs.lemmas.Bool.{cases_Bool}
use Rattle.std.proofs.lemmas.Bool.Decides.{nat_tests}
use Rattle.std.proofs.lemmas.List.{get_or-take, get_or-drop}
use Rattle.flat_table.specs.Word.{index_of, is_match}
use Rattle.flat_table.specs.Table.{level_of, places_of}
use Rattle.flat_table.specs.Walk.{root_of, transitions_after, walk_transitions}
use Rattle.flat_table.specs.Batch.{key_at}
use Rattle.flat_table.specs.Laws.{WalksStay}
use Rattle.flat_table.proofs.Offered.{Stands, begins, ends_at_match, row_at_match, transitions_at_match}
use Rattle.scalar_walk.specs.Lanes.{IsEnded}
use Rattle.scalar_walk.specs.Rows.{CanGoOn, EndsAt, GoesOn}
use Rattle.scalar_walk.proofs.Stepping.{node_is_small}
use Rattle.scalar_walk.proofs.Walks.{leads_to_node}
use Rattle.scalar_walk.proofs.Ways.{Way, IsWay, Step, step, count_of_places, place_in_key}

-- so many keys, one after the other
pub record SomeKeys (way : Way) (keys : List ℕ) (count : ℕ) : Type 0 where
  pub whole : length keys ≡ count * way.table.key_len
  pub some : 0 < count
  pub bytes : (k : ℕ) → slice_index keys k < 2 ^ 8

-- a walk of the key of a number stands at the word after n bytes
pub record LaneStands (way : Way) (keys : List ℕ) (key n word : ℕ) : Type 0 where
  pub at : Stands way.table way.trie (key_at way.table keys key) n word

-- and took so many words
pub record LaneWalks (way : Way) (keys : List ℕ) (key n word taken : ℕ) : Type 0 where
  pub stands : LaneStands way keys key n word
  pub taken_is : taken ≡ transitions_after way.table way.trie (key_at way.table keys key) n
  pub few : taken ≤ n

-- it begins at the root
pub lane_stands : {way : Way} {root word : ℕ} → IsWay way → (keys : List ℕ) (key : ℕ) →
    root ≡ root_of way.table way.trie → word ≡ root → LaneStands way keys key 0 word
lane_stands {way = way} w keys key root word_is = record {
  at = subst (Stands way.table way.trie (key_at way.table keys key) 0) (sym (word_is ∙ root))
      (begins way.table way.trie (key_at way.table keys key) w.sound w.there);
}

-- with no word taken
pub lane_begins : {way : Way} {root word taken : ℕ} → IsWay way → (keys : List ℕ) (key : ℕ) →
    root ≡ root_of way.table way.trie → word ≡ root → taken ≡ 0 → LaneWalks way keys key 0 word taken
lane_begins w keys key root word_is none = record {
  stands = lane_stands w keys key root word_is;
  taken_is = none;
  few = omega (arith, none);
}

-- a sound table with a trie has words
pub some_words : {way : Way} → IsWay way → WalksStay → 0 < length way.words
some_words {way = way} w stay =
    let on = stay.next way.table way.trie 0 (root_of way.table way.trie) 0 w.sound w.there (omega arith)
    (stay.root way.table way.trie w.sound w.there) in
    omega (arith, on.there, ap (λ (xs : List ℕ). length xs) w.words_are)

-- a test counts as at most 1
pub at_most_one : (b : Bool) → (if b then 0 else 1) ≤ 1
at_most_one true = omega arith
at_most_one false = omega arith

-- what the byte at the next place brings a walk that stands at the word
module _ {way : Way} {keys : List ℕ} {count key n word place byte : ℕ} (is_way : IsWay way)
    (keys_are : SomeKeys way keys count) (stands : LaneStands way keys key n word)
    (within : n < length way.places) (place_is : place ≡ slice_index way.places n)
    (byte_is : byte ≡ slice_index keys (key * way.table.key_len + place)) where
  -- one step on
  pub lane_step : Step way (key_at way.table keys key) n place byte word
  lane_step =
      let size : ℕ = way.table.key_len in
      let of_key : byte ≡ slice_index (key_at way.table keys key) place = byte_is
      ∙ sym (get_or-take size (drop (key * size) keys) place 0 (place_in_key is_way n place within place_is)
      ∙ get_or-drop (key * size) keys place 0) in
      let small : byte < 2 ^ 8 = omega (arith, byte_is, keys_are.bytes (key * size + place)) in
      step is_way (key_at way.table keys key) n place byte word within place_is of_key small stands.at

  -- it can go on by that byte, if it took few words
  pub lane_ready : WalksStay → (taken : ℕ) → taken < 2 ^ 31 → CanGoOn way.words word byte taken
  lane_ready stay taken few = record {
    some = some_words is_way stay;
    node = lane_step.node;
    in_words = lane_step.in_words;
    few = few;
  }

  -- once it went on, it has read one byte more
  pub lane_went : {taken next new : ℕ} → GoesOn way.words word byte next taken new →
      LaneStands way keys key (n + 1) next
  lane_went {next = next} went = record {
    at = subst (Stands way.table way.trie (key_at way.table keys key) (n + 1)) (sym went.word_is) lane_step.next;
  }

  -- and its words are counted
  pub lane_counted : {taken next new : ℕ} →
      taken ≡ transitions_after way.table way.trie (key_at way.table keys key) n → taken ≤ n →
      GoesOn way.words word byte next taken new → LaneWalks way keys key (n + 1) next new
  lane_counted taken_is few went = record {
    stands = lane_went went;
    taken_is = went.taken_is ∙ ap (λ (m : ℕ). m + (if is_match word then 0 else 1)) taken_is ∙ sym lane_step.steps;
    few = omega (arith, went.taken_is, few, at_most_one (is_match word));
  }

-- where all places are read, it stands at a match
pub lane_over : {way : Way} {keys : List ℕ} {key n word : ℕ} → IsWay way →
    LaneStands way keys key n word → n ≡ length way.places → is_match word ≡ true
lane_over {way = way} {keys = keys} {key = key} {n = n} {word = word} is_way stands past =
    let all : n ≡ length (places_of way.table way.trie) = omega (arith, past, count_of_places way is_way) in
    ends_at_match way.table way.trie (key_at way.table keys key) is_way.sound is_way.there word
    (subst (λ (k : ℕ). Stands way.table way.trie (key_at way.table keys key) k word) all stands.at)

-- and where it has ended, it does
pub lane_ended : {way : Way} {keys : List ℕ} {key n : ℕ} (low high : ℕ) →
    LaneStands way keys key n (low + 2 ^ 32 * high) → IsEnded low → is_match (low + 2 ^ 32 * high) ≡ true
lane_ended {way = way} {n = n} low high stands over =
    let word : ℕ = low + 2 ^ 32 * high in
    elim (cases_Bool (is_match word)) [
      | inl match ↦ match
      | inr way_on ↦
          let node = leads_to_node (level_of way.table way.trie n) word (stands.at.level way_on) in
          absurd (is_small low over.0 (node_is_small low high over.1 node))
    ]
  where
    is_small : (low : ℕ) → 2 ^ 31 ≤ low → ltb low 2147483648 ≡ true → ⊥
    is_small low great small = grind (arith, nat_tests, great, small)

-- at a match it has ended at the row that its word names
pub lane_row : {way : Way} {keys : List ℕ} {key n : ℕ} (low high row : ℕ) →
    LaneStands way keys key n (low + 2 ^ 32 * high) → is_match (low + 2 ^ 32 * high) ≡ true → row ≡ low % 2 ^ 29 →
    EndsAt way.table way.trie (key_at way.table keys key) row
lane_row {way = way} {keys = keys} {key = key} {n = n} low high row stands match is_row =
    let word : ℕ = low + 2 ^ 32 * high in
    let named : row ≡ index_of word = omega (arith, is_row) in
    record {
      is = named ∙ ap index_of stands.at.is
          ∙ sym (row_at_match way.table way.trie (key_at way.table keys key) n (rw (sym stands.at.is) match));
      there = omega (arith, named, stands.at.row match);
    }

-- and has taken its transitions
pub lane_took : {way : Way} {keys : List ℕ} {key n word : ℕ} →
    LaneStands way keys key n word → is_match word ≡ true →
    transitions_after way.table way.trie (key_at way.table keys key) n
    ≡ walk_transitions way.table way.trie (key_at way.table keys key)
lane_took {way = way} {keys = keys} {key = key} {n = n} stands match =
    sym (transitions_at_match way.table way.trie (key_at way.table keys key) n (rw (sym stands.at.is) match))
