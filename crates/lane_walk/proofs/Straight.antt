-- The byte that a lane reads over a table of one trie with straight places, and the word that it takes.
use Rattle.std.proofs.Common.{◌≡◌, ℕ, ◌+◌, ◌*◌, ◌^◌, ◌<◌, ◌≤◌, List, sym, ap, ◌∙◌, refl, arith, length}
use Rattle.std.specs.Prelude.{None, slice_index}
use Rattle.table_sizes.specs.Groups.{max_key_len}
use Rattle.table_sizes.specs.Sizes.{max_keys}
use Rattle.flat_table.specs.Laws.{WalksStay}
use Rattle.flat_table.specs.Sound.{sound_fault}
use Rattle.flat_table.specs.Table.{TableView, places_of}
use Rattle.flat_table.specs.Word.{next_place}
use Rattle.flat_table.specs.Batch.{keys_in}
use Rattle.flow_core.specs.declared.flight.Flight.{Flight}
use Rattle.flow_core.specs.Machine.{byte_of, word_of}
use Rattle.flow_core.specs.Standing.{IsOnWay}
use Rattle.flow_core.proofs.Offered.{byte_is, byte_there, place_in_key, product_fits}
use Rattle.lane_walk.specs.Fleet.{IsStraight}
use Rattle.lane_walk.proofs.Landing.{Lands, place_there}

-- where the bytes stand that a flight reads next, over a table of one trie with straight places
module _ {table : TableView} {keys : List ℕ} {given len first at : ℕ} {flight : Flight}
    (on : IsOnWay table keys given flight) (sound : sound_fault table ≡ None)
    (straight : IsStraight (places_of table 0))
    (one : flight.trie ≡ 0) (len_is : len ≡ table.key_len) (first_is : first ≡ slice_index (places_of table 0) 0)
    (at_is : at ≡ flight.key * len + first + flight.depth) where
  -- the places are those of the only trie
  the_places : places_of table 0 ≡ places_of table flight.trie
  the_places = ap (λ (trie : ℕ). places_of table trie) (sym one)

  -- the next one is as far from the first as the flight is deep
  the_place : first + flight.depth ≡ slice_index (places_of table 0) flight.depth
  the_place =
      let within : flight.depth < length (places_of table 0) =
      omega (arith, on.depth, ap (λ (places : List ℕ). length places) the_places) in
      omega (arith, straight flight.depth within, first_is)

  -- it stands in the key at the flight's depth
  at_place : at ≡ flight.key * len + slice_index (places_of table 0) flight.depth
  at_place = omega (arith, at_is, the_place)

  -- there is a byte
  pub at_there : length keys ≡ keys_in table keys * table.key_len → at < length keys
  at_there whole = omega (
    arith,
    at_place,
    byte_there on sound the_places {place = slice_index (places_of table 0) flight.depth} refl len_is whole,
  )

  -- which is the one that the flight reads
  pub byte_at : slice_index keys at ≡ byte_of table keys flight
  byte_at = ap (λ (n : ℕ). slice_index keys n) at_place
      ∙ byte_is on sound the_places {place = slice_index (places_of table 0) flight.depth} refl len_is

  -- it stands where numbers of the machine reach
  pub at_small : len ≤ max_key_len → keys_in table keys ≤ max_keys → at < 2 ^ 63
  at_small short few = omega (
    arith,
    at_place,
    product_fits on len_is short few,
    place_in_key on sound the_places {place = slice_index (places_of table 0) flight.depth} refl,
    len_is,
    short,
  )

-- a lane whose word and byte are those of a flight, which takes the word at their place, takes that of the flight
module _ {table : TableView} {keys : List ℕ} {given : ℕ} {flight : Flight} (on : IsOnWay table keys given flight)
    (stay : WalksStay) (sound : sound_fault table ≡ None) (bytes : (i : ℕ) → slice_index keys i < 256)
    {word byte : ℕ} (word_is : word ≡ flight.word) (read : byte ≡ byte_of table keys flight) where
  -- what the step goes by
  step_by : Lands table keys flight (next_place flight.word (byte_of table keys flight))
  step_by = record { given = given; on_way = on; stay = stay; sound = sound; bytes = bytes; place_is = refl }

  -- the place is that of a word
  pub place_within : next_place word byte < length table.words
  place_within =
      let same : next_place word byte ≡ next_place flight.word (byte_of table keys flight) =
      λ i. next_place (word_is i) (read i) in
      omega (arith, place_there step_by, same)

  -- and the word there is the next of the flight
  pub word_there : slice_index table.words (next_place word byte) ≡ word_of table keys flight
  word_there = λ i. slice_index table.words (next_place (word_is i) (read i))
