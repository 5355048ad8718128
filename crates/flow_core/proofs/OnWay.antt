-- A flight of a machine that may be stepped: the byte that it reads, and the word that it takes.
use Rattle.std.proofs.Common.{◌≡◌, ℕ, ◌+◌, ◌*◌, ◌<◌, ◌≤◌, List, sym, ap, ◌∙◌, arith, length, drop}
use Rattle.std.specs.Prelude.{slice_index, None}
use Rattle.std.proofs.Math.Nat.{mul-le-mul_right}
use Rattle.std.proofs.lemmas.List.{get_or-take, get_or-drop}
use Rattle.table_sizes.specs.Groups.{max_key_len}
use Rattle.flat_table.specs.Word.{next_place}
use Rattle.flat_table.specs.Table.{TableView, places_of}
use Rattle.flat_table.specs.Sound.{sound_fault}
use Rattle.table_sizes.specs.Sizes.{max_keys}
use Rattle.flat_table.specs.Batch.{key_at, keys_in}
use Rattle.flat_table.specs.Laws.{WalksStay, LeadsOn}
use Rattle.flat_table.proofs.Offered.{place_below}
use Rattle.flow_core.specs.declared.flight.Flight.{Flight}
use Rattle.flow_core.specs.Machine.{byte_of}
use Rattle.flow_core.specs.Standing.{IsOnWay, LeadsOnward, job_of}
use Rattle.flow_core.proofs.Given.{given_out}
use Rattle.flow_core.proofs.Flying.{level_there}

module _ {table : TableView} {keys : List ℕ} {given : ℕ} {flight : Flight} (on : IsOnWay table keys given flight) where
  -- its key and its trie are there
  pub key_of_flight : flight.key < keys_in table keys
  key_of_flight = (given_out table keys given (job_of flight) on.job).key

  -- the trie of the flight is there
  pub trie_of_flight : flight.trie < length table.roots
  trie_of_flight = (given_out table keys given (job_of flight) on.job).trie

  -- the place of its next byte
  module _ (sound : sound_fault table ≡ None) {places : List ℕ} (are : places ≡ places_of table flight.trie)
      {place : ℕ} (is : place ≡ slice_index places flight.depth) where
    -- it is the place at the flight's depth in its trie
    place_is : place ≡ slice_index (places_of table flight.trie) flight.depth
    place_is = is ∙ ap (λ (xs : List ℕ). slice_index xs flight.depth) are

    -- it is a place of the key
    pub place_in_key : place < table.key_len
    place_in_key = omega (
      arith,
      place_is,
      place_below table flight.trie keys sound trie_of_flight flight.depth on.depth,
    )

    -- its byte is among the bytes of the keys
    pub byte_there : {len : ℕ} → len ≡ table.key_len → length keys ≡ keys_in table keys * table.key_len →
        flight.key * len + place < length keys
    byte_there e whole =
        let more : (flight.key + 1) * table.key_len ≤ keys_in table keys * table.key_len =
        mul-le-mul_right table.key_len (let next : flight.key + 1 ≤ keys_in table keys =
        omega (arith, key_of_flight) in next) in
        let len_is = ap (λ (n : ℕ). flight.key * n) e in
        omega (arith, more, len_is, whole, place_in_key)

    -- its byte is the one that the flight reads
    pub byte_is : {len : ℕ} → len ≡ table.key_len →
        slice_index keys (flight.key * len + place) ≡ byte_of table keys flight
    byte_is e =
        ap (λ (n : ℕ). slice_index keys (flight.key * n + place)) e
        ∙ sym (get_or-take table.key_len (drop (flight.key * table.key_len) keys) place 0 place_in_key
        ∙ get_or-drop (flight.key * table.key_len) keys place 0)
        ∙ ap (λ (p : ℕ). slice_index (key_at table keys flight.key) p) place_is

  -- the place where the flight's key begins is within its bound
  pub product_fits : {len : ℕ} → len ≡ table.key_len → len ≤ max_key_len → keys_in table keys ≤ max_keys →
      flight.key * len ≤ max_keys * max_key_len
  product_fits {len = len} e short few =
      let left : flight.key * len ≤ max_keys * len = mul-le-mul_right len
      (let below : flight.key ≤ max_keys = omega (arith, key_of_flight, few) in below) in
      omega (arith, left, short)

  -- the word that it takes
  pub word_onward : (stay : WalksStay) → sound_fault table ≡ None → (byte : ℕ) → byte < 256 →
      LeadsOn table flight.trie (flight.depth + 1) (next_place flight.word byte)
  word_onward stay sound byte small =
      stay.next table flight.trie flight.depth flight.word byte sound trie_of_flight small on.word

  -- a place that leads on in the trie has a word that leads the flight onward
  pub leads_onward : (stay : WalksStay) → sound_fault table ≡ None → (place : ℕ) →
      LeadsOn table flight.trie (flight.depth + 1) place →
      LeadsOnward table flight (slice_index table.words place)
  leads_onward stay sound place l = record {
    row = l.row;
    depth = λ node. level_there table keys sound stay flight.trie (flight.depth + 1) (slice_index table.words place)
        trie_of_flight (l.level node);
    level = l.level;
  }
