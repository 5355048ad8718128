-- The word that a lane takes from the place that was worked out for it.
use Rattle.std.proofs.Common.{◌≡◌, ℕ, zero, suc, ◌+◌, ◌*◌, ◌<◌, List, sym, ap, ◌∙◌, refl, arith, length, get_or, subst, true, inl, inr}
use Rattle.std.specs.Prelude.{slice_index, None, Some, Option, IfSome, ◌&&◌, nat_le}
use Rattle.std.proofs.lemmas.Bool.{and_parts}
use Rattle.std.proofs.lemmas.List.Elements.{All-get_or}
use Rattle.std.proofs.lemmas.List.{get_or_past}
use Rattle.std.proofs.lemmas.Bool.{cases_lt}
use Rattle.flat_table.specs.Word.{index_of, is_node, next_place, node_len}
use Rattle.flat_table.specs.Table.{TableView, level_of, places_of}
use Rattle.flat_table.specs.Sound.{leads_into, sound_fault}
use Rattle.flat_table.specs.Laws.{WalksStay}
use Rattle.flow_core.specs.declared.flight.Flight.{Flight}
use Rattle.flow_core.specs.Machine.{Machine, byte_of, word_of}
use Rattle.flow_core.specs.Standing.{IsOnWay, LeadsOnward, StandsOver}
use Rattle.flow_core.proofs.Offered.{byte_is, word_onward, leads_onward, IsLent, flight_on_way}
use Rattle.lane_walk.specs.Turn.{GoesBy, IsPlaceOf}

-- what a step of a busy lane goes by
pub record Lands (table : TableView) (keys : List ℕ) (flight : Flight) (place : ℕ) : Type 0 where
  pub given : ℕ
  pub on_way : IsOnWay table keys given flight
  pub stay : WalksStay
  pub sound : sound_fault table ≡ None
  pub bytes : (i : ℕ) → slice_index keys i < 256
  pub place_is : place ≡ next_place flight.word (byte_of table keys flight)

module _ {table : TableView} {keys : List ℕ} {flight : Flight} {place : ℕ} (l : Lands table keys flight place) where
  -- the byte that the flight reads is a byte
  small : byte_of table keys flight < 256
  small =
      let at : ℕ = slice_index (places_of table flight.trie) flight.depth in
      omega (
        arith,
        l.bytes (flight.key * table.key_len + at),
        byte_is l.on_way l.sound {places = places_of table flight.trie} refl {place = at} refl
            {len = table.key_len} refl,
      )

  -- it is one of the table
  pub place_there : place < length table.words
  place_there = omega (
    arith,
    (word_onward l.on_way l.stay l.sound (byte_of table keys flight) small).there,
    l.place_is,
  )

  -- its word names a row, or leads on
  pub word_leads : {words : List ℕ} → words ≡ table.words → LeadsOnward table flight (slice_index words place)
  word_leads are =
      subst (LeadsOnward table flight) (λ i. slice_index (sym are i) (sym l.place_is i))
      (leads_onward l.on_way l.stay l.sound (next_place flight.word (byte_of table keys flight))
      (word_onward l.on_way l.stay l.sound (byte_of table keys flight) small))

  -- and is the next of the walk
  pub word_is : {words : List ℕ} → words ≡ table.words → slice_index words place ≡ word_of table keys flight
  word_is are = λ i. slice_index (are i) (l.place_is i)

-- of a machine that is lent
pub lands : {table : TableView} {keys : List ℕ} {inside before : Machine} {rows : List (List ℕ)} {slot place : ℕ}
    {flight : Flight} → IsLent table keys inside before rows slot → get_or inside.slots slot None ≡ Some flight →
    WalksStay → sound_fault table ≡ None → ((i : ℕ) → slice_index keys i < 256) →
    IsPlaceOf table keys (get_or before.slots slot None) place → Lands table keys flight place
lands {table = table} {keys = keys} {inside = inside} {rows = rows} {slot = slot} {place = place} {flight = flight}
    l busy stay sound bytes is = record {
      given = inside.given;
      on_way = flight_on_way table keys inside rows slot
          (subst (λ (machine : Machine). StandsOver table keys machine (length rows)) (sym l.is) l.stands)
          l.within flight busy;
      stay = stay;
      sound = sound;
      bytes = bytes;
      place_is = subst (λ (held : Option Flight). IsPlaceOf table keys held place)
          (ap (λ (machine : Machine). get_or machine.slots slot None) (sym l.is) ∙ busy) is;
    }

-- ---- the places of four lanes

-- a word that leads into a level leads to a node
pub node_of : (table : TableView) (trie depth word : ℕ) → leads_into (level_of table trie depth) word ≡ true →
    is_node word ≡ true
node_of table trie depth word leads =
    let level = level_of table trie depth in
    (and_parts (is_node word) (nat_le level.from (index_of word))
    (and_parts (is_node word && nat_le level.from (index_of word))
    (nat_le (index_of word + node_len word) (level.from + level.len)) leads).0).0

-- the place that a lane goes on to, from what it read
pub place_of_lane : {table : TableView} {keys : List ℕ} {machine : Machine} {n : ℕ} (lane word byte : ℕ) {place : ℕ} →
    StandsOver table keys machine n → GoesBy table keys (get_or machine.slots lane None) word byte →
    (is_node word ≡ true → place ≡ next_place word byte) →
    IsPlaceOf table keys (get_or machine.slots lane None) place
place_of_lane {table = table} {keys = keys} {machine = machine} lane word byte {place = place} stands goes is =
    elim (cases_lt lane (length machine.slots)) [
      | inl within ↦ of_held (get_or machine.slots lane None)
          (All-get_or (λ held. IfSome held (IsOnWay table keys machine.given)) machine.slots lane None within
          stands.flights) goes
      | inr past ↦ (
          let none : None ≡ get_or machine.slots lane None = sym (get_or_past machine.slots lane None past) in
          subst (λ (held : Option Flight). IsPlaceOf table keys held place) none tt
          )
    ]
  where
    of_held : (held : Option Flight) → IfSome held (IsOnWay table keys machine.given) →
        GoesBy table keys held word byte → IsPlaceOf table keys held place
    of_held None on goes = tt
    of_held (Some flight) on goes =
        is (ap (λ (w : ℕ). is_node w) goes.0 ∙ node_of table flight.trie flight.depth flight.word on.word)
        ∙ (λ i. next_place (goes.0 i) (goes.1 i))

-- what holds of four lanes holds of each
pub each_of_four : (P : ℕ → Type 0) → P 0 → P 1 → P 2 → P 3 → (k : ℕ) → k < 4 → P k
each_of_four P first second third fourth zero h = first
each_of_four P first second third fourth (suc zero) h = second
each_of_four P first second third fourth (suc (suc zero)) h = third
each_of_four P first second third fourth (suc (suc (suc zero))) h = fourth
each_of_four P first second third fourth (suc (suc (suc (suc k)))) h = absurd (omega (arith, h))
