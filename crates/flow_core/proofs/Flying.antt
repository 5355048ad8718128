-- A flight on its way: the word that it takes next.
use Rattle.std.proofs.Common.{◌≡◌, ℕ, ◌+◌, ◌*◌, ◌<◌, ◌≤◌, List, sym, ap, ◌∙◌, refl, arith, length, drop, true}
use Rattle.std.proofs.Common.{false, inl, inr, subst}
use Rattle.std.specs.Prelude.{slice_index, None}
use Rattle.std.proofs.lemmas.Bool.{cases_lt}
use Rattle.std.proofs.lemmas.Bool.Decides.{nat_tests}
use Rattle.std.proofs.lemmas.List.{get_or_past}
use Rattle.std.proofs.lemmas.List.Elements.{All-take, All-drop, All-get_or}
use Rattle.std.proofs.Math.Nat.{eq-or-lt_of_le}
use Rattle.flat_table.specs.Word.{index_of, is_match}
use Rattle.flat_table.specs.declared.level.Level.{Level}
use Rattle.flat_table.specs.Table.{TableView, level_of, places_of}
use Rattle.flat_table.specs.Sound.{leads_into, sound_fault}
use Rattle.flat_table.specs.Walk.{moved, root_of, walk_row}
use Rattle.flat_table.specs.Batch.{key_at}
use Rattle.flat_table.specs.Laws.{WalksStay}
use Rattle.flat_table.proofs.Offered.{Stands, goes, ends_at_match, row_at_match}
use Rattle.flow_core.specs.declared.flight.Flight.{Flight}
use Rattle.flow_core.specs.Jobs.{job_count, job_at}
use Rattle.flow_core.specs.Machine.{begun, byte_of, word_of, moved_to}
use Rattle.flow_core.specs.Standing.{job_of}
use Rattle.flow_core.specs.Invariant.{IsInWalk}
use Rattle.flow_core.specs.Laws.{AreBytes}
use Rattle.flow_core.proofs.Given.{given_out, now_given, trie_there}

-- what leads into a level is no match
pub node_is_no_match : (level : Level) (word : ℕ) → leads_into level word ≡ true → is_match word ≡ false
node_is_no_match level word leads = grind (arith, nat_tests)

-- each byte of a key is a byte
pub byte_below : (table : TableView) (keys : List ℕ) (k place : ℕ) → AreBytes keys →
    slice_index (key_at table keys k) place < 256
byte_below table keys k place bytes =
    let key : List ℕ = key_at table keys k in
    elim (cases_lt place (length key)) [
      | inl within ↦ All-get_or (λ byte. byte < 256) key place 0 within
          (All-take (λ byte. byte < 256) table.key_len (drop (k * table.key_len) keys)
          (All-drop (λ byte. byte < 256) (k * table.key_len) keys bytes))
      | inr past ↦ omega (arith, get_or_past key place 0 past)
    ]

-- what the next word is of a flight that stands at the word of its walk
pub record Takes (table : TableView) (keys : List ℕ) (given : ℕ) (flight : Flight) : Type 0 where
  pub row : is_match (word_of table keys flight) ≡ true →
      index_of (word_of table keys flight) ≡ walk_row table flight.trie (key_at table keys flight.key)
  pub node : is_match (word_of table keys flight) ≡ false →
      IsInWalk table keys given (moved_to (word_of table keys flight) flight)

module _ (table : TableView) (keys : List ℕ) (sound : sound_fault table ≡ None) where
  -- a flight in its walk takes the next word of the walk
  pub takes : (given : ℕ) (flight : Flight) → AreBytes keys → IsInWalk table keys given flight →
      Takes table keys given flight
  takes given flight bytes f =
      let key : List ℕ = key_at table keys flight.key in
      let place : ℕ = slice_index (places_of table flight.trie) flight.depth in
      let byte : ℕ = byte_of table keys flight in
      let word : ℕ = word_of table keys flight in
      let trie_there = (given_out table keys given (job_of flight) f.on_way.job).trie in
      let no_match = node_is_no_match (level_of table flight.trie flight.depth) flight.word f.on_way.word in
      let stands : Stands table flight.trie key flight.depth flight.word = record {
        is = f.word;
        row = λ match. cc (match, no_match);
        level = λ _. f.on_way.word;
      } in
      let g = goes table flight.trie key sound trie_there flight.depth place byte flight.word f.on_way.depth refl refl
      (byte_below table keys flight.key place bytes) stands in
      let same : moved table.words flight.word byte ≡ word = rw no_match refl in
      let next : Stands table flight.trie key (flight.depth + 1) word =
      subst (λ (w : ℕ). Stands table flight.trie key (flight.depth + 1) w) same g.next in
      record {
        row = λ match. ap index_of next.is ∙ sym (row_at_match table flight.trie key (flight.depth + 1)
            (rw (sym next.is) match));
        node = λ on. elim (eq-or-lt_of_le (let le : flight.depth + 1 ≤ length (places_of table flight.trie) =
            omega (arith, f.on_way.depth) in le)) [
              | inl all ↦ (
                  let last = subst (λ (n : ℕ). Stands table flight.trie key n word) all next in
                  absurd (cc (ends_at_match table flight.trie key sound trie_there word last, on))
                  )
              | inr more ↦ record {
                on_way = record { job = f.on_way.job; depth = more; word = next.level on };
                word = next.is;
              }
            ];
      }

  -- what leads into a level of a trie leads into one that it has
  pub level_there : WalksStay → (trie depth word : ℕ) → trie < length table.roots →
      leads_into (level_of table trie depth) word ≡ true → depth < length (places_of table trie)
  level_there stay trie depth word there leads = elim (cases_lt depth (length (places_of table trie))) [
    | inl within ↦ within
    | inr past ↦ absurd (cc (leads, stay.last table trie depth word past there sound))
  ]

  -- the flight of a job that was just given out stands at the root
  pub flies : WalksStay → (given : ℕ) → given < job_count table keys →
      IsInWalk table keys (given + 1) (begun table (job_at table given))
  flies stay given few =
      let trie : ℕ = (job_at table given).trie in
      let there = trie_there table keys given few in
      let leads = stay.root table trie sound there in
      record {
        on_way = record {
          job = now_given table keys given few;
          depth = level_there stay trie 0 (root_of table trie) there leads;
          word = leads;
        };
        word = refl;
      }
