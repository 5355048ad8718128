-- The walk of one key, in the terms of the code.
use Rattle.std.proofs.Common.{◌≡◌, ℕ, ◌+◌, ◌<◌, ◌≤◌, ◌^◌, true, false, List, refl, sym, ap, ◌∙◌, arith, subst, length}
use Rattle.std.proofs.Common.{inl, inr}
use Rattle.std.specs.Prelude.{slice_index}
use Rattle.std.proofs.Math.Nat.{eq-or-lt_of_le}
use Rattle.std.proofs.lemmas.Bool.Decides.{nat_tests}
use Rattle.flat_table.specs.Word.{index_of, is_match, is_node, next_place}
use Rattle.flat_table.specs.Table.{level_of, places_of}
use Rattle.flat_table.specs.declared.level.Level.{Level}
use Rattle.flat_table.specs.Sound.{leads_into}
use Rattle.flat_table.specs.Walk.{root_of, moved, transitions_after, walk_row, walk_transitions}
use Rattle.flat_table.proofs.Offered.{Stands, begins, ends_at_match, transitions_at_match, row_at_match}
use Rattle.scalar_walk.proofs.Ways.{Way, IsWay, Step, step, count_of_places, place_in_key}

-- a walk of one key that stands at the word after n bytes, and has taken a word for each
pub record Walks (way : Way) (key : List ℕ) (n word : ℕ) : Type 0 where
  pub is_way : IsWay way
  pub fits : length key ≡ way.table.key_len
  pub bytes : (k : ℕ) → slice_index key k < 2 ^ 8
  pub stands : Stands way.table way.trie key n word
  pub steps : transitions_after way.table way.trie key n ≡ n
  pub within : n ≤ length (places_of way.table way.trie)

-- it begins at the root
pub root_walks : {way : Way} → IsWay way → (key : List ℕ) (word : ℕ) → length key ≡ way.table.key_len →
    ((k : ℕ) → slice_index key k < 2 ^ 8) → word ≡ root_of way.table way.trie → Walks way key 0 word
root_walks {way = way} w key word fits bytes is = record {
  is_way = w;
  fits = fits;
  bytes = bytes;
  stands = rw is (begins way.table way.trie key w.sound w.there);
  steps = refl;
  within = omega arith;
}

-- what leads into a level leads to a node
pub leads_to_node : (level : Level) (word : ℕ) → leads_into level word ≡ true → is_node word ≡ true
leads_to_node level word leads = grind (arith, nat_tests)

module _ {way : Way} {key : List ℕ} {n word : ℕ} (w : Walks way key n word) where
  -- where no match stands, a node does, and there is a place more
  pub at_node : is_match word ≡ false → is_node word ≡ true
  at_node no_match = leads_to_node (level_of way.table way.trie n) word (w.stands.level no_match)

  -- a walk that isn't at a match has a place to read
  pub one_more : is_match word ≡ false → n < length way.places
  one_more no_match =
      elim (eq-or-lt_of_le w.within) [
        | inl e ↦
            let stands = subst (λ (k : ℕ). Stands way.table way.trie key k word) e w.stands in
            let match = ends_at_match way.table way.trie key w.is_way.sound w.is_way.there word stands in
            absurd (cc (match, no_match))
        | inr below ↦ omega (arith, below, count_of_places way w.is_way)
      ]

  -- the next byte is one of the key
  pub byte_there : {place : ℕ} → is_match word ≡ false → place ≡ slice_index way.places n → place < length key
  byte_there {place = place} no_match is =
      omega (arith, w.fits, place_in_key w.is_way n place (one_more no_match) is)

  -- it leads to a word of the table, at which the walk stands then
  next_step : (place : ℕ) → is_match word ≡ false → place ≡ slice_index way.places n →
      Step way key n place (slice_index key place) word
  next_step place no_match is = step w.is_way key n place (slice_index key place) word (one_more no_match) is refl
      (w.bytes place) w.stands

  -- the place to which the byte leads has a word of the table
  pub word_there : {place at : ℕ} → is_match word ≡ false → place ≡ slice_index way.places n →
      at ≡ next_place word (slice_index key place) → at < length way.words
  word_there {place = place} no_match is at_is = omega (arith, at_is, (next_step place no_match is).in_words no_match)

  -- and the walk stands at that word then
  pub walks_on : {place at : ℕ} → is_match word ≡ false → place ≡ slice_index way.places n →
      at ≡ next_place word (slice_index key place) → Walks way key (n + 1) (slice_index way.words at)
  walks_on {place = place} {at = at} no_match is at_is =
      let s = next_step place no_match is in
      let same : moved way.words word (slice_index key place) ≡ slice_index way.words at = rw (no_match, at_is) refl in
      record {
        is_way = w.is_way;
        fits = w.fits;
        bytes = w.bytes;
        stands = subst (λ (v : ℕ). Stands way.table way.trie key (n + 1) v) same s.next;
        steps = rw no_match at s.steps ∙ ap (λ (k : ℕ). k + 1) w.steps;
        within = omega (arith, one_more no_match, count_of_places way w.is_way);
      }

  -- a match ends it
  pub row_of_match : is_match word ≡ true → index_of word ≡ walk_row way.table way.trie key
  row_of_match match =
      ap index_of w.stands.is ∙ sym (row_at_match way.table way.trie key n (rw (sym w.stands.is) match))

  -- a walk that is at a match has taken all its transitions
  pub transitions_of_match : is_match word ≡ true → n ≡ walk_transitions way.table way.trie key
  transitions_of_match match =
      sym (transitions_at_match way.table way.trie key n (rw (sym w.stands.is) match) ∙ w.steps)
