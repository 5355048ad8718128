-- One byte of a walk, in the terms of the code: a walk goes by lists that equal those of the table.
use Rattle.std.proofs.Common.{◌≡◌, ℕ, ◌+◌, ◌<◌, ◌^◌, true, false, None, List, sym, ap, ◌∙◌, arith, subst, length, []}
use Rattle.std.specs.Prelude.{slice_index, if◌then◌else◌}
use Rattle.flat_table.specs.Word.{is_match, is_node, next_place}
use Rattle.flat_table.specs.Table.{TableView, places_of}
use Rattle.flat_table.specs.Sound.{sound_fault}
use Rattle.flat_table.specs.Walk.{moved, transitions_after}
use Rattle.flat_table.proofs.Offered.{Stands, place_below, goes}

-- what a walk goes by: a trie of a table, its places and the words
pub record Way : Type 0 where
  pub table : TableView
  pub trie : ℕ
  pub places : List ℕ
  pub words : List ℕ

-- the table is sound, and the places and words are its own
pub record IsWay (way : Way) : Type 0 where
  pub sound : sound_fault way.table ≡ None
  pub there : way.trie < length way.table.roots
  pub places_are : way.places ≡ places_of way.table way.trie
  pub words_are : way.words ≡ way.table.words

-- there are as many places as the trie has
pub count_of_places : (way : Way) → IsWay way → length way.places ≡ length (places_of way.table way.trie)
count_of_places way w = ap length w.places_are

-- each place is one of the key
pub place_in_key : {way : Way} → IsWay way → (n place : ℕ) → n < length way.places → place ≡ slice_index way.places n →
    place < way.table.key_len
place_in_key {way = way} w n place within is =
    omega (
      arith,
      is ∙ ap (λ (xs : List ℕ). slice_index xs n) w.places_are,
      place_below way.table way.trie [] w.sound w.there n (omega (arith, within, count_of_places way w)),
    )

-- what the byte at the place brings a walk of the key that stands at the word after n bytes
pub record Step (way : Way) (key : List ℕ) (n place byte word : ℕ) : Type 0 where
  pub node : is_match word ≡ false → is_node word ≡ true
  pub in_words : is_match word ≡ false → next_place word byte < length way.words
  pub next : Stands way.table way.trie key (n + 1) (moved way.words word byte)
  pub steps : transitions_after way.table way.trie key (n + 1)
      ≡ transitions_after way.table way.trie key n + (if is_match word then 0 else 1)

-- a byte brings a walk from the word where it stands to the next one
pub step : {way : Way} → IsWay way → (key : List ℕ) (n place byte word : ℕ) → n < length way.places →
    place ≡ slice_index way.places n → byte ≡ slice_index key place → byte < 2 ^ 8 →
    Stands way.table way.trie key n word → Step way key n place byte word
step {way = way} w key n place byte word within place_is byte_is small stands =
    let h : n < length (places_of way.table way.trie) = omega (arith, within, count_of_places way w) in
    let e : place ≡ slice_index (places_of way.table way.trie) n = place_is
    ∙ ap (λ (xs : List ℕ). slice_index xs n) w.places_are in
    let g = goes way.table way.trie key w.sound w.there n place byte word h e byte_is small stands in
    record {
      node = g.node;
      in_words = λ no_match. omega (arith, g.there no_match, ap (λ (xs : List ℕ). length xs) w.words_are);
      next = subst (λ (xs : List ℕ). Stands way.table way.trie key (n + 1) (moved xs word byte))
          (sym w.words_are) g.next;
      steps = g.steps;
    }
