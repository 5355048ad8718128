-- A walk goes transition by transition.
use Rattle.std.proofs.Common.{◌≡◌, ℕ, suc, ◌+◌, ◌<◌, ◌≤◌, true, List, [], ◌∷◌, ◌++◌, refl, sym, ap, ◌∙◌, arith, inl}
use Rattle.std.proofs.Common.{inr, fold, take, drop, length}
use Rattle.std.specs.Prelude.{if◌then◌else◌, slice_index}
use Rattle.std.proofs.lemmas.Bool.{cases_Bool}
use Rattle.std.proofs.lemmas.List.{length-map, map_more, take-map, take_all, take-append-drop}
use Rattle.std.proofs.lemmas.List.Sums.{fold-append}
use Rattle.flat_table.specs.Word.{index_of, is_match, next_word}
use Rattle.flat_table.specs.Table.{TableView, places_of}
use Rattle.flat_table.specs.Walk.{transitions, moved, last_word, root_of, bytes_of, word_after, transitions_after}
use Rattle.flat_table.specs.Walk.{walk_row, walk_transitions}

-- a match stays, whatever bytes follow
pub match_stays : (words : List ℕ) (word : ℕ) (bytes : List ℕ) → is_match word ≡ true → fold (moved words) word bytes
    ≡ word
match_stays words word [] e = refl
match_stays words word (byte ∷ bytes) e = rw e (match_stays words word bytes e)

-- the last transition leads to the word that stands after all bytes
last_transition : (words : List ℕ) (word : ℕ) (bytes : List ℕ) →
    last_word word (transitions words word bytes) ≡ fold (moved words) word bytes
last_transition words word [] = refl
last_transition words word (byte ∷ bytes) =
    elim (cases_Bool (is_match word)) [
      | inl w ↦ rw w (sym (match_stays words word bytes w))
      | inr w ↦ rw w
          (last_transition words (next_word words word byte) bytes)
    ]

-- the number after a sum is the sum with the number after its first part
suc_plus : (m n : ℕ) → suc (m + n) ≡ suc m + n
suc_plus m n = omega arith

-- one more byte costs a transition where no match stands
transitions_push : (words : List ℕ) (word byte : ℕ) (bytes : List ℕ) →
    length (transitions words word (bytes ++ byte ∷ [])) ≡ length (transitions words word bytes) +
    (if is_match (fold (moved words) word bytes) then 0 else 1)
transitions_push words word byte [] = elim (cases_Bool (is_match word)) [ inl w ↦ rw w refl | inr w ↦ rw w refl ]
transitions_push words word byte (first ∷ bytes) =
    elim (cases_Bool (is_match word)) [
      | inl w ↦ rw w (rw (match_stays words word bytes w) (rw w refl))
      | inr w ↦ rw w (ap suc (transitions_push words (next_word words word first) byte bytes) ∙ suc_plus _ _)
    ]

-- a walk takes at most a transition for each byte
transitions_below : (words : List ℕ) (word : ℕ) (bytes : List ℕ) → length (transitions words word bytes) ≤ length bytes
transitions_below words word [] = omega arith
transitions_below words word (byte ∷ bytes) =
    elim (cases_Bool (is_match word)) [
      | inl w ↦ rw w (omega arith)
      | inr w ↦ rw w
          (omega (arith, transitions_below words (next_word words word byte) bytes))
    ]

module _ (table : TableView) (trie : ℕ) (key : List ℕ) where
  -- a walk reads a byte for each kept place
  pub bytes_len : length (bytes_of table trie key) ≡ length (places_of table trie)
  bytes_len = length-map (places_of table trie) (λ place. slice_index key place)

  -- as many first bytes as there are kept places are all bytes of the walk
  all_bytes : take (length (places_of table trie)) (bytes_of table trie key) ≡ bytes_of table trie key
  all_bytes = take_all (length (places_of table trie)) (bytes_of table trie key) (omega (arith, bytes_len))

  -- the row of a walk is that of the word after its last byte
  pub row_is : walk_row table trie key ≡ index_of (word_after table trie key (length (places_of table trie)))
  row_is = ap index_of (last_transition table.words (root_of table trie) (bytes_of table trie key)
      ∙ ap (λ (bytes : List ℕ). fold (moved table.words) (root_of table trie) bytes) (sym all_bytes))

  -- the transitions of a walk are those up to its last byte
  pub transitions_are : walk_transitions table trie key
      ≡ transitions_after table trie key (length (places_of table trie))
  transitions_are = ap (λ (bytes : List ℕ). length (transitions table.words (root_of table trie) bytes)) (sym all_bytes)

  -- a walk has at most one transition for each kept place
  pub transitions_bound : walk_transitions table trie key ≤ length (places_of table trie)
  transitions_bound =
      omega (arith, transitions_below table.words (root_of table trie) (bytes_of table trie key), bytes_len)

  -- one more place adds its byte of the key
  bytes_more : (n : ℕ) → n < length (places_of table trie) →
      take (n + 1) (bytes_of table trie key) ≡ take n (bytes_of table trie key) ++ slice_index key
      (slice_index (places_of table trie) n) ∷ []
  bytes_more n lt =
      take-map (λ place. slice_index key place) (n + 1) (places_of table trie)
      ∙ map_more (λ place. slice_index key place) (places_of table trie) n 0 lt
      ∙ ap (λ (bytes : List ℕ). bytes ++ slice_index key (slice_index (places_of table trie) n) ∷ [])
      (sym (take-map (λ place. slice_index key place) n (places_of table trie)))

  -- the word after one more byte is that to which the byte leads
  pub word_more : (n place : ℕ) → n < length (places_of table trie) → place ≡ slice_index (places_of table trie) n →
      word_after table trie key (n + 1) ≡ moved table.words (word_after table trie key n) (slice_index key place)
  word_more n place lt e =
      ap (λ (bytes : List ℕ). fold (moved table.words) (root_of table trie) bytes) (bytes_more n lt)
      ∙ fold-append (moved table.words) (root_of table trie) (take n (bytes_of table trie key))
      (slice_index key (slice_index (places_of table trie) n) ∷ [])
      ∙ ap (λ (p : ℕ). moved table.words (word_after table trie key n) (slice_index key p)) (sym e)

  -- one more byte is one more transition, unless a match stood before it
  pub transition_more : (n : ℕ) → n < length (places_of table trie) →
      transitions_after table trie key (n + 1) ≡ transitions_after table trie key n +
      (if is_match (word_after table trie key n) then 0 else 1)
  transition_more n lt =
      ap (λ (bytes : List ℕ). length (transitions table.words (root_of table trie) bytes)) (bytes_more n lt)
      ∙ transitions_push table.words (root_of table trie) (slice_index key (slice_index (places_of table trie) n))
      (take n (bytes_of table trie key))

-- after a match there are no more
transitions_rest : (words : List ℕ) (word : ℕ) (bytes more : List ℕ) → is_match (fold (moved words) word bytes) ≡ true →
    length (transitions words word (bytes ++ more)) ≡ length (transitions words word bytes)
transitions_rest words word [] [] e = refl
transitions_rest words word [] (byte ∷ more) e = rw e refl
transitions_rest words word (byte ∷ bytes) more e =
    elim (cases_Bool (is_match word)) [
      | inl w ↦ rw w refl
      | inr w ↦ rw w
          (ap suc (transitions_rest words (next_word words word byte) bytes more (rw w at e)))
    ]

-- where a match stands after some bytes, the walk has ended there
module _ (table : TableView) (trie : ℕ) (key : List ℕ) (n : ℕ) (match : is_match (word_after table trie key n) ≡ true)
  where
    cut_bytes : take n (bytes_of table trie key) ++ drop n (bytes_of table trie key) ≡ bytes_of table trie key
    cut_bytes = take-append-drop n (bytes_of table trie key)

    pub transitions_at_match : walk_transitions table trie key ≡ transitions_after table trie key n
    transitions_at_match =
        ap (λ (bytes : List ℕ). length (transitions table.words (root_of table trie) bytes)) (sym cut_bytes)
        ∙ transitions_rest table.words (root_of table trie) (take n (bytes_of table trie key))
        (drop n (bytes_of table trie key)) match

    pub row_at_match : walk_row table trie key ≡ index_of (word_after table trie key n)
    row_at_match =
        ap index_of
        (last_transition table.words (root_of table trie) (bytes_of table trie key)
        ∙ ap (λ (bytes : List ℕ). fold (moved table.words) (root_of table trie) bytes) (sym cut_bytes)
        ∙ fold-append (moved table.words) (root_of table trie) (take n (bytes_of table trie key))
        (drop n (bytes_of table trie key))
        ∙ match_stays table.words (word_after table trie key n) (drop n (bytes_of table trie key)) match)
