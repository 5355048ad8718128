-- A walk that stands at no match took a transition for each byte.
use Rattle.std.proofs.Common.{◌≡◌, ℕ, zero, suc, ◌+◌, ◌<◌, ◌≤◌, List, ap, ◌∙◌, refl, arith, length, false, inl, inr}
use Rattle.std.proofs.Common.{add-one}
use Rattle.std.specs.Prelude.{slice_index}
use Rattle.std.proofs.lemmas.Bool.{cases_Bool}
use Rattle.flat_table.specs.Word.{is_match}
use Rattle.flat_table.specs.Table.{TableView, places_of}
use Rattle.flat_table.specs.Walk.{word_after, transitions_after, walk_transitions}
use Rattle.flat_table.specs.Laws.{WalksGoStepByStep}

module _ (law : WalksGoStepByStep) (table : TableView) (trie : ℕ) (key : List ℕ) where
  -- before a word that is no match there was none
  none_before : (n : ℕ) → n < length (places_of table trie) →
      is_match (word_after table trie key (n + 1)) ≡ false → is_match (word_after table trie key n) ≡ false
  none_before n within no_match = elim (cases_Bool (is_match (word_after table trie key n))) [
    | inl match ↦ (
        let stays : word_after table trie key (n + 1) ≡ word_after table trie key n =
        rw match at (law.word_more table trie key n (slice_index (places_of table trie) n) within refl) in
        absurd (cc (match, ap (λ (w : ℕ). is_match w) stays, no_match))
        )
    | inr other ↦ other
  ]

  -- a walk that stands at no match after n bytes took n transitions
  taken_so_far : (n : ℕ) → n ≤ length (places_of table trie) → is_match (word_after table trie key n) ≡ false →
      transitions_after table trie key n ≡ n
  taken_so_far zero within no_match = (law.begin table trie key).1
  taken_so_far (suc n) within no_match =
      let below : n < length (places_of table trie) = omega (arith, within) in
      let before = none_before n below
      (ap (λ (m : ℕ). is_match (word_after table trie key m)) (add-one n) ∙ no_match) in
      let more : transitions_after table trie key (n + 1) ≡ transitions_after table trie key n + 1 =
      rw before at (law.transition_more table trie key n below) in
      omega (
        arith,
        ap (λ (m : ℕ). transitions_after table trie key m) (add-one n),
        more,
        taken_so_far n (omega (arith, within)) before,
      )

  -- one byte more costs one more
  pub taken_next : (n : ℕ) → n < length (places_of table trie) → is_match (word_after table trie key n) ≡ false →
      transitions_after table trie key (n + 1) ≡ n + 1
  taken_next n within no_match =
      let more : transitions_after table trie key (n + 1) ≡ transitions_after table trie key n + 1 =
      rw no_match at (law.transition_more table trie key n within) in
      omega (arith, more, taken_so_far n (omega (arith, within)) no_match)

  -- the whole walk takes no fewer than it took so far
  pub taken_at_least : (n rest : ℕ) → n + rest ≡ length (places_of table trie) →
      transitions_after table trie key n ≤ walk_transitions table trie key
  taken_at_least n zero all =
      let is : n ≡ length (places_of table trie) = omega (arith, all) in
      omega (arith, ap (λ (m : ℕ). transitions_after table trie key m) is, law.transitions table trie key)
  taken_at_least n (suc rest) all = omega (
    arith,
    law.transition_more table trie key n (omega (arith, all)),
    taken_at_least (n + 1) rest (omega (arith, all)),
  )
