-- A lane before and after a step.
use Rattle.std.proofs.Common.{◌≡◌, ℕ, ◌+◌, ◌*◌, ◌%◌, ◌<◌, ◌≤◌, ◌^◌, ltb, cond, true, false, List, ap, ◌∙◌, arith}
use Rattle.std.proofs.Common.{inl, inr, Bool}
use Rattle.std.specs.Prelude.{slice_index}
use Rattle.std.proofs.lemmas.Bool.{cases_Bool}
use Rattle.std.proofs.lemmas.Bool.Decides.{nat_tests}
use Rattle.flat_table.specs.Word.{is_match, is_node, kind_of, next_place}
use Rattle.scalar_walk.specs.Rows.{CanGoOn, CanTake, GoesOn, ReadsAt, Takes}

-- a match has a great low half
match_is_great : (low high : ℕ) → low < 2 ^ 32 → is_match (low + 2 ^ 32 * high) ≡ true → ltb low 2147483648 ≡ false
match_is_great low high small match =
    let kind : kind_of (low + 2 ^ 32 * high) ≡ 4 = grind (arith, nat_tests, match) in
    let great : 2147483648 ≤ low = omega (arith, kind, small) in
    grind (arith, nat_tests, great)

-- what leads to a node has a small one
pub node_is_small : (low high : ℕ) → low < 2 ^ 32 → is_node (low + 2 ^ 32 * high) ≡ true → ltb low 2147483648 ≡ true
node_is_small low high small node =
    let kind : kind_of (low + 2 ^ 32 * high) < 4 = grind (arith, nat_tests, node) in
    let few : low < 2147483648 = omega (arith, kind, small) in
    grind (arith, nat_tests, few)

-- a count of words that is small rises by one or none
pub no_wrap : (taken : ℕ) (goes : Bool) {new : ℕ} → taken < 2 ^ 31 → new ≡ (taken + cond goes 1 0) % 2 ^ 32 →
    new ≡ taken + cond goes 1 0
no_wrap taken true few is = omega (arith, few, is)
no_wrap taken false few is = omega (arith, few, is)

-- a walk reads where its byte leads, and at a match word 0
pub reads : (low high : ℕ) {byte place read : ℕ} → low < 2 ^ 32 →
    (is_node (low + 2 ^ 32 * high) ≡ true → place ≡ next_place (low + 2 ^ 32 * high) byte) →
    read ≡ cond (ltb low 2147483648) place 0 → ReadsAt (low + 2 ^ 32 * high) byte read
reads low high small is read_is = record {
  node = λ node. rw (node_is_small low high small node) at read_is ∙ is node;
  over = λ match. rw (match_is_great low high small match) at read_is;
}

-- so it can take what it reads
pub can_take : {words : List ℕ} {word byte at taken : ℕ} → CanGoOn words word byte taken → ReadsAt word byte at →
    CanTake words word at taken
can_take {words = words} {word = word} {at = at} ready reads = record {
  node = ready.node;
  there = elim (cases_Bool (is_match word)) [
    | inl match ↦ omega (arith, ready.some, reads.over match)
    | inr way ↦ omega (arith, ready.in_words way, reads.node (ready.node way))
  ];
  few = ready.few;
}

-- and goes on by taking it
pub goes_on : {words : List ℕ} {word byte at next taken new : ℕ} → CanGoOn words word byte taken →
    ReadsAt word byte at → Takes words word at next taken new → GoesOn words word byte next taken new
goes_on {words = words} {word = word} {byte = byte} {at = at} {next = next} ready reads takes = record {
  word_is = elim (cases_Bool (is_match word)) [
    | inl match ↦ rw match (rw match at takes.word_is)
    | inr way ↦ rw way (rw way at takes.word_is ∙ ap (λ (k : ℕ). slice_index words k) (reads.node (ready.node way)))
  ];
  taken_is = takes.taken_is;
}

-- a walk takes the word that was fetched for it, and at a match it stays
pub takes : {words : List ℕ} (low high : ℕ) {at taken : ℕ} → low < 2 ^ 32 →
    CanTake words (low + 2 ^ 32 * high) at taken → (next_low next_high : ℕ) {new_low new_high new : ℕ} →
    next_low + 2 ^ 32 * next_high ≡ slice_index words at → new_low ≡ cond (ltb low 2147483648) next_low low →
    new_high ≡ cond (ltb low 2147483648) next_high high → new ≡ (taken + cond (ltb low 2147483648) 1 0) % 2 ^ 32 →
    Takes words (low + 2 ^ 32 * high) at (new_low + 2 ^ 32 * new_high) taken new
takes low high small ready next_low next_high next low_is high_is new_is =
    elim (cases_Bool (is_match (low + 2 ^ 32 * high))) [
      | inl match ↦
          let stays = match_is_great low high small match in
          record {
            word_is = rw match (omega (arith, rw stays at low_is, rw stays at high_is));
            taken_is = rw match (omega (arith, rw stays at new_is, ready.few));
          }
      | inr way ↦
          let goes = node_is_small low high small (ready.node way) in
          record {
            word_is = rw way (omega (arith, rw goes at low_is, rw goes at high_is, next));
            taken_is = rw way (omega (arith, rw goes at new_is, ready.few));
          }
    ]
