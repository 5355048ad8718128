-- What the low half of a word says of its kind.
use Rattle.std.proofs.Common.{◌≡◌, ℕ, ◌/◌, ◌%◌, ◌^◌, ◌<◌, ◌≤◌, true, false, arith, inl, inr}
use Rattle.std.proofs.lemmas.Bool.{cases_Bool}
use Rattle.std.proofs.lemmas.Bool.Decides.{nat_tests}
use Rattle.flat_table.specs.Word.{is_match, is_node, kind_of}
use Rattle.scalar_walk.specs.Lanes.{ended}

-- the kind of a word is in its low half
kind_is : (word : ℕ) → kind_of word ≡ word % 2 ^ 32 / 2 ^ 29
kind_is word = omega arith

-- a word whose low half is below that of a match is none
pub on_low : (word : ℕ) → word % 2 ^ 32 < ended → is_match word ≡ false
on_low word less =
    let kind = kind_is word in
    let few : word % 2 ^ 32 / 2 ^ 29 < 4 = omega (arith, less) in
    grind (arith, nat_tests, kind, few)

-- and one that a lane may keep is one otherwise
pub match_low : (word : ℕ) → (is_match word ≡ false → is_node word ≡ true) → ended ≤ word % 2 ^ 32 →
    is_match word ≡ true
match_low word lawful past =
    let kind = kind_is word in
    let many : 4 ≤ word % 2 ^ 32 / 2 ^ 29 = omega (arith, past) in
    elim (cases_Bool (is_match word)) [
      | inl match ↦ match
      | inr on ↦ (let node = lawful on in absurd (grind (arith, nat_tests, kind, many, node)))
    ]
