-- In a list where no entry asks all that an unsure one before it asks, every category's answer is some oracle's.
use Rattle.std.proofs.Common.{◌≡◌, ℕ, List, [], ◌∷◌, Bool, true, false, not, ◌||◌}
use Rattle.std.proofs.Common.{Some, refl, sym, ◌∙◌, inl, inr}
use Rattle.std.specs.List.{list_any, list_all}
use Rattle.std.proofs.lemmas.Bool.{cases_Bool, and_parts}
use Rattle.list_chains.specs.Flat.{Entry, first_answer}
use Rattle.chain_conditions.specs.Conditions.{Conditional, holds_by, is_none, is_sure}
use Rattle.chain_conditions.specs.Conditions.{takes_part, category, only, witnessed}
use Rattle.chain_conditions.specs.Laws.{is_answer, is_clear, ClearListsAreExact}
use Rattle.chain_conditions.proofs.Conditions.{only_holds, any_map, eqb_self, and_false, or_true}

module _ {B : Type 0} (holds : B → Bool) (test : ℕ → Bool) where
  -- an entry whose conditions alone give an answer
  record Reached (entries : List (Entry (Conditional B))) (answer : ℕ) : Type 0 where
    entry : Entry (Conditional B)
    there : (test : Entry (Conditional B) → Bool) → test entry ≡ true → list_any test entries ≡ true
    all : (test : Entry (Conditional B) → Bool) → list_all test entries ≡ true → test entry ≡ true
    gives : first_answer (holds_by holds (only entry.box.conditions)) entries ≡ Some answer

  reached : (entries : List (Entry (Conditional B))) (answer : ℕ) → is_clear entries ≡ true →
      first_answer holds (category test entries) ≡ Some answer → Reached entries answer
  reached [] answer clear first = absurd (cc)
  reached (x ∷ xs) answer clear first =
      let parts = and_parts _ (is_clear xs) clear in
      elim (cases_Bool (holds x.box.box)) [
        | inl h ↦ elim (cases_Bool (is_none x.box.conditions)) [
          | inl s ↦ here h (first_of h (rw s refl))
          | inr s ↦ elim (cases_Bool (test x.userdata)) [
            | inl t ↦ here h (first_of h (rw (s, t) refl))
            | inr t ↦ later (λ r.
                unheld _ (r.all _ parts.0) s) (reached xs answer parts.1 (skipped (rw (s, t) refl)))
          ]
        ]
        | inr h ↦ elim (cases_Bool (takes_part test x)) [
          | inl t ↦ later (λ r. rw h refl) (reached xs answer parts.1 (passed h t))
          | inr t ↦ later (λ r. rw h refl) (reached xs answer parts.1 (skipped t))
        ]
      ]
    where
      first_of : holds x.box.box ≡ true → takes_part test x ≡ true → Some x.userdata ≡ Some answer
      first_of h t = sym (rw (t, h) refl) ∙ first

      skipped : takes_part test x ≡ false → first_answer holds (category test xs) ≡ Some answer
      skipped t = sym (rw t refl) ∙ first

      passed : holds x.box.box ≡ false → takes_part test x ≡ true → first_answer holds (category test xs) ≡ Some answer
      passed h t = sym (rw (t, h) refl) ∙ first

      here : holds x.box.box ≡ true → Some x.userdata ≡ Some answer → Reached (x ∷ xs) answer
      here h is = record {
        entry = x;
        there = λ test e. rw e refl;
        all = λ test e. (and_parts (test x) (list_all test xs) e).0;
        gives = rw (h, only_holds x.box.conditions) is;
      }

      unheld : (conditions : List ℕ) → (is_sure x || not (list_all (only conditions) x.box.conditions)) ≡ true →
          is_none x.box.conditions ≡ false → holds_by holds (only conditions) x.box ≡ false
      unheld conditions e s = elim (cases_Bool (list_all (only conditions) x.box.conditions)) [
        | inl o ↦ absurd (let no : false ≡ true = sym (rw (s, o) refl) ∙ e in cc)
        | inr o ↦ rw (o, and_false (holds x.box.box)) refl
      ]

      later : ((r : Reached xs answer) → holds_by holds (only r.entry.box.conditions) x.box ≡ false) →
          Reached xs answer → Reached (x ∷ xs) answer
      later apart r = record {
        entry = r.entry;
        there = λ test e. rw (r.there test e) (or_true (test x));
        all = λ test e. r.all test (and_parts (test x) (list_all test xs) e).1;
        gives = rw (apart r) r.gives;
      }

-- so each category's answer is possible
pub clear_lists_are_exact : {B : Type 0} → ClearListsAreExact B
clear_lists_are_exact {B} holds test entries answer clear first =
    let r = reached holds test entries answer clear first in
    any_map (is_answer answer) (witnessed holds entries) entries
    ∙ r.there (λ entry. is_answer answer (witnessed holds entries entry)) (rw r.gives (eqb_self answer))
