-- No word begins with two names of options of which neither begins with the other.
use Rattle.std.proofs.Common.{◌≡◌, ℕ, suc, zero, List, [], ◌∷◌, Bool, true, false, refl, sym, ap, ◌∙◌, length, take}
use Rattle.std.specs.Str.{bytes_eq}
use Rattle.std.proofs.lemmas.Bool.{false≢true}
use Rattle.std.proofs.lemmas.Slice.Eq.{bytes_eq-Decides}
use Rattle.command_words.specs.Options.{begins_with}

-- one of two names begins with the other
abbrev pub meet : List ℕ → List ℕ → Bool
meet one other = bytes_eq (take (length other) one) (take (length one) other)

-- of two cuts either may come first
take_takes : (m n : ℕ) (word : List ℕ) → take m (take n word) ≡ take n (take m word)
take_takes zero zero word = refl
take_takes zero (suc n) [] = refl
take_takes zero (suc n) (x ∷ word) = refl
take_takes (suc m) zero [] = refl
take_takes (suc m) (suc n) [] = refl
take_takes (suc m) zero (x ∷ word) = refl
take_takes (suc m) (suc n) (x ∷ word) = ap (λ (rest : List ℕ). x ∷ rest) (take_takes m n word)

-- a word that begins with a name has it in front
in_front : (name word : List ℕ) → begins_with name word ≡ true → take (length name) word ≡ name
in_front name word begins = (bytes_eq-Decides (take (length name) word) name).0 begins

-- no word begins with two names that don't meet
pub no_two_names : (one other word : List ℕ) → meet one other ≡ false → begins_with one word ≡ true →
    begins_with other word ≡ true → ⊥
no_two_names one other word apart begins also =
    false≢true (sym apart
    ∙ (bytes_eq-Decides (take (length other) one) (take (length one) other)).1
    (ap (take (length other)) (sym (in_front one word begins))
    ∙ take_takes (length other) (length one) word
    ∙ ap (take (length one)) (in_front other word also)))
