-- Loops over the views of a list that make a value of each element, one after the other.
use Rattle.std.proofs.Common.{◌≡◌, ℕ, ◌+◌, ◌<◌, ◌≤◌, List, length, map, drop, fold, get_or, ap, sym, ◌∙◌}
use Rattle.std.proofs.lemmas.List.{drop_all}
use Rattle.list_lemmas.proofs.Loops.{left_is}

-- those that are left make of what was made what all make
pub record Made {A X Y : Type 0} (step : A → Y → A) (f : X → Y) (xs : List X) (k : ℕ) (start made : A) :
    Type 0 where
  pub is : fold step start (map f xs) ≡ fold step made (map f (drop k xs))

module _ {A X Y : Type 0} {step : A → Y → A} {f : X → Y} {xs : List X} {k : ℕ} {start made : A} where
  -- the element of the turn makes more
  pub made_more : (d : X) {x : X} {more : A} → Made step f xs k start made → k < length xs → x ≡ get_or xs k d →
      more ≡ step made (f x) → Made step f xs (k + 1) start more
  made_more d {x} so_far below is makes = record {
    is = so_far.is
        ∙ ap (λ ys. fold step made (map f ys)) (left_is xs k d below is)
        ∙ ap (λ it. fold step it (map f (drop (k + 1) xs))) (sym makes);
  }

  -- none is left
  pub made_all : Made step f xs k start made → length xs ≤ k → made ≡ fold step start (map f xs)
  made_all so_far end =
      sym (so_far.is ∙ ap (λ ys. fold step made (map f ys)) (drop_all k xs end))
