-- The first element of a list, seen through a function, that is one: what the next one decides, and what
-- is decided where none is left.
use Rattle.std.proofs.Common.{◌≡◌, ℕ, ◌+◌, ◌<◌, ◌≤◌, Bool, true, false, cond, List, length, map}
use Rattle.std.proofs.Common.{drop, get_or, Some, None, ap, ◌∙◌}
use Rattle.std.specs.List.{find}
use Rattle.std.proofs.lemmas.List.{drop_all}
use Rattle.list_lemmas.proofs.Loops.{left_is}

module _ {X Y : Type 0} (f : X → Y) (p : Y → Bool) (xs : List X) (k : ℕ) where
  -- this one
  pub find_here : (x : X) → k < length xs → x ≡ get_or xs k x → p (f x) ≡ true →
      find p (map f (drop k xs)) ≡ Some (f x)
  find_here x below is holds =
      ap (λ ys. find p (map f ys)) (left_is xs k x below is)
      ∙ ap (λ it. cond it (Some (f x)) (find p (map f (drop (k + 1) xs)))) holds

  -- one of those after it
  pub find_more : (x : X) → k < length xs → x ≡ get_or xs k x → p (f x) ≡ false →
      find p (map f (drop k xs)) ≡ find p (map f (drop (k + 1) xs))
  find_more x below is fails =
      ap (λ ys. find p (map f ys)) (left_is xs k x below is)
      ∙ ap (λ it. cond it (Some (f x)) (find p (map f (drop (k + 1) xs)))) fails

  -- none is left
  pub find_end : length xs ≤ k → find p (map f (drop k xs)) ≡ None
  find_end end = ap (λ ys. find p (map f ys)) (drop_all k xs end)
