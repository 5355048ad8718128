-- Loops that may end early: what is left to do of a list, seen through a function.
use Rattle.std.proofs.Common.{◌≡◌, ℕ, ◌+◌, ◌<◌, ◌≤◌, List, [], ◌∷◌, length, map, drop, get_or, Result, Ok, refl, ap, ◌∙◌, sym}
use Rattle.std.proofs.lemmas.List.{drop_all, drop_more}
use Rattle.nft_reader.specs.Stops.{◌>>=◌, Refuses, folded}
use Rattle.nft_reader.specs.declared.fault.Stop.{Stop}
use Rattle.nft_reader.specs.declared.fault.Stop.TheVariants as stop

-- an element, and then those after it
folded_first : {A X E : Type 0} (step : A → X → Result A E) (made : A) (x : X) (xs : List X) →
    folded step made (x ∷ xs) ≡ (step made x >>= λ more. folded step more xs)
unfolding folded
folded_first step made x xs = refl

-- none is left
folded_end : {A X E : Type 0} (step : A → X → Result A E) (made : A) → folded step made [] ≡ Ok made
unfolding folded
folded_end step made = refl

-- a step that stops all
pub then_stops : {A B K : Type 0} (step : Result A K) (following : A → Result B K) (halt : Stop K) →
    Refuses step halt → Refuses (step >>= following) halt
then_stops step following (stop.Told why) told = ap (λ it. it >>= following) told
then_stops step following stop.OutOfMemory told = told

-- those that are left, after what was made, make what all make
pub record Folding {A X Y E : Type 0} (step : A → Y → Result A E) (f : X → Y) (xs : List X) (k : ℕ) (start made : A) :
    Type 0 where
  pub is : folded step start (map f xs) ≡ folded step made (map f (drop k xs))

module _ {A X Y E : Type 0} {step : A → Y → Result A E} {f : X → Y} {xs : List X} {k : ℕ} {start made : A} where
  -- what the element of the turn makes, or why it makes nothing
  pub folding_step : (d : X) {x : X} → Folding step f xs k start made → k < length xs → x ≡ get_or xs k d →
      folded step start (map f xs) ≡ (step made (f x) >>= λ more. folded step more (map f (drop (k + 1) xs)))
  folding_step d {x} so_far below is =
      so_far.is
      ∙ ap (λ ys. folded step made (map f ys)) (drop_more xs k d below ∙ ap (λ y. y ∷ drop (k + 1) xs) (sym is))
      ∙ folded_first step made (f x) (map f (drop (k + 1) xs))

  -- it is made
  pub folding_more : (d : X) {x : X} {more : A} → Folding step f xs k start made → k < length xs → x ≡ get_or xs k d →
      step made (f x) ≡ Ok more → Folding step f xs (k + 1) start more
  folding_more d so_far below is made_it = record {
    is = folding_step d so_far below is
        ∙ ap (λ it. it >>= λ more. folded step more (map f (drop (k + 1) xs))) made_it;
  }

  -- or all isn't
  pub folding_stops : (d : X) {x : X} (halt : Stop E) → Folding step f xs k start made → k < length xs →
      x ≡ get_or xs k d → Refuses (step made (f x)) halt → Refuses (folded step start (map f xs)) halt
  folding_stops d (stop.Told why) so_far below is told =
      folding_step d so_far below is
      ∙ ap (λ it. it >>= λ more. folded step more (map f (drop (k + 1) xs))) told
  folding_stops d stop.OutOfMemory so_far below is told = told

  -- none is left
  pub folding_all : Folding step f xs k start made → length xs ≤ k → folded step start (map f xs) ≡ Ok made
  folding_all so_far end =
      so_far.is ∙ ap (λ ys. folded step made (map f ys)) (drop_all k xs end) ∙ folded_end step made
