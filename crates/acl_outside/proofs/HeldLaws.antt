-- What is held of a file comes before what the file has left.
use Rattle.std.proofs.Common.{ℕ, List, ◌++◌, take, drop, Option, Some, None, sym, ◌∙◌, ap, append_assoc}
use Rattle.std.specs.Prelude.{option_and_then}
use Rattle.std.proofs.lemmas.List.{take-append-drop}
use Rattle.std.specs.Io.KnownBytes.{Consumes, prepend_known}

-- the first bytes that are held are the first that are to come
pub Consumes-held : (n : ℕ) (held : List ℕ) (left : Option (List ℕ)) →
    Consumes (prepend_known held left) (prepend_known (drop n held) left) (take n held)
Consumes-held n held None = tt
Consumes-held n held (Some left) = ap (λ front. front ++ left) (sym (take-append-drop n held)) ∙
    append_assoc (take n held) (drop n held) left

-- so it is of the opened file, if there is one
pub Consumes-held-of : {T : Type 0} (n : ℕ) (held : List ℕ) (left : T → Option (List ℕ)) (opened : Option T) →
    Consumes (option_and_then (λ file. prepend_known held (left file)) opened)
    (option_and_then (λ file. prepend_known (drop n held) (left file)) opened) (take n held)
Consumes-held-of n held left None = tt
Consumes-held-of n held left (Some file) = Consumes-held n held (left file)
