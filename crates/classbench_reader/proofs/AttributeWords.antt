-- Attributes, word by word.
use Rattle.std.proofs.Common.{◌≡◌, ℕ, List, [], ◌∷◌, Err, refl}
use Rattle.classbench_reader.specs.declared.rules_fault.LineKind.{LineKind}
use Rattle.classbench_reader.specs.Attributes.{with_words}

-- no word mends a fault
pub with_words-fault : (kind : LineKind) (words : List (List ℕ)) → with_words (Err kind) words ≡ Err kind
with_words-fault kind [] = refl
with_words-fault kind (word ∷ words) = with_words-fault kind words
