-- The kinds of answers, and the categories of their rules.
use Rattle.std.specs.Prelude.{◌≡◌, ℕ, List, Bool, true, not, ◌==◌, bit_and}
use Rattle.std.specs.Int.{bit_at}
use Rattle.list_chains.specs.Chains.{at_or}
use Rattle.chain_conditions.specs.declared.kind.AnswerKind.{AnswerKind}
use Rattle.chain_conditions.specs.declared.kind.AnswerKind.TheVariants.{Refuses, Accepts, Elsewhere}

-- the kind of an answer, by a list; past its end an answer ends elsewhere
abbrev pub kind_of : List AnswerKind → ℕ → AnswerKind
kind_of kinds answer = at_or kinds answer Elsewhere

-- the mask of a kind's category: 0, 1 or 2
abbrev pub kind_mask : AnswerKind → ℕ
kind_mask Refuses = 1
kind_mask Accepts = 2
kind_mask Elsewhere = 4

-- the categories of an answer's rules while a condition is left
abbrev pub masks_of : List AnswerKind → ℕ → ℕ
masks_of kinds answer = kind_mask (kind_of kinds answer)

-- the category is that of the answer's kind
abbrev pub is_of : List AnswerKind → ℕ → ℕ → Bool
is_of kinds category answer = bit_at (masks_of kinds answer) category == 1

-- the mask has a category
abbrev pub IsMask : ℕ → Type 0
IsMask mask = not (bit_and mask 65535 == 0) ≡ true
