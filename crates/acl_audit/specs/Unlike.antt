-- The first row of a half in which its two lists answer unlike.
use Rattle.std.specs.Prelude.{ℕ, ◌+◌, ◌-◌, ◌==◌, List, [], ◌∷◌, slice_index_or, Bool, not}
use Rattle.std.specs.Prelude.{Option, Some, None, if◌then◌else◌}
use Rattle.std.specs.List.{find}
use Rattle.rule_set.specs.Rule.{RuleView}
use Rattle.rule_set.specs.Winner.{userdata_at}
use Rattle.acl_audit.specs.declared.unlike.Unlike.{Unlike}
use Rattle.acl_audit.specs.Difference.{eight_from}
use Rattle.acl_audit.specs.Half.{half_len}

-- the userdata of the rule whose number plus 1 the entry is, and 0 for entry 0
abbrev pub entry_userdata : List RuleView → ℕ → ℕ
entry_userdata rules entry = if entry == 0 then 0 else userdata_at rules (Some (entry - 1))

-- the row answers unlike in a category of the first list and that of the second
abbrev pub is_unlike_in : List RuleView → List ℕ → ℕ → Bool
is_unlike_in rules row category =
    not (entry_userdata rules (slice_index_or row category 0)
    == entry_userdata rules (slice_index_or row (category + half_len) 0))

-- the first category in which the row answers unlike, or none
abbrev pub unlike_category : List RuleView → List ℕ → Option ℕ
unlike_category rules row = find (is_unlike_in rules row) (eight_from 0)

-- that row in which it is the category, or what comes of the rows after it
abbrev pub unlike_or : ℕ → Option ℕ → Option Unlike → Option Unlike
unlike_or row None after = after
unlike_or row (Some category) after = Some (record { row = row; category = category })

-- the first row, and the first category there, where rows are numbered on from a number, or none
abbrev pub first_unlike : List RuleView → ℕ → List (List ℕ) → Option Unlike
first_unlike rules number [] = None
first_unlike rules number (row ∷ rows) =
    unlike_or number (unlike_category rules row) (first_unlike rules (number + 1) rows)
