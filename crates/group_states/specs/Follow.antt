-- Where the bytes of a key lead along the runs of merged states.
use Rattle.std.specs.Prelude.{◌≡◌, ℕ, ◌<◌, List, [], ◌∷◌, length, filter, slice_get, slice_index_or}
use Rattle.std.specs.Prelude.{nat_le, Some}
use Rattle.std.specs.List.{find}
use Rattle.std.specs.Option.{option_map_or}
use Rattle.rule_set.specs.Rule.{RuleSetView}
use Rattle.rule_set.specs.Winner.{rule_match}
use Rattle.group_states.specs.Row.{row_of}
use Rattle.group_states.specs.RuleRest.{values_of}
use Rattle.group_states.specs.declared.run.Run.{Run}
use Rattle.group_states.specs.declared.run.Succ.{Succ}
use Rattle.group_states.specs.declared.run.Succ.TheVariants.{Dead, State, Row}

-- what a byte leads to: the first run that ends with it or after it
abbrev pub run_to : List Run → ℕ → Succ
run_to runs byte = option_map_or (λ run. run.to) (find (λ run. nat_le byte run.last) runs) Dead

-- on from a state, and no further from anything else
abbrev pub on_from : (ℕ → Succ) → Succ → Succ
on_from next Dead = Dead
on_from next (State number) = next number
on_from next (Row number) = Row number

-- what the bytes of a key at the places lead to from a state of the first place, by the runs of
-- each place
abbrev pub followed : List (List (List Run)) → List ℕ → List ℕ → ℕ → Succ
followed [] places key number = Dead
followed (states ∷ levels) [] key number = Dead
followed (states ∷ levels) (place ∷ places) key number =
    on_from (λ next. followed levels places key next)
    (run_to (slice_index_or states number []) (slice_index_or key place 0))

-- the rules of the group that match the key, ascending
abbrev pub matching : RuleSetView → List ℕ → List ℕ → List ℕ
matching set group key = filter (λ number. rule_match set.layout (values_of set number) key) group

-- The answer is the row of the matching rules, or that there is none where no rule matches.
abbrev pub IsAnswer : RuleSetView → List (List ℕ) → List ℕ → Succ → Type 0
IsAnswer set rows matches Dead = matches ≡ []
IsAnswer set rows matches (Row number) =
    (0 < length matches) × (slice_get rows number ≡ Some (row_of set matches))
IsAnswer set rows matches (State number) = ⊥
