-- What all kept places of a group come to, one after the other.
use Rattle.std.specs.Prelude.{◌≡◌, ℕ, ◌+◌, ◌*◌, ◌≤◌, List, [], ◌∷◌, ◌++◌, length, None}
use Rattle.rule_set.specs.Rule.{RuleSetView}
use Rattle.table_sizes.specs.Sizes.{max_words, row_len}
use Rattle.group_states.specs.Kept.{kept_places}
use Rattle.group_states.specs.Laws.{IsGrouped}
use Rattle.group_states.specs.Levels.{levels_of}
use Rattle.group_states.specs.Row.{rows_of}
use Rattle.trie_merge.specs.Merged.{numbers_of, runs_in, target_of}
use Rattle.trie_merge.specs.Started.{IsStarted, AreRows}
use Rattle.trie_merge.specs.declared.build.Gathered.{Gathered}
use Rattle.trie_merge.specs.declared.merge.Merged.{Merged}

-- All that merging the kept places of a group asks for. The group is one of the set, the places are
-- the ones that it keeps, and the cap is at most what a table may have.
pub record CanMergeGroup (set : RuleSetView) (group : List ℕ) (cap : ℕ) (places : List ℕ) :
    Type 0 where
  pub grouped : IsGrouped set group
  pub most : cap ≤ max_words
  pub kept : places ≡ kept_places set group

-- No place is merged yet, and what is reached is the state before the first byte.
pub record IsBegun (group : List ℕ) (gathered : Gathered) : Type 0 where
  pub start : IsStarted group gathered.reached.target gathered.reached.found.keys
  pub levels : gathered.levels.items ≡ []
  pub words : gathered.words ≡ 0
  pub ahead : gathered.ahead ≡ None

-- One more place is gathered: its runs stand after those of the others. What is reached, and the
-- words, are those after its states.
pub record TakesIn (merged : Merged) (old new : Gathered) : Type 0 where
  pub levels : new.levels.items ≡ old.levels.items ++ runs_in merged ∷ []
  pub target : new.reached.target ≡ target_of merged
  pub found : new.reached.found.keys ≡ numbers_of merged
  pub words : new.words ≡ merged.words
  pub ahead : new.ahead ≡ old.ahead

-- All that it gives. The runs are those of the group's merged states, and the words are those of
-- the states. With those of the rows they are within the cap. What is reached are the rows.
pub record GathersGroup (set : RuleSetView) (group : List ℕ) (cap : ℕ) (gathered : Gathered) :
    Type 0 where
  pub runs : gathered.levels.items ≡ (levels_of set group).levels
  pub sum : gathered.words + row_len * length (rows_of set group) ≡ (levels_of set group).words
  pub within : gathered.words + row_len * length (rows_of set group) ≤ cap
  pub rows : AreRows set group gathered.reached.target gathered.reached.found.keys
