-- What one state of a place comes to, and what all of them do. What a call asks for stands in one
-- record, as `CanAdd`, and what it gives in another, as `AddsState`.
use Rattle.std.specs.Prelude.{◌≡◌, ℕ, ◌+◌, ◌<◌, ◌≤◌, List, [], ◌∷◌, ◌++◌, length, map, fold, Bool}
use Rattle.std.specs.Prelude.{true, None}
use Rattle.rule_set.specs.Rule.{RuleSetView}
use Rattle.state_parts.specs.declared.pieces.Piece.{Piece}
use Rattle.state_parts.specs.declared.target.Target.{Target}
use Rattle.state_parts.specs.declared.target.Target.TheVariants.{Parts}
use Rattle.state_parts.specs.Keys.{has_entry}
use Rattle.state_parts.specs.Pieces.{number_at, PiecesLead}
use Rattle.state_parts.specs.Slices.{pieces_of, IsPieces}
use Rattle.state_parts.specs.Target.{HasEntry}
use Rattle.table_sizes.specs.Sizes.{cost_of, max_words}
use Rattle.group_states.specs.Entry.{ColumnView, CanStep}
use Rattle.group_states.specs.Found.{all_bytes}
use Rattle.group_states.specs.Levels.{runs_of}
use Rattle.group_states.specs.Lists.{level_found}
use Rattle.group_states.specs.declared.run.Run.{Run}
use Rattle.trie_merge.specs.Cuts.{CanAsk, CanGoOn, CutsFor}
use Rattle.trie_merge.specs.Led.{step_of, StepsLed, AllLed}
use Rattle.trie_merge.specs.Numbers.{numbers_with, succ_of}
use Rattle.trie_merge.specs.Priced.{IsNumber, AreNumbers, ArePriced}
use Rattle.trie_merge.specs.Shared.{RuleTree, AreIn, ArePlaced, IsFor}
use Rattle.trie_merge.specs.Words.{least_words, IsMergedWithin}
use Rattle.trie_merge.specs.declared.merge.Budget.{Budget}
use Rattle.trie_merge.specs.declared.merge.Merged.{Merged}
use Rattle.trie_merge.specs.declared.merge.Place.{Place}
use Rattle.trie_merge.specs.declared.merge.Progress.{Progress}

-- the numbers of what is found
abbrev pub numbers_of : Merged → List ℕ
numbers_of merged = merged.reached.found.keys

-- what they are numbers of
abbrev pub target_of : Merged → Target
target_of merged = merged.reached.target

-- the words so far, and the least that what they lead to takes
abbrev pub total : Progress → ℕ
total progress = progress.merged.words + progress.least

-- the runs of each state so far
abbrev pub runs_in : Merged → List (List Run)
runs_in merged = pieces_of merged.pieces.runs.items 0 merged.pieces.ends.items

-- They end where it is said.
abbrev pub ArePieces : Merged → Type 0
ArePieces merged = IsPieces 0 merged.pieces.ends.items (length merged.pieces.runs.items)

-- the runs of a state whose bytes lead where the pieces say
abbrev pub runs_by : Place → Merged → List Piece → List Run
runs_by place merged pieces =
    runs_of (λ byte. succ_of place.is_last (numbers_of merged) (number_at pieces byte))

-- One more state is merged into what there was: what its bytes lead to is found in order, its runs
-- stand after those of the others, and its words are counted.
pub record StateMerged (place : Place) (pairs : List (ℕ × ℕ)) (state : ℕ) (old new : Merged) :
    Type 0 where
  pub pieces : List Piece
  pub leads : PiecesLead (step_of place.column) pairs (target_of new) state pieces
  pub finds : numbers_of new
      ≡ fold numbers_with (numbers_of old) (map (number_at pieces) all_bytes)
  pub its_runs : runs_in new ≡ runs_in old ++ runs_by place new pieces ∷ []
  pub its_words : new.words ≡ old.words + cost_of (length (runs_by place new pieces))
  pub are_pieces : ArePieces new

-- The parts can be led on at the place, and what that gives can be asked at the next one.
pub record CanMerge (place : Place) (pairs : List (ℕ × ℕ)) : Type 0 where
  pub step : (entry : ℕ) → has_entry pairs entry ≡ true → CanStep place.column entry
  pub last : place.is_last ≡ true → place.next ≡ None
  pub go_on : CanGoOn place.next place.column pairs

-- Nothing is merged so far.
pub record IsFirst (target : Target) (before : ℕ) (progress : Progress) : Type 0 where
  pub steps : progress.work.steps ≡ []
  pub cuts : progress.work.cuts.items ≡ []
  pub runs : progress.merged.pieces.runs.items ≡ []
  pub ends : progress.merged.pieces.ends.items ≡ []
  pub reached : target_of progress.merged ≡ target
  pub found : length (numbers_of progress.merged) ≡ 0
  pub words : progress.merged.words ≡ before
  pub least : progress.least ≡ 0

-- What is merged so far can go on: the pieces that are known lead where the parts do, and the
-- numbers that are found are those of parts or rows, each of which takes a word or more.
pub record IsReady (place : Place) (pairs : List (ℕ × ℕ)) (progress : Progress) : Type 0 where
  pub led : StepsLed place.column pairs (target_of progress.merged) progress.work.steps
  pub pieces : ArePieces progress.merged
  pub inside : AreNumbers (target_of progress.merged) (numbers_of progress.merged)
  pub ask : CanAsk place.next (target_of progress.merged)
  pub cuts : CutsFor place.next (target_of progress.merged) progress.work.cuts.items
  pub few : length (numbers_of progress.merged) ≤ progress.least

-- All that adding one more state asks for: it is a state of the place, the place can be merged,
-- what is merged so far can go on, and the words so far are at most what a table may have.
pub record CanAdd (place : Place) (pairs : List (ℕ × ℕ)) (state : ℕ) (progress : Progress) :
    Type 0 where
  pub number : IsNumber (Parts pairs) state
  pub can : CanMerge place pairs
  pub ready : IsReady place pairs progress
  pub within : total progress ≤ max_words

-- All that merging the state gives. What it leads to isn't priced yet, so the least stays.
pub record MergesState (place : Place) (pairs : List (ℕ × ℕ)) (state : ℕ) (old new : Progress) :
    Type 0 where
  pub led : AllLed place.column pairs (target_of old.merged) (target_of new.merged) new.work.steps
  pub merged : StateMerged place pairs state old.merged new.merged
  pub cuts : new.work.cuts.items ≡ old.work.cuts.items
  pub least : new.least ≡ old.least

-- All that adding the state gives: it is merged, what it finds anew is priced, and the merge can go
-- on.
pub record AddsState (place : Place) (pairs : List (ℕ × ℕ)) (state : ℕ) (old new : Progress) :
    Type 0 where
  pub led : AllLed place.column pairs (target_of old.merged) (target_of new.merged) new.work.steps
  pub merged : StateMerged place pairs state old.merged new.merged
  pub more : ℕ
  pub its_least : new.least ≡ old.least + more
  pub priced : ArePriced place (target_of new.merged) (numbers_of new.merged)
      (length (numbers_of old.merged)) new.work.cuts.items more
  pub ready : IsReady place pairs new

-- All that merging the states of a place asks for.
pub record CanMergeAll (place : Place) (budget : Budget) (pairs : List (ℕ × ℕ)) (states : List ℕ)
    (target : Target) : Type 0 where
  pub numbers : AreNumbers (Parts pairs) states
  pub can : CanMerge place pairs
  pub ask : CanAsk place.next target
  pub cap : budget.cap ≤ max_words
  pub before : budget.before ≤ budget.cap

-- All states are merged: of any group of which these numbers are the states, the runs and the words
-- are theirs, and what is found is what they lead to.
pub record AreMerged (place : Place) (budget : Budget) (pairs : List (ℕ × ℕ)) (states : List ℕ)
    (old : Target) (merged : Merged) : Type 0 where
  pub steps : List (List Piece)
  pub led : AllLed place.column pairs old (target_of merged) steps
  pub each : (set : RuleSetView) (group : List ℕ) (tree : RuleTree) (lists : List (List ℕ)) →
      IsFor set place.is_last old → ArePlaced set group tree pairs lists states →
      IsMergedWithin set place.column place.is_last budget.cap budget.before lists (runs_in merged)
      merged.words
      × AreIn set (target_of merged) tree (level_found set place.column place.is_last lists)
      (numbers_of merged)
  pub inside : AreNumbers (target_of merged) (numbers_of merged)
  pub pieces : ArePieces merged

-- They take more words than the cap.
abbrev pub AreOver : Place → Budget → List (ℕ × ℕ) → List ℕ → Target → Type 0
AreOver place budget pairs states old =
    (set : RuleSetView) (group : List ℕ) (tree : RuleTree) (lists : List (List ℕ)) →
    IsFor set place.is_last old → ArePlaced set group tree pairs lists states →
    budget.cap < least_words set place.column place.next place.is_last budget.before lists

-- The states of one place are merged, where nothing was numbered before: of any group of the set of
-- which these numbers are the states, the runs and the words are theirs, and what is found is what
-- they lead to.
pub record PlaceMerged (set : RuleSetView) (column : ColumnView) (is_last : Bool) (budget : Budget)
    (pairs : List (ℕ × ℕ)) (states : List ℕ) (merged : Merged) : Type 0 where
  pub old : Target
  pub kind : IsFor set is_last old
  pub none : (entry : ℕ) → HasEntry old entry → ⊥
  pub steps : List (List Piece)
  pub led : AllLed column pairs old (target_of merged) steps
  pub each : (group : List ℕ) (tree : RuleTree) (lists : List (List ℕ)) →
      ArePlaced set group tree pairs lists states →
      IsMergedWithin set column is_last budget.cap budget.before lists (runs_in merged) merged.words
      × AreIn set (target_of merged) tree (level_found set column is_last lists)
      (numbers_of merged)
  pub inside : AreNumbers (target_of merged) (numbers_of merged)
