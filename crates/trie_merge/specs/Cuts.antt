-- Bytes of the next place at which what a part leads to changes, which tell the words of a state
-- when it is found.
use Rattle.std.specs.Prelude.{◌≡◌, ℕ, ◌-◌, ◌<◌, ◌≤◌, ◌==◌, List, [], ◌∷◌, ◌++◌, length, take}
use Rattle.std.specs.Prelude.{slice_index_or, true, false, Option, Some, None}
use Rattle.std.specs.List.{list_any, AllByRecursion}
use Rattle.state_parts.specs.declared.target.Target.{Target}
use Rattle.state_parts.specs.declared.target.Target.TheVariants.{Parts, Rows}
use Rattle.state_parts.specs.Target.{HasEntry}
use Rattle.group_states.specs.Entry.{ColumnView, CanStep, is_entry_cut}
use Rattle.trie_merge.specs.Led.{ComesFrom}
use Rattle.trie_merge.specs.declared.cuts.Cuts.{Cuts}

-- Some of the entries has a cut at the byte.
pub record IsCutAt (column : ColumnView) (entries : List ℕ) (byte : ℕ) : Type 0 where
  pub some : 0 < byte
  pub small : byte < 256
  pub cut : list_any (λ entry. is_entry_cut column entry byte) entries ≡ true

-- No byte stands twice.
abbrev pub AreApart : List ℕ → Type 0
AreApart [] = Unit {0}
AreApart (byte ∷ bytes) = (list_any (λ other. other == byte) bytes ≡ false) × AreApart bytes

-- There are as many cuts of the entries as are counted, and up to four are these bytes.
pub record Knows (column : ColumnView) (entries : List ℕ) (cuts : Cuts) : Type 0 where
  pub bytes : List ℕ
  pub long : length bytes ≡ cuts.count
  pub listed : cuts.count ≤ 4 → bytes ≡ take cuts.count cuts.bytes
  pub apart : AreApart bytes
  pub cut : AllByRecursion (IsCutAt column entries) bytes

-- no cuts
abbrev pub no_cuts : Cuts
no_cuts = record { count = 0; bytes = [] }

-- The cuts of a part: those of its entry, or what those of its two parts come to.
pub record IsBuilt (column : ColumnView) (pair : ℕ × ℕ) (all : List Cuts) (k : ℕ) (cuts : Cuts) :
    Type 0 where
  pub few : cuts.count ≤ 5
  pub entry : pair.0 ≡ 0 → Knows column (pair.1 ∷ []) cuts
  pub lower : 0 < pair.0 → (pair.0 ≤ k) × (0 < pair.1) × (pair.1 ≤ k)
  pub both : 0 < pair.0 → (one other : List ℕ) →
      Knows column one (slice_index_or all (pair.0 - 1) no_cuts) →
      Knows column other (slice_index_or all (pair.1 - 1) no_cuts) →
      Knows column (one ++ other) cuts

-- So for each of the first parts.
pub record AreBuilt (column : ColumnView) (pairs : List (ℕ × ℕ)) (all : List Cuts) : Type 0 where
  pub few : length all ≤ length pairs
  pub each : (k : ℕ) → k < length all →
      IsBuilt column (slice_index_or pairs k (0, 0)) all k (slice_index_or all k no_cuts)

-- So where the place after the next one is given, and it isn't the last.
abbrev pub CutsFor : Option ColumnView → Target → List Cuts → Type 0
CutsFor None target all = Unit {0}
CutsFor (Some next) (Parts pairs) all = AreBuilt next pairs all
CutsFor (Some next) (Rows rows) all = Unit {0}

-- What bytes leave of entries can be asked at the next place, where that is given.
abbrev pub CanGoOn : Option ColumnView → ColumnView → List (ℕ × ℕ) → Type 0
CanGoOn None column pairs = Unit {0}
CanGoOn (Some next) column pairs = (entry : ℕ) → ComesFrom column pairs entry → CanStep next entry

-- All entries that are numbered can be asked there.
abbrev pub CanAsk : Option ColumnView → Target → Type 0
CanAsk None target = Unit {0}
CanAsk (Some next) target = (entry : ℕ) → HasEntry target entry → CanStep next entry
