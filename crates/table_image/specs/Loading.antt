-- What the readers of an image have and answer, over what is read of it.
use Rattle.std.specs.Prelude.{◌≡◌, ℕ, ⊤, List, map, Err}
use Rattle.table_image.specs.declared.load_fault.LoadFault.{LoadFault}
use Rattle.table_image.specs.declared.load_fault.LoadFault.TheVariants.{Image, OutOfMemory}
use Rattle.table_image.specs.declared.tries.Tries.{Tries}
use Rattle.table_image.specs.declared.counts.Counts as declared
use Rattle.table_image.specs.declared.pair.TablePair.{TablePair}
use Rattle.table_image.specs.declared.table.TableRead as declared_table
use Rattle.table_image.specs.Spelling.{PairView}
use Rattle.table_image.specs.ImageReading.{Reading, Counts, TriesView, TableRead}
use Rattle.flat_table.specs.declared.level.Level.{Level}
use Rattle.flat_table.specs.Groups.{depth_of}
use Rattle.flat_table.specs.Table.{TableView, levels_from, portions}

-- the fault is that of the reading, where memory is enough
abbrev pub IsFaultOf : {A : Type 0} → Reading A → LoadFault → Type 0
IsFaultOf reading (Image fault) = reading ≡ Err fault
IsFaultOf reading OutOfMemory = ⊤

-- the numbers before the tries of a table
abbrev pub counts_of : declared.Counts → Counts
counts_of counts = record { rules = counts.rules; tries = counts.tries; rows = counts.rows }

-- tries that were read
abbrev pub tries_of : Tries → TriesView
tries_of tries = record {
  kept = tries.kept.items;
  roots = tries.roots.items;
  level_lens = tries.level_lens.items;
  end = tries.end;
}

-- the levels of tries with these kept groups, whose levels have these lengths
abbrev pub levels_of_tries : ℕ → List ℕ → List ℕ → List (List Level)
levels_of_tries key_len kept lens = portions (map (depth_of key_len) kept) (levels_from 0 lens)

-- a table that was read
abbrev pub table_of_read : declared_table.TableRead → TableRead
table_of_read read = record { table = read.table; end = read.end }

-- a pair of tables
abbrev pub pair_of : TablePair → PairView
pair_of pair = record { ip4 = pair.ip4; ip6 = pair.ip6 }

-- two tables as a pair
abbrev pub pair_of_tables : TableView → TableView → PairView
pair_of_tables ip4 ip6 = record { ip4 = ip4; ip6 = ip6 }
