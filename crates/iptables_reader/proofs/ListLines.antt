-- The lines of a list that were read, and what those that are left make of the table.
use Rattle.std.proofs.Common.{◌≡◌, ℕ, ◌+◌, ◌<◌, ◌≤◌, List, [], ◌∷◌, length, Result, Ok, Err, false, nat_lt}
use Rattle.std.proofs.Common.{refl, ap, ◌∙◌, arith}
use Rattle.text_scan.specs.Parts.{lines_of}
use Rattle.iptables_reader.specs.declared.fault.LineKind.{LineKind}
use Rattle.iptables_reader.specs.declared.answers.Asked.{Asked}
use Rattle.iptables_reader.specs.Table.{TableSoFar, counted, list_of, ended, line_then, max_list, no_table, with_line, with_lines}

-- Of the lines of a list some were read, and `left` comes after them.
pub record IsReadUpTo (asked : Asked) (assumed name bytes : List ℕ) (table : TableSoFar) (left : List ℕ) : Type 0 where
  pub long : table.number + length left ≤ length bytes
  pub same : with_lines (no_table asked assumed name) (lines_of bytes) ≡ with_lines table (lines_of left)

-- nothing was read
pub IsReadUpTo-none : (asked : Asked) (assumed name bytes : List ℕ) →
    IsReadUpTo asked assumed name bytes (no_table asked assumed name) bytes
IsReadUpTo-none asked assumed name bytes = record { long = omega arith; same = refl }

-- a line, and then those after it
line_first : (table : TableSoFar) (line : List ℕ) (lines : List (List ℕ)) →
    with_lines table (line ∷ lines)
    ≡ line_then (table.number + 1) (with_line (counted table) line) (λ more. with_lines more lines)
unfolding with_lines
line_first table line lines = refl

-- and what is made where none is left
no_line : (table : TableSoFar) → with_lines table [] ≡ ended table table.stage
unfolding with_lines
no_line table = refl

-- The next line was cut off what is left.
module _ {asked : Asked} {assumed name bytes : List ℕ} {table : TableSoFar} {left line : List ℕ} (rest : List ℕ)
    (read : IsReadUpTo asked assumed name bytes table left) (cut : lines_of left ≡ line ∷ lines_of rest)
    (shorter : length rest < length left) where
  -- what the line makes goes on
  then_rest : with_lines (no_table asked assumed name) (lines_of bytes)
      ≡ line_then (table.number + 1) (with_line (counted table) line) (λ more. with_lines more (lines_of rest))
  then_rest = read.same ∙ ap (with_lines table) cut ∙ line_first table line (lines_of rest)

  -- it was read
  pub IsReadUpTo-more : (new : TableSoFar) → new.number ≡ table.number + 1 → with_line (counted table) line ≡ Ok new
      → IsReadUpTo asked assumed name bytes new rest
  IsReadUpTo-more new number said = record {
    long = omega (arith, read.long, shorter, number);
    same = then_rest ∙ ap (λ (made : Result TableSoFar LineKind).
        line_then (table.number + 1) made (λ more. with_lines more (lines_of rest))) said;
  }

  -- or it is faulty, and its fault is that of the list
  pub faulty_list : (kind : LineKind) → nat_lt max_list (length bytes) ≡ false
      → with_line (counted table) line ≡ Err kind
      → list_of asked assumed name bytes ≡ Err (record { line = table.number + 1; kind = kind })
  faulty_list kind short said =
      rw short (then_rest ∙ ap (λ (made : Result TableSoFar LineKind).
      line_then (table.number + 1) made (λ more. with_lines more (lines_of rest))) said)

-- no line is left
pub whole_list : {asked : Asked} {assumed name bytes : List ℕ} {table : TableSoFar} {left : List ℕ} →
    IsReadUpTo asked assumed name bytes table left → lines_of left ≡ [] → nat_lt max_list (length bytes) ≡ false →
    list_of asked assumed name bytes ≡ ended table table.stage
whole_list {table = table} read none short = rw short (read.same ∙ ap (with_lines table) none ∙ no_line table)
