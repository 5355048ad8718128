-- The sets that the statements so far change.
use Rattle.json.specs.Value.{value_view}
use Rattle.list_lemmas.proofs.Loops.{Joined}
use Rattle.nft_reader.specs.Sets.{change_of}
use Rattle.nft_reader.proofs.sets.put_each_change.Given as goal

-- there are those of each statement so far
abbrev pub invariant-loop-statement : goal.invariant-loop-statement
invariant-loop-statement l =
    Joined (λ statement. change_of l.family l.table (value_view statement)) l.statements l.statement-index
    l.fn.changes.items l.changes.items
