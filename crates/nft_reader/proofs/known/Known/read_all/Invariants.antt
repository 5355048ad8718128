-- The statements that were read so far.
use Rattle.json.specs.Value.{value_view}
use Rattle.nft_reader.specs.Readings.{no_reading, with_statement}
use Rattle.nft_reader.specs.Known.{known_of}
use Rattle.nft_reader.proofs.Folding.{Folding}
use Rattle.nft_reader.proofs.known.Known.read_all.Given as goal

-- those that are left make what all make
abbrev pub invariant-loop-statement : goal.invariant-loop-statement
invariant-loop-statement l =
    Folding (with_statement (known_of l.self)) value_view l.statements l.statement-index no_reading l.reading
