-- What the statements so far do.
use Rattle.json.specs.Value.{value_view}
use Rattle.nft_reader.specs.Effects.{no_effects, with_statement_effect}
use Rattle.nft_reader.specs.Known.{known_of}
use Rattle.nft_reader.proofs.Folds.{Made}
use Rattle.nft_reader.proofs.known.Known.effects.Given as goal

-- those that are left make of it what all make
abbrev pub invariant-loop-statement : goal.invariant-loop-statement
invariant-loop-statement l =
    Made (with_statement_effect (known_of l.self)) value_view l.statements l.statement-index no_effects l.effects
