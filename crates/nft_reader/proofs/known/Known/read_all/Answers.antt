-- What an element makes, why one isn't read, and what is made where none is left.
use Rattle.std.proofs.Common.{arith, rules}
use Rattle.nft_reader.proofs.Folding.{folding_all, folding_more, folding_stops}
use Rattle.nft_reader.proofs.known.Known.read_all.Goals as goal

pub returns-in_err-add_statement : goal.returns-in_err-add_statement
returns-in_err-add_statement c =
    search (
      rules,
      folding_stops _ _ c.loop-statement.invariant (omega arith) c.statement-item.is c.in_err-add_statement.ensures,
    )

pub loop-statement-preserved : goal.loop-statement-preserved
loop-statement-preserved c =
    folding_more _ c.loop-statement.invariant (omega arith) c.statement-item.is c.in_ok-add_statement.ensures

pub returns : goal.returns
returns c = folding_all c.loop-statement.invariant (omega arith)
