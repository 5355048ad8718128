use Rattle.std.proofs.Common.{arith}
use Rattle.table_sizes.specs.Sizes.{max_words}
use Rattle.acl_context.proofs.Building.{split_holds}
use Rattle.acl_context.proofs.build.make_greatest.Goals as goal

pub returns-in-Ok-clause-table : goal.returns-in-Ok-clause-table
returns-in-Ok-clause-table c =
    split_holds c.args.rules.now max_words c.in-Ok.table c.in-Ok.ensures.table c.in-Ok.ensures.serves (omega arith)
    c.in-Ok.ensures.fits c.in-Ok.ensures.words
