-- `classify` makes no file
use Rattle.std.proofs.Common.{sym, subst}
use Rattle.aclc_page.specs.Ran.{MakesNothing}
use Rattle.aclc_page.proofs.Naming.{classify_makes}
use Rattle.aclc_page.proofs.commands.classify.Goals as goal

pub print-requires-clause-makes : goal.print-requires-clause-makes
print-requires-clause-makes c = subst MakesNothing (sym c.in_ok-words.ensures) (classify_makes c.args.asked.now)
