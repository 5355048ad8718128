-- the ledger of a counter that nobody sees
use Rattle.tests_of_contexts.proofs.contexts.expect.Given as goal

abbrev pub ghosts-verdicts : goal.ghosts-verdicts
ghosts-verdicts g a = record { name = a.blank.name; parts = a.blank.parts }
