-- the ledger of a counter that nobody sees
use Rattle.tests_of_contexts.proofs.few.check.Given as goal

abbrev pub ghosts-marked : goal.ghosts-marked
ghosts-marked g a = record { name = a.blank.name; parts = a.blank.parts }
