-- the ledger of a counter that nobody sees
use Rattle.tests_of_contexts.proofs.far.check.Given as goal

abbrev pub ghosts-classified : goal.ghosts-classified
ghosts-classified g a = record { name = a.blank.name; parts = a.blank.parts }
