-- the ledger of a counter that nobody sees
use Rattle.tests_of_contexts.proofs.asking.classified.Given as goal

abbrev pub ghosts-answers : goal.ghosts-answers
ghosts-answers g a = record { name = a.blank.name; parts = a.blank.parts }
