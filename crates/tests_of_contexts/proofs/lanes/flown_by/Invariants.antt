-- the ledger of a counter that nobody sees
use Rattle.tests_of_contexts.proofs.lanes.flown_by.Given as goal

abbrev pub ghosts-flown : goal.ghosts-flown
ghosts-flown a = record { name = a.blank.name; parts = a.blank.parts }
