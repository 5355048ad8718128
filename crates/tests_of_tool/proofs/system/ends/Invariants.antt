-- the ledger of a counter that nobody sees
use Rattle.tests_of_tool.proofs.system.ends.Given as goal

abbrev pub ghosts-run_counted : goal.ghosts-run_counted
ghosts-run_counted g a = record { name = a.blank.name; parts = a.blank.parts }
