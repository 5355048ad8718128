-- the ledger of a counter that nobody sees
use Rattle.tests_of_tool.proofs.blocks.classify.Given as goal

abbrev pub ghosts-run_counted : goal.ghosts-run_counted
ghosts-run_counted a = record { name = a.blank.name; parts = a.blank.parts }
