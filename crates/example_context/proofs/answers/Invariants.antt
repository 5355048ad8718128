-- the ledger of the counter that the program begins with
use Rattle.example_context.proofs.answers.Given as goal

abbrev pub ghosts-verdicts : goal.ghosts-verdicts
ghosts-verdicts a = record { name = a.blank.name; parts = a.blank.parts }
