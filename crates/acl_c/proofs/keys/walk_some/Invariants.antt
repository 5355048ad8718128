-- the ledger of the counter, which nobody sees
use Rattle.acl_c.proofs.keys.walk_some.Given as goal

abbrev pub ghosts-walk_table : goal.ghosts-walk_table
ghosts-walk_table a = record { name = a.blank.name; parts = a.blank.parts }
