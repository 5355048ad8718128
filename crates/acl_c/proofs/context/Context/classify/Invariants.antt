-- the ledger of the counter, which nobody sees
use Rattle.acl_c.proofs.context.Context.classify.Given as goal

abbrev pub ghosts-walk_keys : goal.ghosts-walk_keys
ghosts-walk_keys a = record { name = a.blank.name; parts = a.blank.parts }
