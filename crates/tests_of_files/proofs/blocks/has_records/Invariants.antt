use Rattle.std.specs.Bool.{IsTrue}
use Rattle.tests_of_files.proofs.blocks.has_records.Given as goal

-- a file is opened
abbrev pub invariant-loop-record : goal.invariant-loop-record
invariant-loop-record g l = IsTrue (g.D.Desk.view l.desk).reading
