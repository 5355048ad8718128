-- all but what is left and the last four bytes was read
use Rattle.std.proofs.Common.{◌≤◌, ◌-◌, List, ℕ}
use Rattle.std.specs.Bool.{IsTrue}
use Rattle.acl_outside.specs.Desk.{DeskView}
use Rattle.acl_outside.specs.Heard.{GoesOn}
use Rattle.pcapng_reader.specs.Block.{BlockState}
use Rattle.pcapng_reader.specs.BlockReading.{HasRead}
use Rattle.pcapng_reader.proofs.ReadLaws.{Passes}
use Rattle.pcapng_reader.proofs.long.pass_over.Given as goal

abbrev pub invariant-pieces : goal.invariant-pieces
invariant-pieces g l =
    let view = g.D.Desk.view in record {
      within : l.left ≤ l.count - 4;
      passes : (state : BlockState) (part : List ℕ) (before : DeskView) →
          HasRead state part GoesOn before (view l.fn.desk) →
          Passes state part ((l.count - 4) - l.left) before (view l.desk);
      reading : IsTrue (view l.desk).reading;
    }

abbrev pub decreases-pieces : goal.decreases-pieces
decreases-pieces g l = l.left
