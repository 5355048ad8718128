use Rattle.std.proofs.Common.{arith, length-take}
use Rattle.acl_outside.proofs.mem_desk.MemDeskDesk.write.Goals as goal

pub append-requires : goal.append-requires
append-requires c =
    omega (
      arith,
      c.min-count.ensures,
      c.min.ensures,
      c.free-free.ensures,
      length-take c.min-count.result c.args.piece.now,
    )
