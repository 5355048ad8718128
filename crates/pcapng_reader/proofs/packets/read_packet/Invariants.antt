-- blocks without a record were read
use Rattle.std.proofs.Common.{◌≡◌, ◌-◌, length}
use Rattle.std.specs.Bool.{IsTrue}
use Rattle.pcap_reader.specs.Capture.{max_captured}
use Rattle.pcapng_reader.specs.Block.{max_blocks}
use Rattle.pcapng_reader.proofs.PacketLaws.{Passing}
use Rattle.pcapng_reader.proofs.packets.read_packet.Given as goal

abbrev pub invariant-passing : goal.invariant-passing
invariant-passing g l =
    let view = g.D.Desk.view in record {
      passed : Passing l.fn.reader l.reader (view l.fn.desk) (view l.desk);
      reading : IsTrue (view l.desk).reading;
      room : length l.buffer ≡ max_captured;
    }

abbrev pub decreases-passing : goal.decreases-passing
decreases-passing g l = max_blocks - l.reader.blocks
