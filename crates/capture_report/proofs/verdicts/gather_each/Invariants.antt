-- the keys of some packets were gathered, and those of the rest are to come
use Rattle.std.proofs.Common.{◌≡◌, ◌+◌, ◌*◌, ◌≤◌, ◌++◌, length, drop, take}
use Rattle.table_sizes.specs.Groups.{ip6_key_len}
use Rattle.capture_report.specs.Batch.{keys_of, number_of}
use Rattle.capture_report.proofs.verdicts.gather_each.Given as goal

abbrev pub invariant-loop-packet : goal.invariant-loop-packet
invariant-loop-packet l =
    let rest = drop l.packet-index l.packets in record {
      keys : take l.end l.keys ++ keys_of l.family rest ≡ keys_of l.family l.packets;
      count : l.count + number_of l.family rest ≡ number_of l.family l.packets;
      few : l.count ≤ l.packet-index;
      room : l.end + length rest * ip6_key_len ≤ length l.keys;
      len : length l.keys ≡ length l.fn.keys;
    }
