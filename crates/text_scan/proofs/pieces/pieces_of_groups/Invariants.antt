use Rattle.std.proofs.Common.{◌≡◌, ◌<◌, ◌≤◌, ◌^◌, true, length, take}
use Rattle.text_scan.specs.Parts.{colon, parts_of}
use Rattle.text_scan.specs.Ip6.{are_groups, pieces_of_all}
use Rattle.text_scan.specs.Pieces.{pieces_from}
use Rattle.text_scan.proofs.pieces.pieces_of_groups.Given as goal

-- the parts so far are groups, and theirs are the pieces, at most eight
abbrev pub invariant-loop-part : goal.invariant-loop-part
invariant-loop-part l = record {
  fits : l.pieces.value < 65536 ^ l.pieces.count;
  few : l.pieces.count ≤ 8;
  groups : are_groups (take (length l.yielded) (parts_of colon l.text)) ≡ true;
  pieces : l.pieces ≡ pieces_from (pieces_of_all (take (length l.yielded) (parts_of colon l.text)));
}
