-- the bytes so far, and those of the digits that are left
use Rattle.std.proofs.Common.{◌≡◌, ◌++◌, length}
use Rattle.std.specs.Prelude.{IsTrue}
use Rattle.text_scan.specs.Digits.{are_digits}
use Rattle.acl_session.specs.Hex.{bytes_in_hex}
use Rattle.acl_session.proofs.hex.bytes_in_hex.Given as goal

abbrev pub invariant-loop-left : goal.invariant-loop-left
invariant-loop-left l = record {
  bytes : bytes_in_hex l.text ≡ l.bytes.items ++ bytes_in_hex l.left;
  digits : IsTrue (are_digits 16 l.left);
}

abbrev pub decreases-loop-left : goal.decreases-loop-left
decreases-loop-left l = length l.left
