use Rattle.std.proofs.Common.{◌≡◌, ◌^◌, ◌<◌, true, take}
use Rattle.text_scan.specs.Digits.{place_value, are_digits}
use Rattle.text_scan.proofs.digits.digits_value.Given as goal

-- the text so far is digits, and the value, of 64 bits, is what they spell
abbrev pub invariant-loop-byte : goal.invariant-loop-byte
invariant-loop-byte l = record {
  digits : are_digits l.base (take l.byte-index l.text) ≡ true;
  fits : l.value < 2 ^ 64;
  value : l.value ≡ place_value l.base (take l.byte-index l.text);
}
