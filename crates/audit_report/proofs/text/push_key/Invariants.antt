-- the digits of the bytes so far
use Rattle.std.proofs.Common.{◌≡◌, ◌++◌, take}
use Rattle.audit_report.specs.Key.{hex_text}
use Rattle.audit_report.proofs.text.push_key.Given as goal

abbrev pub invariant-loop-place : goal.invariant-loop-place
invariant-loop-place l = l.text.items ≡ l.fn.text.items ++ hex_text (take l.place l.key)
