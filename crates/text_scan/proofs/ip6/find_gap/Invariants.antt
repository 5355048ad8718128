use Rattle.std.proofs.Common.{◌≡◌, ◌+◌, drop}
use Rattle.text_scan.specs.Ip6.{gap_place}
use Rattle.text_scan.proofs.ip6.find_gap.Given as goal

-- no `::` begins before the place
abbrev pub invariant-loop-place : goal.invariant-loop-place
invariant-loop-place l = gap_place l.text ≡ l.place + gap_place (drop l.place l.text)
