-- No rule so far has odd addresses.
use Rattle.std.proofs.Common.{◌≡◌, drop}
use Rattle.list_tool.specs.Printed.{first_odd}
use Rattle.list_tool.proofs.printing.first_odd.Given as goal

-- the first one is that from here on
abbrev pub invariant-loop-place : goal.invariant-loop-place
invariant-loop-place l =
    first_odd l.family l.by_line l.place (drop l.place l.rules) ≡ first_odd l.family l.by_line 0 l.rules
