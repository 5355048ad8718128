-- None so far is the one.
use Rattle.std.proofs.Common.{◌≡◌, drop}
use Rattle.std.specs.List.{position_from}
use Rattle.nft_reader.specs.Starts.{leads_to_marked, led_place}
use Rattle.nft_reader.proofs.starts.led_place.Given as goal

-- the place is that of the first one from here on
abbrev pub invariant-loop-place : goal.invariant-loop-place
invariant-loop-place l =
    led_place l.marks l.leads
    ≡ position_from (leads_to_marked l.marks) l.place (drop l.place l.leads)
