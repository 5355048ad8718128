-- None so far is the one.
use Rattle.std.proofs.Common.{◌≡◌, drop}
use Rattle.std.specs.List.{position_from}
use Rattle.nft_reader.specs.Starts.{drops_beside, place_beside}
use Rattle.nft_reader.proofs.starts.place_beside.Given as goal

-- the place is that of the first one from here on
abbrev pub invariant-loop-place : goal.invariant-loop-place
invariant-loop-place l =
    place_beside l.marks l.asked l.base l.chains
    ≡ position_from (drops_beside l.marks l.asked l.base) l.place (drop l.place l.chains)
