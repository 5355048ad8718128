-- No chain so far is the one.
use Rattle.std.proofs.Common.{◌≡◌, drop}
use Rattle.std.specs.List.{position_from}
use Rattle.nft_reader.specs.Starts.{is_start, start_from}
use Rattle.nft_reader.proofs.starts.start_from.Given as goal

-- the place is that of the first one from here on
abbrev pub invariant-loop-place : goal.invariant-loop-place
invariant-loop-place l =
    start_from l.name l.from l.chains ≡ position_from (is_start l.name) l.place (drop l.place l.chains)
