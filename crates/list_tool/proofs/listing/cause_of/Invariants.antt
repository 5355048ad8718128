-- No fault so far has the handle.
use Rattle.std.proofs.Common.{◌≡◌, drop}
use Rattle.list_tool.specs.Listing.{cause_of}
use Rattle.list_tool.proofs.listing.cause_of.Given as goal

-- the first one is that from here on
abbrev pub invariant-loop-fault : goal.invariant-loop-fault
invariant-loop-fault l = cause_of l.handle (drop l.fault-index l.faults) ≡ cause_of l.handle l.faults
