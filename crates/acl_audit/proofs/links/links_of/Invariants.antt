-- the links of the places so far
use Rattle.std.proofs.Common.{◌≡◌, map, take}
use Rattle.acl_audit.specs.Links.{links_of}
use Rattle.acl_audit.proofs.links.links_of.Given as goal

abbrev pub invariant-loop-depth : goal.invariant-loop-depth
invariant-loop-depth l = l.all.items ≡ map links_of (take l.depth l.levels.levels)
