-- the definitions so far
use Rattle.std.proofs.Common.{◌≡◌, map, take, length}
use Rattle.acl_c.specs.Given.{def_of}
use Rattle.acl_c.proofs.given.defs_of.Given as goal

abbrev pub invariant-loop-place : goal.invariant-loop-place
invariant-loop-place l = record {
  defs : take l.place l.defs ≡ map def_of (take l.place l.fields);
  len : length l.defs ≡ 64;
}
