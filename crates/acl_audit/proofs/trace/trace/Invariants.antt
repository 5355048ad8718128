-- what is left of the way back makes the key of what is written so far
use Rattle.std.proofs.Common.{◌≡◌, ◌-◌, ◌<◌, [], length, get_or}
use Rattle.acl_audit.specs.Traced.{traced}
use Rattle.acl_audit.proofs.trace.trace.Given as goal

abbrev pub invariant-loop-passed : goal.invariant-loop-passed
invariant-loop-passed l = record {
  key : traced l.links l.places (length l.links - l.passed) l.number l.key
      ≡ traced l.links l.places (length l.links) l.row l.fn.key;
  long : length l.key ≡ length l.fn.key;
  number : l.passed < length l.links → l.number < length (get_or l.links (length l.links - l.passed - 1) []);
}
