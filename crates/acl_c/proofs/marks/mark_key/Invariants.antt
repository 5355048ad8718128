-- the marks of the first categories are written
use Rattle.std.proofs.Common.{◌≡◌, length, take, map}
use Rattle.acl_c.specs.Marks.{mark_of}
use Rattle.acl_c.proofs.marks.mark_key.Given as goal

abbrev pub invariant-loop-category : goal.invariant-loop-category
invariant-loop-category l = record {
  len : length l.marks ≡ length l.fn.marks;
  written : take l.category l.marks ≡ map mark_of (take l.category l.won);
}
