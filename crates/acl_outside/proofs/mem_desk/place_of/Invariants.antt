use Rattle.std.proofs.Common.{◌≡◌, drop}
use Rattle.acl_outside.specs.Desk.{bytes_of}
use Rattle.acl_outside.specs.MemFile.{files_of}
use Rattle.acl_outside.proofs.mem_desk.place_of.Given as goal

-- no file so far has that name
abbrev pub invariant-loop-place : goal.invariant-loop-place
invariant-loop-place l = bytes_of (files_of l.files) l.name ≡ bytes_of (files_of (drop l.place l.files)) l.name
