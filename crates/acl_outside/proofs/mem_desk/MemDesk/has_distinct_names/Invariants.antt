use Rattle.std.proofs.Common.{◌≡◌, length}
use Rattle.acl_outside.specs.Memory.{distinct_names}
use Rattle.acl_outside.specs.MemFile.{files_of}
use Rattle.acl_outside.proofs.mem_desk.MemDesk.has_distinct_names.Given as goal

-- the files so far have names of their own
abbrev pub invariant-files : goal.invariant-files
invariant-files l = distinct_names (files_of l.files) ≡ distinct_names (files_of l.rest)

abbrev pub decreases-files : goal.decreases-files
decreases-files l = length l.rest
