use Rattle.std.proofs.Common.{sym, ◌∙◌}
use Rattle.acl_outside.proofs.FileLaws.{bytes_of-given, IsFound-made, IsFound-given}
use Rattle.acl_outside.specs.MemFile.{files_of}
use Rattle.acl_outside.proofs.mem_desk.find.Goals as goal

pub returns-then-is_named : goal.returns-then-is_named
returns-then-is_named c =
    IsFound-made c.args.files.now c.args.made.now c.args.name.now (sym c.is_named.ensures ∙ c.if-is_named.true)

pub returns-in_err-place : goal.returns-in_err-place
returns-in_err-place c =
    rw (c.from_residual.ensures)
    (bytes_of-given c.args.made.now (files_of c.args.files.now) c.args.name.now
    (sym c.is_named.ensures ∙ c.if-is_named.false)
    ∙ c.in_err-place.ensures)

pub returns : goal.returns
returns c =
    IsFound-given c.args.files.now c.args.made.now c.args.name.now c.in_ok-place.place
    (sym c.is_named.ensures ∙ c.if-is_named.false) c.in_ok-place.ensures
