use Rattle.std.proofs.Common.{sym, ◌∙◌}
use Rattle.acl_outside.proofs.FileLaws.{bytes_of-given}
use Rattle.acl_outside.specs.MemFile.{files_of}
use Rattle.acl_outside.proofs.mem_desk.MemDesk.file.Goals as goal

pub returns : goal.returns
returns c =
    let inside = c.self.inside in
    rw (
      ← c.self.view_is,
      bytes_of-given inside.made (files_of inside.files.items) c.args.name.now
          (sym c.is_named.ensures ∙ c.if-is_named.false),
    )
    (rw c.deref.ensures.value at c.given_bytes.ensures)
