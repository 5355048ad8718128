use Rattle.std.proofs.Common.{sym, ◌∙◌, arith}
use Rattle.acl_outside.proofs.FileLaws.{StandsAt-found}
use Rattle.acl_outside.proofs.mem_desk.place_of.Goals as goal

pub returns-then-eq : goal.returns-then-eq
returns-then-eq c =
    StandsAt-found c.args.files.now c.loop-place.place c.index-files-place.result c.args.name.now (omega arith)
    c.index-files-place.is
    (rw c.as_str.ensures.value at (sym c.eq.ensures ∙ c.if-eq.true)) c.loop-place.invariant
