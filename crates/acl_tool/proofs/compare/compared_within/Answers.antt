use Rattle.std.proofs.Common.{Err, subst, sym, ap}
use Rattle.acl_tool.specs.Texts.{Refuses}
use Rattle.acl_tool.specs.CompareLines.{compared_within}
use Rattle.acl_tool.proofs.CompareLines.{line_is, refused_is}
use Rattle.acl_tool.proofs.compare.compared_within.Goals as goal

pub returns-in-Ok-clause-within : goal.returns-in-Ok-clause-within
returns-in-Ok-clause-within c =
    line_is c.args.budget c.args.family c.args.one.now c.args.two.now
    (λ many. absurd (let e = (c.in-Ok.ensures.too_many.1) many in cc)) c.in-Ok.ensures.fits

pub returns-in-Err-clause-refused : goal.returns-in-Err-clause-refused
returns-in-Err-clause-refused c =
    let its = refused_is c.args.budget c.args.family c.args.one.now c.args.two.now c.in-Err.fault
    (λ is. (c.in-Err.ensures.too_many.0) (ap Err is))
    (λ many. let e = (c.in-Err.ensures.too_many.1) many in cc)
    (λ words most is. c.in-Err.ensures.too_large words most (ap Err is)) in
    subst (Refuses (compared_within c.args.budget c.args.family c.args.one.now c.args.two.now))
    (sym c.compare_refused.ensures) its
