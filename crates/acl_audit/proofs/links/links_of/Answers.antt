use Rattle.std.proofs.Common.{◌++◌, ◌∷◌, [], ◌∙◌, ap, arith}
use Rattle.acl_audit.proofs.LinkSteps.{one_place_more, all_places_linked}
use Rattle.acl_audit.proofs.links.links_of.Goals as goal

pub loop-depth-preserved : goal.loop-depth-preserved
loop-depth-preserved c =
    let l = c.loop-depth in
    one_place_more l.all.items c.push.new.self.items l.depth c.args.levels.now.levels
    (omega (arith, c.loop-depth-test.true, c.depths-depth-end.ensures)) l.invariant
    (c.in_ok-push.ensures.items ∙ ap (λ links. l.all.items ++ links ∷ []) c.in_ok-links.ensures)

pub returns : goal.returns
returns c =
    let l = c.loop-depth in
    all_places_linked l.all.items l.depth c.args.levels.now.levels
    (omega (arith, c.loop-depth-test.false, c.depths-depth-end.ensures)) l.invariant
