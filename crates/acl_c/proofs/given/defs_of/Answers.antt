use Rattle.std.proofs.Common.{◌++◌, ◌∷◌, [], map, sym, ap, ◌∙◌, arith}
use Rattle.std.proofs.lemmas.List.{take_more, take_more_set, map_push, length-set}
use Rattle.acl_c.specs.Given.{def_of}
use Rattle.acl_c.proofs.given.defs_of.Goals as goal

pub loop-place-preserved : goal.loop-place-preserved
loop-place-preserved c =
    let l = c.loop-place in
    let fields = c.args.fields.now in
    let here = c.loop-place-test.true in
    record {
      defs = take_more_set l.defs l.place c.def_of.result (omega (arith, here, c.requires, l.invariant.len))
          ∙ (λ i. l.invariant.defs i ++ c.def_of.ensures i ∷ [])
          ∙ sym (ap (map def_of) (take_more fields l.place _ here) ∙ map_push def_of _ _);
      len = length-set l.defs l.place c.def_of.result ∙ l.invariant.len;
    }
