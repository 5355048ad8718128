use Rattle.std.proofs.Common.{◌-◌, ◌∙◌, List, [], length, get_or, ap, arith}
use Rattle.acl_audit.specs.declared.links.Link.{Link}
use Rattle.acl_audit.specs.Links.{no_link}
use Rattle.std.proofs.lemmas.List.{length-set, get_or_default}
use Rattle.acl_audit.proofs.Back.{one_back, lower_number}
use Rattle.acl_audit.proofs.trace.trace.Goals as goal

pub loop-passed-preserved : goal.loop-passed-preserved
loop-passed-preserved c =
    let n = length c.args.links.now in
    let before = c.loop-passed.invariant in
    let link = c.at-link.ensures ∙ ap (λ (l : List Link). get_or l c.loop-passed.number no_link)
    (c.index-links-depth.is ∙ get_or_default c.args.links.now (n - 1 - c.loop-passed.passed) _ []
    (omega (arith, c.loop-passed-test.true))) in
    record {
      key = one_back c.args.links.now c.args.places.now n c.loop-passed.passed c.loop-passed.number c.loop-passed.key
          c.at-link.result (omega (arith, c.loop-passed-test.true)) link ∙ before.key;
      long = length-set c.loop-passed.key _ _ ∙ before.long;
      number = λ more. lower_number c.args.links.now n c.loop-passed.passed c.loop-passed.number c.at-link.result
          c.requires.chained (omega arith) more (before.number (omega (arith, more))) link;
    }
