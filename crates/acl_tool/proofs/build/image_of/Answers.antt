use Rattle.capture_report.specs.Classifier.{lists_of}
use Rattle.acl_tool.proofs.BuildEnds.{image_saved, saved_both}
use Rattle.acl_tool.proofs.build.image_of.Goals as goal

pub save-requires-clause-ip4 : goal.save-requires-clause-ip4
save-requires-clause-ip4 c =
    (saved_both c.args.budget (lists_of c.args.rules) c.in_ok-contexts.contexts.ip4.table
    c.in_ok-contexts.contexts.ip6.table c.table_of-ip4.result.now c.table_of-ip6.result.now
    c.in_ok-contexts.ensures.built c.table_of-ip4.ensures c.table_of-ip6.ensures c.in_ok-contexts.ensures.few).0

pub save-requires-clause-ip6 : goal.save-requires-clause-ip6
save-requires-clause-ip6 c =
    (saved_both c.args.budget (lists_of c.args.rules) c.in_ok-contexts.contexts.ip4.table
    c.in_ok-contexts.contexts.ip6.table c.table_of-ip4.result.now c.table_of-ip6.result.now
    c.in_ok-contexts.ensures.built c.table_of-ip4.ensures c.table_of-ip6.ensures c.in_ok-contexts.ensures.few).1

pub returns-clause-saved : goal.returns-clause-saved
returns-clause-saved c =
    image_saved c.args.budget (lists_of c.args.rules) c.in_ok-contexts.contexts.ip4.table
    c.in_ok-contexts.contexts.ip6.table c.table_of-ip4.result.now c.table_of-ip6.result.now c.in_ok-image.image.items
    c.in_ok-contexts.ensures.built c.table_of-ip4.ensures c.table_of-ip6.ensures c.in_ok-image.ensures.spelling
    c.in_ok-image.ensures.image
