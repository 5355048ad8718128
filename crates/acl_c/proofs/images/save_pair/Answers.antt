use Rattle.std.proofs.Common.{sym, ◌∙◌}
use Rattle.acl_c.proofs.Saving.{both_can}
use Rattle.acl_c.proofs.images.save_pair.Goals as goal

pub save-requires-clause-ip4 : goal.save-requires-clause-ip4
save-requires-clause-ip4 c =
    (both_can c.args.ip4.now c.args.ip6.now (sym c.are_saved.ensures ∙ c.if-not-are_saved.false)).0

pub save-requires-clause-ip6 : goal.save-requires-clause-ip6
save-requires-clause-ip6 c =
    (both_can c.args.ip4.now c.args.ip6.now (sym c.are_saved.ensures ∙ c.if-not-are_saved.false)).1
