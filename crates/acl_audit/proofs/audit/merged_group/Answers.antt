use Rattle.std.proofs.Common.{sym, subst}
use Rattle.group_states.specs.Levels.{IsGroup}
use Rattle.acl_audit.proofs.Fitting.{all_are_group}
use Rattle.acl_audit.proofs.audit.merged_group.Goals as goal

pub build-requires-clause-group : goal.build-requires-clause-group
build-requires-clause-group c =
    subst (IsGroup c.args.rules.now) (sym c.requires.group) (all_are_group c.args.rules.now c.requires.some)
