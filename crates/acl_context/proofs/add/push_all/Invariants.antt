-- the rules before the place stand after those that were held
use Rattle.std.proofs.Common.{◌≡◌, ◌++◌, map, take}
use Rattle.acl_context.proofs.add.push_all.Given as goal

abbrev pub invariant-loop-rule : goal.invariant-loop-rule
invariant-loop-rule g l =
    l.set ≡ record {
      layout = l.initial.set.layout;
      rules = l.initial.set.rules ++ map g.R.Given.view (take l.rule-index l.rules);
    }
