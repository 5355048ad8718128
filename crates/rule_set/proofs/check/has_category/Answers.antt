use Rattle.rule_set.proofs.CategoryBits.{some_category}
use Rattle.rule_set.proofs.check.has_category.Goals as goal

pub returns : goal.returns
returns c = some_category c.args.tag.now
