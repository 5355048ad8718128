-- The categories, one after the other.
use Rattle.std.proofs.Common.{◌≡◌, length}
use Rattle.std.proofs.lemmas.List.FromFn.{length-range_with_len}
use Rattle.rule_set.specs.Fault.{categories}

-- there are 16 categories
pub length-categories : length categories ≡ 16
unfolding categories
length-categories = length-range_with_len 0 16
