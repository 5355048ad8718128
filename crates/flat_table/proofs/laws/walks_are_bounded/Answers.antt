use Rattle.flat_table.proofs.Bounds.{batch_bound, key_bound}
use Rattle.flat_table.proofs.laws.walks_are_bounded.Goals as goal

pub returns : goal.returns
returns c = record { key = key_bound; batch = batch_bound }
