-- Rests are compared by their numbers.
pub use Rattle.node_expand.proofs.Completions.{rests_compared}
