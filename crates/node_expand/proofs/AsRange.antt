-- A mask is the range of the numbers that it lets through.
pub use Rattle.node_expand.proofs.EdgeRests.{as_its_range}
