-- Where a value leaves all numbers it leaves all of them after more bytes.
pub use Rattle.node_expand.proofs.EdgeRests.{wild_stays_free, free_stays_free}
