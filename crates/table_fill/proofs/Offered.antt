-- What proofs of other crates may cite.

-- a table has a root for each of its tries
pub use Rattle.table_fill.proofs.Sounds.{length-roots}
