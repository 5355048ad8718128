-- What the proofs of other crates may cite of this one.

-- the keys that are drawn take at most a transition for each trie and byte
pub use Rattle.bench_command.proofs.Measuring.{transitions-bound}
