-- What the proofs of other crates may cite.

-- state_after_both: the state after two numbers of steps, one after the other
pub use Rattle.workload_gen.proofs.Words.{state_after_both}
