-- What the proofs of other crates may cite.

-- rest_whole: after all its bytes a field is live exactly where its number matches
pub use Rattle.node_expand.proofs.Steps.{rest_whole}
-- rest_steps: the rest after one more byte is the step of the rest
pub use Rattle.node_expand.proofs.Steps.{rest_steps}
-- rests_compared: rests are compared by their numbers
pub use Rattle.node_expand.proofs.Compared.{rests_compared}
-- edges_say: an edge, where there is one, stands for the rest that it was made of
-- edges_are_one: two edges that stand before a place are one where their rests are
pub use Rattle.node_expand.proofs.EdgeRests.{edges_say, edges_are_one}
-- range_start: before the first byte a range leaves all of itself
-- mask_start: a mask the range that it lets through
-- bitmask_start: and a bitmask is live
-- starts: what is said of the edge before the first byte follows from its form
-- step_form: the step from an edge is the form of the rest after one more byte
pub use Rattle.node_expand.proofs.EdgeRests.{range_start, mask_start, bitmask_start, starts, step_form}
-- wild_stays_free: where a value leaves all numbers it leaves all of them after more bytes
-- all_left_step: where neither end of what is left is inner, each byte leaves all numbers again
pub use Rattle.node_expand.proofs.EdgeRests.{wild_stays_free, all_left_step}
-- cuts_are_changes: a byte is a cut exactly where it answers otherwise than the byte before it
-- stays_alike: answers that are alike stay so for what answers each byte the same
pub use Rattle.node_expand.proofs.Changes.{cuts_are_changes, stays_alike}
