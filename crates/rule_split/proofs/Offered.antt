-- What proofs of other crates may cite.

-- the groups of a split hold each rule once
pub use Rattle.rule_split.proofs.Groups.{groups_hold}
-- where the total is within the budget it is the sum of the words of all groups, and of the row of no rule
pub use Rattle.rule_split.proofs.Totals.{total_of_words}
-- merged states keep the group that they were made of
pub use Rattle.rule_split.proofs.Totals.{group_of_levels}
