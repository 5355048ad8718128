-- What the proofs of other crates may cite.

-- faultless_rules: a rule has no fault exactly where it is lawful
pub use Rattle.rule_set.proofs.Lawful.{faultless_rules}
-- some_category: a mask has a category exactly where its low bits aren't all 0
pub use Rattle.rule_set.proofs.CategoryBits.{some_category}
-- passes_there: at a place where a rule passes a test there is a rule
-- tests_in_turn: which of two tests is made first doesn't matter for the best of the rules that pass both
pub use Rattle.rule_set.proofs.Among.{passes_there, tests_in_turn}
-- places_in: all places of groups
-- place_of_group: a place of a group is a place of the groups
-- place_of_set: and a place of the set that the groups part
-- groups_decide: the winners of the groups decide which rule of the set wins
pub use Rattle.rule_set.proofs.Deciding.{places_in, place_of_group, place_of_set, groups_decide}
