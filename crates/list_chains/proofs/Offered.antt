-- What the proofs of other crates may cite.

-- way_on_loop: the rule at which jumps that don't end are refused lies on a loop
pub use Rattle.list_chains.proofs.LoopedWays.{way_on_loop}
-- flat_list_answers: the first entry that a packet is in answers as the chains do
-- first_append: the first answer of two lists is that of the first one, or else of the second
pub use Rattle.list_chains.proofs.Flattened.{flat_list_answers, first_append}
-- steps_write_the_same: what a task leaves to do writes the same as the task
-- enter_is: a chain that is entered writes its flat list
pub use Rattle.list_chains.proofs.SameSteps.{steps_write_the_same, enter_is}
-- before_is: rules before others are there if the others are
-- act_outside: a task answers for no packets but those of its box
-- decided_outside: a box that is decided has no key that isn't in the last one
pub use Rattle.list_chains.proofs.MadeRules.{before_is, act_outside, decided_outside}
-- box_meet_is_meet: what two boxes have in common has the keys of both, and no others
pub use Rattle.list_chains.proofs.BoxMeets.{box_meet_is_meet}
-- expanded_is: the rows of boxes answer as the boxes
-- in_whole: each key of bytes is in the whole box
pub use Rattle.list_chains.proofs.BoxRows.{expanded_is, in_whole}
-- rows_lawful: the rows of a box that fits a layout are lawful
pub use Rattle.list_chains.proofs.LawfulRows.{rows_lawful}
-- step_keeps: each step leaves boxes that fit the layout
pub use Rattle.list_chains.proofs.Fitting.{step_keeps}
-- every_bit: each of the sixteen categories is a bit of the mask of all
pub use Rattle.list_chains.proofs.Turnings.{every_bit}
