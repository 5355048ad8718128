-- What the proofs of other crates may cite.

-- length-categories: there are 16 categories
pub use Rattle.group_states.proofs.Categories.{length-categories}
-- All-found_in: what holds of each element of a list holds of each that is found in it
-- all_found: and so it does where some were found before
-- is_new: the element is live and not among those found
-- stays_found: an element that isn't new changes nothing
-- goes_after: an element that is new stands after the others
-- old_for_more: what isn't new stays so when more is found
-- found_grows: the elements found stay, and more of them come
-- NoneNew: no element is new
-- none_new_more: so it stays when more is found
-- all_stays: elements that aren't new change nothing
-- old_once_found: once found, an element isn't new
-- none_new_once_found: and none of a list is, once the list was gone through
-- found_in-map: a function that keeps elements apart takes what is found to what is found
pub use Rattle.group_states.proofs.Finds.{All-found_in, all_found, is_new, stays_found, goes_after, old_for_more}
pub use Rattle.group_states.proofs.Finds.{found_grows, NoneNew, none_new_more, all_stays, old_once_found}
pub use Rattle.group_states.proofs.Finds.{none_new_once_found, found_in-map}
-- found_for_key: the rows that are found for all keys are those of their last states
-- runs_lead: the runs of a group lead a key to the row of the rules that match it
-- same_is: two successors that pass the test are one
-- whole_numbers: the rules of the state after a whole key are those that match
-- some_field: a rule without values matches no key of a layout with a field
-- same_state_refl, same_state_sound: a state is itself by the test, and states that pass it are one
pub use Rattle.group_states.proofs.Following.{found_for_key, runs_lead, same_is, whole_numbers, some_field}
pub use Rattle.group_states.proofs.Following.{same_state_refl, same_state_sound}
-- Gaps: the places between two kept places, for each kept place
-- HasFirst: a list of places has a first one
-- kept_places_first: the first kept place, and those after it
pub use Rattle.group_states.proofs.Gaps.{Gaps, HasFirst, kept_places_first}
-- group_held: the rules of a group are in the set, and lawful
-- packed_start: at the first kept place there is one state, of all rules
-- gap_next: between a kept place and the next one all places are wild
-- place_inside: a kept place is a place of the key
-- rest_is: the kept places from one on are it and those after it
-- level_here: what is found at a kept place, and its runs
-- rows_long: each row has a number for each category
pub use Rattle.group_states.proofs.LevelRuns.{group_held, packed_start, gap_next, place_inside, rest_is, level_here}
pub use Rattle.group_states.proofs.LevelRuns.{rows_long}
-- AreBytes: bytes spell a number of so many bytes
-- Stands: the edge kept of a rule is one that the field of a place sees
-- packed_stands: so is the one after some bytes of a key
pub use Rattle.group_states.proofs.Packed.{AreBytes, Stands, packed_stands}
-- IsHeld: the rule of that number is in the set, and its values are lawful
-- IsEntryAt: an entry is the edge that is kept of a rule after some bytes
-- decoded: the rule and the rest that an entry stands for
-- number_in-entry_of, edge_in-entry_of: an entry holds its rule's number and its edge
-- entry_can_step: such an entry can be asked about bytes
-- packed_state: the state after some bytes is what the entries after them stand for
-- packed_entries: each of them is such an entry
-- packed_state_start: before the first byte
-- packed_state_wild: a byte at a place at which all rules are wild leaves the entries as they are
-- same_state-Decides: the test on two states decides whether they are one
-- state_is: the state is what the entries stand for
pub use Rattle.group_states.proofs.PackedState.{IsHeld, IsEntryAt, decoded, number_in-entry_of, edge_in-entry_of}
unfoldable pub use Rattle.group_states.proofs.PackedState.{packed_state}
pub use Rattle.group_states.proofs.PackedState.{entry_can_step, packed_entries, packed_state_start, packed_state_wild}
pub use Rattle.group_states.proofs.PackedState.{same_state-Decides, state_is}
-- IsPrefix: the list is a key's first bytes
-- each_of_bytes: what holds of the images of all bytes
-- bytes_below: each byte is below 256
-- prefix_push: one more byte
-- prefixes_are: each list among the prefixes is one of so many bytes
pub use Rattle.group_states.proofs.Prefixes.{IsPrefix, each_of_bytes, bytes_below, prefix_push, prefixes_are}
-- IsGap: the places between a kept place and the next one are wild
-- packed_at: the entries of the states of a place
-- entries_next: those that a byte leads to are entries of the next kept place
-- states_are: the states of a place are what its entries stand for
-- zeros_small, zeros_on: bytes 0 at wild places leave the entries as they are
pub use Rattle.group_states.proofs.Reached.{IsGap, packed_at, entries_next, states_are, zeros_small, zeros_on}
-- state_goes_through: the state after some more bytes
pub use Rattle.group_states.proofs.RestSteps.{state_goes_through}
-- length-all_bytes: there are 256 bytes
-- one_more_byte: the first of them, and one more
-- some_runs: the runs that end before a byte
-- no_runs, run_ends, run_goes_on, all_runs: there is none at first, one more or no more for a byte, and then all
-- same_runs: successors that agree for each byte have the same runs
pub use Rattle.group_states.proofs.Runs.{length-all_bytes, one_more_byte, some_runs, no_runs, run_ends, run_goes_on}
pub use Rattle.group_states.proofs.Runs.{all_runs, same_runs}
-- held_of: the rules of a group are in the set, and lawful
pub use Rattle.group_states.proofs.StateLaws.{held_of}
-- length-zipped: there are as many values as fields
-- value_lies, value_of_rule: the value of the field that has a place of the key
-- wild_told: whether it is wild
pub use Rattle.group_states.proofs.WildAt.{length-zipped, value_lies, value_of_rule, wild_told}
