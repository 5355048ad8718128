-- What the proofs of other crates may cite.

-- key_at: the key of a number
-- key_some: a number of a key is above 0
pub use Rattle.state_parts.proofs.Keys.{key_at, key_some}
-- pair_sound: pairs that pass the test are one
pub use Rattle.state_parts.proofs.Standing.{pair_sound}
-- SameOn: two functions give the leaves of a tree the same entries
-- stands_alone: equal parts have equal numbers
-- stands_for_one: parts of one number are equal
-- none_left, nothing_stands: number 0 stands for nothing, and nothing else does
pub use Rattle.state_parts.proofs.Standing.{SameOn, stands_alone, stands_for_one, none_left, nothing_stands}
-- count_grows: more numbers make the count no lower
-- grows_none, grows_on: numbers go on from themselves, and from what they went on from
-- still_stands, found_grows, leads_grow: what a number stands for stays when more come
-- entry_is_led: an entry leads to what the step makes of it
pub use Rattle.state_parts.proofs.Leading.{count_grows, grows_none, grows_on, still_stands, found_grows, leads_grow}
pub use Rattle.state_parts.proofs.Leading.{entry_is_led}
-- RestIs: the pieces from a place on are those of the bytes from one on
-- rest_all: all pieces are those of all bytes
-- piece_from, piece_small, piece_at: the piece at the place begins with the byte, ends below 256, and has its bytes
-- rest_on: what is left after a piece's bytes
-- rest_below: before the end there is a byte left
-- rest_some: where a byte is left there is a piece
-- rest_end: at the end there is none
-- no_piece: a piece for a place at which there is none
pub use Rattle.state_parts.proofs.Covering.{RestIs, rest_all, piece_from, piece_small, piece_at, rest_on, rest_below}
pub use Rattle.state_parts.proofs.Covering.{rest_some, rest_end, no_piece}
-- row_grows, row_alone, row_is: a number of a row among more; a row has one number, and a number one row
-- get-join-any: the rank of a category in two rows as one, where either may be missing
pub use Rattle.state_parts.proofs.RowLaws.{row_grows, row_alone, row_is, get-join-any}
-- set_done, set_left: a list that is written element by element
pub use Rattle.state_parts.proofs.RowLaws.{set_done, set_left}
-- pieces-push, IsPieces-push: one more slice after the others
-- length-pieces: how many slices there are
pub use Rattle.state_parts.proofs.SliceLaws.{pieces-push, IsPieces-push, length-pieces}
