-- What proofs of other crates may cite.

-- ---- the walk of a key, transition by transition

-- the place that a walk reads after n bytes is one of the key
pub use Rattle.flat_table.proofs.Lanes.{place_below}
-- a trie keeps no more places than a key has bytes
pub use Rattle.flat_table.proofs.Lanes.{places_bound}
-- a key takes at most one transition for each trie and byte
pub use Rattle.flat_table.proofs.Bounds.{key_bound}
-- and so does each key of a batch
pub use Rattle.flat_table.proofs.Bounds.{batch_bound}
-- a match stays, whatever bytes follow
pub use Rattle.flat_table.proofs.Transitions.{match_stays}
-- a trie gives a walk as many bytes as it keeps places
pub use Rattle.flat_table.proofs.Transitions.{bytes_len}
-- the row of a walk is named by the word that stands after all its bytes
pub use Rattle.flat_table.proofs.Transitions.{row_is}
-- a walk has as many transitions as it has after all its bytes
pub use Rattle.flat_table.proofs.Transitions.{transitions_are}
-- and at most one for each kept place
pub use Rattle.flat_table.proofs.Transitions.{transitions_bound}
-- row_at_match: where a match stands after n bytes, the walk has ended: its row is the one that the match names
-- transitions_at_match: and its transitions are those of the n bytes
pub use Rattle.flat_table.proofs.Transitions.{row_at_match, transitions_at_match}
-- ---- a walk on its way through a sound table

-- where a walk stands after n bytes: at a word that names a row, or leads into the next level
pub use Rattle.flat_table.proofs.Lanes.{Stands}
-- what the next byte brings it
pub use Rattle.flat_table.proofs.Lanes.{Goes}
-- it begins at the root
pub use Rattle.flat_table.proofs.Lanes.{begins}
-- one more byte brings it on
pub use Rattle.flat_table.proofs.Lanes.{goes}
-- after all bytes a match stands
pub use Rattle.flat_table.proofs.Lanes.{ends_at_match}
-- ---- what makes a table sound

-- levels-take: the first few levels are those of the first few lengths
-- levels-drop: the levels after them begin where they end
pub use Rattle.flat_table.proofs.Levels.{levels-take, levels-drop}
-- what the shape of parts says, fact by fact
pub use Rattle.flat_table.proofs.Shape.{IsShaped}
-- IsSound: a table is shaped, and no root and no word is unsound
-- sound_parts: so it is of a table without a fault
pub use Rattle.flat_table.proofs.Shape.{IsSound, sound_parts}
