-- What the proofs of other crates may cite.

-- taken_bound: what all keys of a batch take is within their bound
pub use Rattle.scalar_walk.proofs.Batches.{taken_bound}
-- ---- pieces that are written one after the other, one for each key

-- PiecesTo: the first n pieces of a length are written
-- pieces_none: before the first all is as it was
-- one_piece: one piece more
-- all_pieces: all of them
-- pieces_are: the pieces below a number are those of the range, one after the other
-- pieces_agree: two functions that agree below a number have the same pieces there
pub use Rattle.scalar_walk.proofs.Below.{PiecesTo, pieces_none, one_piece, all_pieces, pieces_are, pieces_agree}
-- the room for the pieces of m keys, as the code cuts it
pub use Rattle.scalar_walk.proofs.Batches.{room_of_part}
