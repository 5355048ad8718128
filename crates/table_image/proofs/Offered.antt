-- What the proofs of other crates may cite.

-- image_within: an image that is read isn't longer than the longest
-- image_same: bytes after more than that change no answer
pub use Rattle.table_image.proofs.FirstBytes.{image_within, image_same}
-- of every image its pair is read
pub use Rattle.table_image.proofs.Images.{image_spelled}
-- a number that is spelled by so many bytes has as many
pub use Rattle.table_image.proofs.Fields.{length_spelled}
-- and a list of numbers has as many for each of them
pub use Rattle.table_image.proofs.NumbersRead.{length-all_spelled}
