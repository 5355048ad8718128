-- What the proofs of other crates may cite.

-- are_bytes_from_fits: numbers that fit eight bits are bytes
-- key_length: a key of a batch has the layout's length
pub use Rattle.acl_context.proofs.Serving.{are_bytes_from_fits, key_length}
