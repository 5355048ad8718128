-- What the proofs of other crates may cite.

-- none_at: where a list of faults has no first one, there is none at any place
-- passes_test: where a fault is there unless a test passes, and isn't there, the test passes
-- passes_each: where a test has no failing number, each number passes it
-- lawful_sizes: the fields of a lawful layout have lawful sizes
-- short_keys: the key of a lawful layout has at least one byte, and no more than the limit
pub use Rattle.field_defs.proofs.Faultless.{none_at, passes_test, passes_each, lawful_sizes, short_keys}
-- ip4_is_layout, ip6_is_layout: the fields of either family are a lawful layout
pub use Rattle.field_defs.proofs.Families.{ip4_is_layout, ip6_is_layout}
-- size_at_least_1: a field has at least one byte
-- size_at_most_8: and at most eight
pub use Rattle.field_defs.proofs.Sizes.{size_at_least_1, size_at_most_8}
-- wild_is_every: a value is wild by its numbers exactly where every number of its size matches
pub use Rattle.field_defs.proofs.Wild.{wild_is_every}
-- filled_groups: a key of a lawful layout has the byte of the first field and four for each group
pub use Rattle.field_defs.proofs.Filled.{filled_groups}
