-- Tables that pass the test may be those of an image.
use Rattle.std.proofs.Common.{◌≡◌, ℕ, ◌==◌, ◌&&◌, nat_le, Bool, true, drop, arith}
use Rattle.std.specs.List.{list_all}
use Rattle.std.proofs.lemmas.Bool.{and_parts}
use Rattle.std.proofs.lemmas.Bool.Decides.{nat_tests}
use Rattle.table_sizes.specs.Sizes.{max_rules}
use Rattle.flat_table.specs.Table.{TableView}
use Rattle.table_image.specs.Spelling.{CanBeSaved}
use Rattle.acl_c.specs.Images.{is_ranked_row, can_be_saved, are_saved}

-- what the test of a table says, fact by fact
can_be : (key_len : ℕ) (table : TableView) → can_be_saved key_len table ≡ true → CanBeSaved key_len table
unfolding is_ranked_row
can_be key_len table is =
    let ranked : Bool = list_all (is_ranked_row table.rules) (drop 1 table.rows) in
    let (first, each) = and_parts (table.key_len == key_len && nat_le table.rules max_rules) ranked is in
    let (same, few) = and_parts (table.key_len == key_len) (nat_le table.rules max_rules) first in
    record {
      keys = grind (arith, nat_tests, same);
      few = grind (arith, nat_tests, few);
      ranked = each;
    }

-- two tables that pass may be those of an image
pub both_can : (ip4 ip6 : TableView) → are_saved ip4 ip6 ≡ true → CanBeSaved 13 ip4 × CanBeSaved 37 ip6
both_can ip4 ip6 is =
    let (first, second) = and_parts (can_be_saved 13 ip4) (can_be_saved 37 ip6) is in
    (can_be 13 ip4 first, can_be 37 ip6 second)
