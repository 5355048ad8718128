-- Examples at the limit of a ruleset, each checked by evaluation.
use Rattle.std.specs.Prelude.{◌≡◌, nat_lt, true, false, refl}
use Rattle.nft_reader.specs.Ruleset.{max_ruleset}

-- ---- bytes of a ruleset: at most 16,777,216

so_many_bytes : nat_lt max_ruleset 16777216 ≡ false
so_many_bytes = refl

one_byte_more : nat_lt max_ruleset 16777217 ≡ true
one_byte_more = refl
