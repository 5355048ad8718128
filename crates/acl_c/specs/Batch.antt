-- Batches as C gives them: what is wrong with them, if anything is.
use Rattle.std.specs.Prelude.{ℕ, ◌/◌, ◌%◌, ◌==◌, ◌&&◌, nat_lt, not, Option, Some, None}
use Rattle.std.specs.Prelude.{if◌then◌else◌}
use Rattle.rule_set.specs.Categories.{is_count_of_categories}
use Rattle.table_sizes.specs.Sizes.{max_keys}
use Rattle.flat_table.specs.declared.walk.Walk.{Walk}
use Rattle.flat_table.specs.declared.walk.Walk.TheVariants.{Scalar, Lanes}
use Rattle.acl_c.specs.Codes.{ok, bad_length, bad_categories, bad_walk, too_many_keys, no_lanes}

-- the walk of a number
abbrev pub walk_of : ℕ → Option Walk
walk_of number = if number == 0 then Some Scalar else (if number == 1 then Some Lanes else None)

-- whether so many bytes of keys are whole keys, which are few enough, with room for so many
-- verdicts of each
abbrev pub lengths_code : ℕ → ℕ → ℕ → ℕ → ℕ
lengths_code key_len keys count room =
    if not (keys % key_len == 0) then bad_length
    else (if nat_lt max_keys (keys / key_len) then too_many_keys
    else (if room % count == 0 && room / count == keys / key_len then ok else bad_length))

-- a walk by lanes has room for its keys
abbrev pub lanes_code : Option Walk → ℕ → ℕ → ℕ
lanes_code None room keys = bad_walk
lanes_code (Some Scalar) room keys = ok
lanes_code (Some Lanes) room keys = if nat_lt room keys then no_lanes else ok

-- the first code, if it isn't that of success, and else the second
abbrev pub code_or : ℕ → ℕ → ℕ
code_or code other = if code == ok then other else code

-- the walk is none
abbrev pub walk_code : Option Walk → ℕ
walk_code None = bad_walk
walk_code (Some walk) = ok

-- what a classification answers
abbrev pub batch_code : ℕ → ℕ → ℕ → ℕ → ℕ → ℕ → ℕ
batch_code key_len lanes keys categories walk room =
    if is_count_of_categories categories
    then code_or (walk_code (walk_of walk))
    (code_or (lengths_code key_len keys categories room)
    (lanes_code (walk_of walk) lanes (keys / key_len)))
    else bad_categories
