-- The words are those of the states and of the rows.
use Rattle.std.proofs.Common.{◌≡◌, length, ap, refl, arith}
use Rattle.trie_merge.proofs.build.finish.Goals as goal
use Rattle.group_states.specs.Levels.{levels_of}
use Rattle.group_states.specs.Row.{rows_of}

pub returns : goal.returns
unfolding levels_of
returns c =
    let count : c.len.result ≡ length (rows_of c.args.rules.now c.args.group.now) =
    omega (arith, c.len.ensures, c.in_ok-rows.rows.ok, ap length c.in_ok-rows.ensures) in
    let its = c.requires.merged in
    rw (c.requires.kept, c.in_ok-members.ensures.items, c.into_levels.ensures, its.runs)
    (rw (c.in_ok-rows.ensures, count, its.sum) refl)
