use Rattle.std.proofs.Common.{◌<◌, ◌≤◌, ℕ, List, length, ap, ◌∙◌, arith}
use Rattle.table_sizes.specs.Groups.{max_key_len}
use Rattle.table_sizes.specs.Sizes.{max_tries}
use Rattle.flat_table.specs.Batch.{batch_verdicts, batch_transitions}
use Rattle.acl_c.proofs.Apart.{packed_verdicts, packed_transitions, transitions_bound, packed_fit}
use Rattle.acl_c.proofs.keys.walk_some.Goals as goal

pub walk_table-requires-clause-fits : goal.walk_table-requires-clause-fits
walk_table-requires-clause-fits c =
    let table = c.args.table.now in
    let some : 0 < table.key_len = omega (arith, c.key_len-key_len.ensures.value, c.key_len-key_len.ensures.some) in
    rw c.pack.ensures.is
    (packed_fit table c.args.keys.now some c.requires.lens c.args.asked.cats.count (length c.args.verdicts.now)
    c.requires.most c.requires.room)

pub returns-clause-verdicts : goal.returns-clause-verdicts
returns-clause-verdicts c =
    let table = c.args.table.now in
    let count : ℕ = c.args.asked.cats.count in
    let some : 0 < table.key_len = omega (arith, c.key_len-key_len.ensures.value, c.key_len-key_len.ensures.some) in
    c.walk_table.ensures.verdicts
    ∙ ap (λ (bytes : List ℕ). batch_verdicts table count bytes) c.pack.ensures.is
    ∙ packed_verdicts table c.args.keys.now some c.requires.lens count

pub returns-clause-taken : goal.returns-clause-taken
returns-clause-taken c =
    let table = c.args.table.now in
    let some : 0 < table.key_len = omega (arith, c.key_len-key_len.ensures.value, c.key_len-key_len.ensures.some) in
    c.walk_table.ensures.taken
    ∙ ap (λ (bytes : List ℕ). batch_transitions table bytes) c.pack.ensures.is
    ∙ packed_transitions table c.args.keys.now some c.requires.lens

pub returns-clause-bound : goal.returns-clause-bound
returns-clause-bound c =
    let table = c.args.table.now in
    let len = c.key_len-key_len.ensures in
    let some : 0 < table.key_len = omega (arith, len.value, len.some) in
    let short : table.key_len ≤ max_key_len = omega (arith, len.value, len.bound) in
    let few : length table.roots ≤ max_tries =
    omega (arith, c.tries-tries.ensures.value, c.tries-tries.ensures.bound) in
    omega (arith, returns-clause-taken c, transitions_bound table c.args.keys.now some c.requires.lens short few)
