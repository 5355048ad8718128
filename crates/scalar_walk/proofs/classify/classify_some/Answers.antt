use Rattle.std.proofs.Common.{◌≡◌, ℕ, List, length, arith, ap, ◌∙◌}
use Rattle.std.specs.Prelude.{slice_index}
use Rattle.flat_table.specs.Batch.{key_at, key_verdicts}
use Rattle.flat_table.specs.Walk.{key_transitions, walk_transitions}
use Rattle.scalar_walk.specs.Lanes.{pieces_below}
use Rattle.scalar_walk.specs.Rows.{row_verdicts, row_winners, key_winners}
use Rattle.scalar_walk.proofs.Below.{pieces_agree, sum_agree}
use Rattle.scalar_walk.proofs.Reached.{one_verdicts, one_winners, one_transitions}
use Rattle.scalar_walk.proofs.classify.classify_some.Goals as goal

pub write_rows-requires-clause-there : goal.write_rows-requires-clause-there
write_rows-requires-clause-there g c k h =
    omega (
      arith,
      (c.walk_keys-taken.ensures.rows k h).there,
      ap (λ (rows : List (List ℕ)). length rows) c.rows.ensures,
    )

pub returns-then-tries-eq1-clause-verdicts : goal.returns-then-tries-eq1-clause-verdicts
returns-then-tries-eq1-clause-verdicts g c =
    let table = c.args.table.now in
    let one : length table.roots ≡ 1 = omega arith in
    let key = λ (k : ℕ). key_at table c.args.keys.now k in
    let row = λ (k : ℕ). slice_index c.walk_keys-taken.new.rows k in
    let count : ℕ = c.args.asked.count in
    let n : ℕ = c.args.count in
    c.write_rows.ensures.verdicts
    ∙ ap (λ (rows : List (List ℕ)). pieces_below (λ k. row_verdicts rows count (row k)) n) c.rows.ensures
    ∙ pieces_agree (λ k. row_verdicts table.rows count (row k)) (λ k. key_verdicts table count (key k)) n
    (λ k h. one_verdicts table (key k) count one (c.walk_keys-taken.ensures.rows k h).is)

pub returns-then-tries-eq1-clause-won : goal.returns-then-tries-eq1-clause-won
returns-then-tries-eq1-clause-won g c =
    let table = c.args.table.now in
    let one : length table.roots ≡ 1 = omega arith in
    let key = λ (k : ℕ). key_at table c.args.keys.now k in
    let row = λ (k : ℕ). slice_index c.walk_keys-taken.new.rows k in
    let marks : ℕ = c.args.asked.marks in
    let n : ℕ = c.args.count in
    c.write_rows.ensures.won
    ∙ ap (λ (rows : List (List ℕ)). pieces_below (λ k. row_winners rows marks (row k)) n) c.rows.ensures
    ∙ pieces_agree (λ k. row_winners table.rows marks (row k)) (λ k. key_winners table marks (key k)) n
    (λ k h. one_winners table (key k) marks one (c.walk_keys-taken.ensures.rows k h).is)

pub returns-then-tries-eq1-clause-taken : goal.returns-then-tries-eq1-clause-taken
returns-then-tries-eq1-clause-taken g c =
    let table = c.args.table.now in
    let one : length table.roots ≡ 1 = omega arith in
    let key = λ (k : ℕ). key_at table c.args.keys.now k in
    omega (
      arith,
      c.walk_keys-taken.ensures.taken,
      sum_agree (λ k. key_transitions table (key k)) (λ k. walk_transitions table 0 (key k)) c.args.count
          (λ k h. one_transitions table (key k) one),
    )
