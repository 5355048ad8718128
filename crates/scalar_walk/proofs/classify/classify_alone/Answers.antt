use Rattle.std.proofs.Common.{ℕ, ap, ◌∙◌}
use Rattle.flat_table.specs.Batch.{key_verdicts}
use Rattle.scalar_walk.specs.Rows.{key_winners}
use Rattle.scalar_walk.proofs.Reached.{verdicts_are, winners_are}
use Rattle.scalar_walk.proofs.classify.classify_alone.Goals as goal

pub returns-else-tries-eq1-clause-verdicts : goal.returns-else-tries-eq1-clause-verdicts
returns-else-tries-eq1-clause-verdicts g c =
    let r = c.reach-reached.ensures in
    c.write_answers.ensures.verdicts ∙ verdicts_are r.rows r.few _
    ∙ ap (λ (n : ℕ). key_verdicts c.args.table.now n c.args.key.now) c.requires.room

pub returns-else-tries-eq1-clause-won : goal.returns-else-tries-eq1-clause-won
returns-else-tries-eq1-clause-won g c =
    let r = c.reach-reached.ensures in
    c.write_answers.ensures.won ∙ winners_are r.rows r.few _
    ∙ ap (λ (n : ℕ). key_winners c.args.table.now n c.args.key.now) c.requires.marks_room
