use Rattle.std.proofs.Common.{◌+◌, ◌*◌, ◌<◌, inl, inr, arith, ◌∙◌}
use Rattle.std.specs.Prelude.{slice_index}
use Rattle.scalar_walk.proofs.vectors.groups_at.Goals.{then-count-eq4, else-count-eq4}
use Rattle.scalar_walk.proofs.vectors.groups_at.Goals as goal

pub returns : goal.returns
returns c i k few part =
    elim c.if-count-eq4.branch [
      | then-count-eq4 w ↦ (λ j. slice_index (w.result-is j) (4 * i + k))
          ∙ w.whole_groups.ensures i k few (omega (arith, part))
      | else-count-eq4 w ↦
          let one : k < 1 = elim c.requires.count [
            | inl is ↦ omega (arith, part, is)
            | inr is ↦ absurd (w.if-count-eq4.false is)
          ] in
          (λ j. slice_index (w.result-is j) (4 * i + k)) ∙ w.single_bytes.ensures i k few one
    ]
