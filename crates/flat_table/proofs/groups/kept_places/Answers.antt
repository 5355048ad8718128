use Rattle.std.proofs.Common.{arith}
use Rattle.std.proofs.lemmas.Grind.{common_steps}
use Rattle.list_lemmas.proofs.Positions.{filter-range-push}
use Rattle.table_sizes.specs.Groups.{is_kept}
use Rattle.flat_table.proofs.groups.kept_places.Goals.{then-is_kept, else-is_kept}
use Rattle.flat_table.proofs.groups.kept_places.Goals as goal

pub loop-place-preserved : goal.loop-place-preserved
loop-place-preserved c =
    let more = filter-range-push (is_kept c.args.kept) c.loop-place.place in
    elim c.if-is_kept.branch [
      | then-is_kept w ↦ grind (arith, common_steps, more)
      | else-is_kept w ↦ grind
          (arith, common_steps, more)
    ]
