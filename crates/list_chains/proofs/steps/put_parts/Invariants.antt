-- The tasks of the parts so far, last first.
use Rattle.std.proofs.Common.{◌≡◌, ◌∷◌, drop}
use Rattle.list_chains.specs.Tasks.{parts_tasks}
use Rattle.list_chains.proofs.steps.put_parts.Given as goal

-- with those of the parts that are left, they are those of all
abbrev pub invariant-loop-part : goal.invariant-loop-part
invariant-loop-part l =
    parts_tasks (l.next ∷ l.frames) (drop l.part-index l.parts) l.tasks
    ≡ parts_tasks (l.next ∷ l.frames) l.parts l.fn.tasks
