-- What the box shares with the boxes so far.
use Rattle.list_lemmas.proofs.Loops.{Writes}
use Rattle.list_chains.specs.Spans.{box_meet}
use Rattle.list_chains.specs.Flat as flat
use Rattle.list_chains.proofs.steps.shared.Given as goal

-- with what it shares with those that are left, it is what it shares with all
abbrev pub invariant-loop-other : goal.invariant-loop-other
invariant-loop-other l =
    Writes (flat.shared box_meet l.met) l.boxes l.other-index l.parts.items (flat.shared box_meet l.met l.boxes)
