-- the bytes so far are marked
use Rattle.std.proofs.Common.{◌≡◌, ℕ, ◌<◌, ◌&&◌, ◌||◌, false, ltb, get_or}
use Rattle.node_expand.specs.declared.allowed.Allowed.TheVariants.{Agreeing}
use Rattle.node_expand.specs.Edges.{is_change}
use Rattle.node_expand.specs.Allowed.{answer_of}
use Rattle.node_expand.proofs.allowed.mark_agreeing.Given as goal

abbrev pub invariant-loop-byte : goal.invariant-loop-byte
invariant-loop-byte l =
    (place : ℕ) → place < 256 → get_or l.marks place false
    ≡ ((ltb place l.byte && is_change (answer_of (Agreeing l.value l.mask)) place) || get_or l.fn.marks place false)
