-- nothing has changed so far
use Rattle.std.proofs.Common.{◌≡◌, ℕ, ◌<◌, false}
use Rattle.node_expand.specs.declared.allowed.Allowed.TheVariants.{Agreeing}
use Rattle.node_expand.specs.Edges.{is_change}
use Rattle.node_expand.specs.Allowed.{answer_of}
use Rattle.node_expand.proofs.allowed.last_agreeing.Given as goal

abbrev pub invariant-loop-byte : goal.invariant-loop-byte
invariant-loop-byte l =
    (byte : ℕ) → l.first < byte → byte < l.byte → is_change (answer_of (Agreeing l.value l.mask)) byte ≡ false
