-- The rules so far lead well.
use Rattle.std.proofs.Common.{◌≡◌, ℕ, ◌<◌, not, false, get_or}
use Rattle.list_chains.specs.declared.span.Span.{Span}
use Rattle.list_chains.specs.Chains.{ListRule}
use Rattle.list_chains.specs.Jumps.{leads_well}
use Rattle.std.proofs.Common.{List}
use Rattle.list_chains.proofs.jumps.bad_rule.Given as goal

-- each of them
abbrev pub invariant-loop-place : goal.invariant-loop-place
invariant-loop-place l =
    (k : ℕ) (d : ListRule (List Span)) → k < l.place → not (leads_well l.marks (get_or l.rules k d)) ≡ false
