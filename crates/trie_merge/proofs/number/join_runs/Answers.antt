use Rattle.std.proofs.Common.{◌≡◌, ◌+◌, ◌++◌, ◌∷◌, [], cond, refl, sym, ◌∙◌, arith}
use Rattle.state_parts.proofs.Offered.{rest_below, rest_end}
use Rattle.group_states.specs.Levels.{same_succ}
use Rattle.trie_merge.proofs.number.join_runs.Goals as goal
use Rattle.trie_merge.proofs.number.join_runs.Goals.{then-not-is_same+in_ok-push, else-not-is_same}
use Rattle.trie_merge.proofs.Successors.{first_piece, next_piece, all_joined}

pub loop-k-init : goal.loop-k-init
loop-k-init c = first_piece c.requires.pieces c.in_ok-succ.ensures.found c.in_ok-succ.ensures.succ

pub reach-requires-in-loop-k : goal.reach-requires-in-loop-k
reach-requires-in-loop-k c =
    let l = c.loop-k in
    omega (
      arith,
      l.invariant.0.room,
      rest_below c.args.pieces.now l.k (l.last + 1) c.loop-k-test.true l.invariant.1,
      c.requires.room,
    )

pub loop-k-preserved : goal.loop-k-preserved
loop-k-preserved c =
    let l = c.loop-k in
    let ended : c.if-not-is_same.runs.items
    ≡ cond (same_succ l.succ c.in_ok-next.next) l.runs.items
    (l.runs.items ++ record { last = l.last; to = l.succ } ∷ []) =
    elim c.if-not-is_same.branch [
      | then-not-is_same+in_ok-push w ↦
          rw (w.runs-is, sym c.is_same.ensures ∙ w.if-not-is_same.true) w.in_ok-push.ensures.items
      | else-not-is_same w ↦ rw (w.runs-is, sym c.is_same.ensures ∙ w.if-not-is_same.false) refl
    ] in
    next_piece c.loop-k-test.true l.invariant c.in_ok-next.ensures.found c.in_ok-next.ensures.succ ended

pub returns : goal.returns
returns c =
    let l = c.loop-k in
    let end : l.last + 1 ≡ 256 = rest_end c.args.pieces.now l.k (l.last + 1) c.loop-k-test.false l.invariant.1 in
    let last : l.last ≡ 255 = omega (arith, end) in
    let ends = all_joined (rw last at l.invariant.0) in
    record {
      found = ends.0;
      runs = λ more. c.in_ok-push-2.ensures.items ∙ rw last (ends.1 more);
    }
