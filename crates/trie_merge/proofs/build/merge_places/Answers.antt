-- Each place goes on from the places before it.
use Rattle.std.proofs.Common.{◌≡◌, ◌+◌, length, Err, Some, None, ap, refl, arith}
use Rattle.std.specs.Prelude.{IfSome, nat_lt}
use Rattle.std.proofs.lemmas.Bool.{cond_both}
use Rattle.std.proofs.Math.Seq.{take-length}
use Rattle.trie_merge.proofs.build.merge_places.Goals as goal
use Rattle.trie_merge.proofs.Placing.{kept_inside, placed_start, placed_states, placed_on, placed_over, placed_end}
use Rattle.trie_merge.proofs.Probing.{probed_first}
use Rattle.trie_merge.specs.Places.{place_of}
use Rattle.trie_merge.specs.declared.merge.MergeFault.TheVariants.{OverCap}

pub loop-j-init : goal.loop-j-init
loop-j-init c =
    let its = c.requires.begun in
    rw (its.levels, its.words, its.ahead)
    (placed_start _ _ c.requires.can.grouped c.args.cap its.start, tt)

pub merge_place-requires : goal.merge_place-requires
merge_place-requires c =
    let can = c.requires.can in
    let so_far = c.loop-j.invariant.0 in
    record {
      in_key = λ k below. rw can.kept (kept_inside _ _ can.grouped k (rw (← can.kept) below));
      there = c.loop-j-test.true;
      cap = can.most;
      before = so_far.within;
      states = rw can.kept
          (placed_states _ _ can.grouped c.loop-j.gathered.reached so_far (rw (← can.kept) c.loop-j-test.true));
      known = c.loop-j.invariant.1;
    }

pub probe_once-requires-clause-probed : goal.probe_once-requires-clause-probed
probe_once-requires-clause-probed c = λ later.
    let can = c.requires.can in
    let its = c.in_ok-push.ensures in
    rw (can.kept, its.target, its.found, its.words)
    (probed_first _ _ can.grouped
    (placed_on _ _ can.grouped c.loop-j.invariant.0 (rw (← can.kept) c.loop-j-test.true)
    (rw (can.kept, c.len.ensures.len, take-length) at c.in-Ok.ensures.merged.states))
    (rw (← can.kept) later))

pub loop-j-preserved : goal.loop-j-preserved
loop-j-preserved c =
    let can = c.requires.can in
    let column = place_of c.args.rules.now c.args.places.now (c.loop-j.j + 1) in
    let its = c.in_ok-push.ensures in
    let merged = c.in-Ok.ensures.merged in
    rw (its.levels, its.target, its.found, its.words, its.ahead, merged.next) (
      placed_on _ _ can.grouped c.loop-j.invariant.0 (rw (← can.kept) c.loop-j-test.true)
          (rw (can.kept, c.len.ensures.len, take-length) at merged.states),
      cond_both (nat_lt (c.loop-j.j + 2) (length c.args.places.now)) (Some column) None
          (λ ahead. IfSome ahead (λ next. next ≡ column)) (λ _. refl) (λ _. tt),
    )

pub returns-clause-merged : goal.returns-clause-merged
returns-clause-merged c =
    placed_end _ _ c.requires.can.grouped c.loop-j.gathered c.loop-j.invariant.0
    (rw c.requires.can.kept at (let end : c.loop-j.j ≡ length c.args.places.now = omega arith in end))

pub returns-in-Err-clause-over : goal.returns-in-Err-clause-over
returns-in-Err-clause-over c = λ over.
    let can = c.requires.can in
    let is : c.in-Err.fault ≡ OverCap = cc in
    placed_over _ _ can.grouped c.loop-j.invariant.0 (rw (← can.kept) c.loop-j-test.true)
    (rw (can.kept, c.len.ensures.len, take-length) at (c.in-Err.ensures.over (ap Err is)))
