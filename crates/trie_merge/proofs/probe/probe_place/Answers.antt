-- The price of the others comes before the words of the states that are merged.
use Rattle.std.proofs.Common.{◌≡◌, ◌+◌, Err, ap, refl, arith}
use Rattle.std.proofs.lemmas.List.Elements.{All-drop}
use Rattle.std.proofs.lemmas.Result.{IfOk-weaker}
use Rattle.trie_merge.proofs.probe.probe_place.Goals as goal
use Rattle.trie_merge.proofs.Placing.{kept_inside}
use Rattle.trie_merge.proofs.Probing.{probed_states, step_here, rest_over, probed_on, probed_over}
use Rattle.trie_merge.specs.Merged.{numbers_of, target_of}
use Rattle.trie_merge.specs.Priced.{IsNumber}
use Rattle.trie_merge.specs.Probed.{IsProbed}
use Rattle.trie_merge.specs.declared.merge.MergeFault.TheVariants.{OverCap}

pub new-requires : goal.new-requires
new-requires c =
    let can = c.requires.can in
    rw can.kept (kept_inside _ _ can.grouped c.args.j (rw (← can.kept) (omega (arith, c.requires.later))))

pub price_rest-requires-clause-ask : goal.price_rest-requires-clause-ask
price_rest-requires-clause-ask c = λ entry has.
    let can = c.requires.can in
    rw (c.in_ok-column.ensures, can.kept)
    (step_here _ _ can.grouped c.args.budget (rw can.kept at c.requires.probed)
    (rw (← can.kept) c.requires.later) entry has)

pub price_rest-requires-clause-numbers : goal.price_rest-requires-clause-numbers
price_rest-requires-clause-numbers c =
    rw (c.first_of.ensures.rest, c.as_slice.ensures.keys)
    (All-drop (λ number. IsNumber c.args.reached.now.target number) c.args.budget.states
    c.args.reached.now.found.keys c.requires.probed.inside)

pub returns-in-Err-clause-over : goal.returns-in-Err-clause-over
returns-in-Err-clause-over c = λ over.
    let can = c.requires.can in
    let is : c.in-Err.fault ≡ OverCap = cc in
    rest_over _ _ can.grouped c.args.budget (rw can.kept at c.requires.probed) (rw (← can.kept) c.requires.later)
    (rw (c.in_ok-column.ensures, c.first_of.ensures.rest, c.as_slice.ensures.keys, can.kept) at
    (c.in-Err.ensures.over (ap Err is)))

pub merge_place-requires : goal.merge_place-requires
merge_place-requires c =
    let can = c.requires.can in
    record {
      in_key = λ k below. rw can.kept (kept_inside _ _ can.grouped k (rw (← can.kept) below));
      there = omega (arith, c.requires.later);
      cap = can.most;
      before = c.in-Ok.ensures.counted.within;
      states = rw can.kept
          (probed_states _ _ can.grouped c.args.budget (rw can.kept at c.requires.probed)
          (rw (← can.kept) c.requires.later) c.args.reached.now refl refl);
      known = c.in_ok-column.ensures;
    }

pub returns-clause-probed : goal.returns-clause-probed
returns-clause-probed c =
    let can = c.requires.can in
    let counted = rw (c.in_ok-column.ensures, c.first_of.ensures.rest, c.as_slice.ensures.keys, can.kept) at
    c.in-Ok.ensures.counted in
    IfOk-weaker c.merge_place.result _
    (λ merged. IsProbed c.args.rules.now c.args.group.now c.args.budget.cap c.args.places.now (c.args.j + 1)
    (target_of merged) (numbers_of merged) merged.words)
    (λ merged its. rw can.kept
    (probed_on _ _ can.grouped c.args.budget (rw can.kept at c.requires.probed) (rw (← can.kept) c.requires.later)
    counted (rw can.kept at its.states)))
    c.merge_place.ensures.merged

pub returns-clause-over : goal.returns-clause-over
returns-clause-over c = λ over.
    let can = c.requires.can in
    let counted = rw (c.in_ok-column.ensures, c.first_of.ensures.rest, c.as_slice.ensures.keys, can.kept) at
    c.in-Ok.ensures.counted in
    probed_over _ _ can.grouped c.args.budget (rw can.kept at c.requires.probed) (rw (← can.kept) c.requires.later)
    counted (rw can.kept at (c.merge_place.ensures.over over))
