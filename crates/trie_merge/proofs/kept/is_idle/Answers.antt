use Rattle.std.proofs.Common.{◌≡◌, length, sym, ◌∙◌, arith}
use Rattle.trie_merge.proofs.kept.is_idle.Goals as goal
use Rattle.list_lemmas.proofs.Ranges.{all_more_numbers, not_all_numbers}
use Rattle.trie_merge.specs.Wild.{is_idle_by}

pub returns-then-not-decides_nothing : goal.returns-then-not-decides_nothing
unfolding is_idle_by
returns-then-not-decides_nothing c =
    sym (not_all_numbers _ (length c.args.wild.now) c.loop-place.place (omega arith)
    (sym c.decides_nothing.ensures ∙ c.if-not-decides_nothing.true))

pub loop-place-preserved : goal.loop-place-preserved
loop-place-preserved c =
    all_more_numbers _ c.loop-place.place c.loop-place.invariant
    (sym c.decides_nothing.ensures ∙ c.if-not-decides_nothing.false)

pub returns : goal.returns
unfolding is_idle_by
returns c =
    let end : c.loop-place.place ≡ length c.args.wild.now = omega arith in
    sym (rw end at c.loop-place.invariant)
