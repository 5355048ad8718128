use Rattle.std.proofs.Common.{◌++◌, ◌∷◌, [], sym, ◌∙◌}
use Rattle.trie_merge.proofs.kept.wild_places.Goals as goal
use Rattle.list_lemmas.proofs.Ranges.{map_more_numbers}
use Rattle.group_states.specs.Kept.{is_wild_place}

pub loop-place-preserved : goal.loop-place-preserved
loop-place-preserved c =
    c.in_ok-push.ensures.items
    ∙ (λ i. c.loop-place.invariant i ++ c.is_wild_place.ensures i ∷ [])
    ∙ sym (map_more_numbers (is_wild_place c.args.rules.now c.args.group.now) c.loop-place.place)
