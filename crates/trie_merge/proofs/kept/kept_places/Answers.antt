use Rattle.std.proofs.Common.{◌≡◌, ℕ, Bool, length, sym, ◌∙◌, arith}
use Rattle.trie_merge.proofs.kept.kept_places.Goals as goal
use Rattle.trie_merge.proofs.kept.kept_places.Goals.{then-is_kept+in_ok-push, else-is_kept}
use Rattle.list_lemmas.proofs.Ranges.{filter_more_yes, filter_more_no}
use Rattle.table_sizes.specs.Groups.{group_of}
use Rattle.trie_merge.specs.Wild.{is_kept_by, places_by}

pub loop-place-preserved : goal.loop-place-preserved
loop-place-preserved c =
    let test : ℕ → Bool = λ place. is_kept_by c.args.wild.now (group_of place) in
    let told = rw c.group_of.ensures.value at c.is_kept.ensures in
    elim c.if-is_kept.branch [
      | then-is_kept+in_ok-push w ↦
          rw (w.places-is, filter_more_yes test c.loop-place.place (sym told ∙ w.if-is_kept.true))
          (rw c.loop-place.invariant at w.in_ok-push.ensures.items)
      | else-is_kept w ↦
          rw (w.places-is, filter_more_no test c.loop-place.place (sym told ∙ w.if-is_kept.false))
          c.loop-place.invariant
    ]

pub returns : goal.returns
unfolding places_by
returns c =
    let end : c.loop-place.place ≡ length c.args.wild.now = omega arith in
    rw end at c.loop-place.invariant
