use Rattle.std.proofs.Common.{◌≡◌, ◌<◌, ◌∙◌, ap, length, arith}
use Rattle.std.proofs.lemmas.List.{get_or_default, length-map, with_items_is}
use Rattle.state_parts.specs.declared.pair_set.Linked.{Linked}
use Rattle.state_parts.specs.Buckets.{AreLinked, pair_in}
use Rattle.state_parts.proofs.Bucketed.{linked_more}
use Rattle.state_parts.proofs.pair_set.PairSet.push.Goals as goal
use Rattle.state_parts.proofs.pair_set.PairSet.push.Goals.{then-len+in_ok-self-inside, else-len}

-- the pairs are linked, in more buckets where those were few
linked : (c : goal.After-self-2-1) → AreLinked c.if-len.self-inside.all.items c.if-len.self-inside.heads.items
linked c = elim c.if-len.branch [
  | then-len+in_ok-self-inside w ↦
      let now = w.relink.new.all in
      let was = w.as_mut_slice.result.now in
      let long : length now ≡ c.self.inside.all.len =
      omega (
        arith,
        ap length w.relink.ensures.same,
        length-map now pair_in,
        length-map was pair_in,
        w.as_mut_slice.ensures.len,
      ) in
      rw (w.self-inside-is, with_items_is c.self.inside.all now long) w.in_ok-self-inside.ensures.linked
  | else-len w ↦ rw w.self-inside-is c.self.invariant
]

pub invariant_of-self-2 : goal.invariant_of-self-2
invariant_of-self-2 c =
    let all = c.if-len.self-inside.all.items in
    let heads = c.if-len.self-inside.heads.items in
    let bucket = c.bucket_of-bucket.result in
    let more : Linked = record { left = c.args.pair.0; right = c.args.pair.1; before = c.index-before.result.now } in
    let long = c.len-4.ensures ∙ c.if-len.self-inside.heads.ok.0 in
    let within : bucket < length heads = omega (arith, c.bucket_of-bucket.ensures.within, long) in
    rw (c.in_ok-push.ensures.items, c.len-5.ensures, c.if-len.self-inside.all.ok.0)
    (linked_more all heads more bucket (rw long at c.bucket_of-bucket.ensures.bucket) within
    (c.index-before.ensures ∙ get_or_default heads bucket c.index-before.result.now 0 within) (linked c))
