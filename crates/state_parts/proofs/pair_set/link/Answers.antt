use Rattle.std.proofs.Common.{◌≡◌, ◌+◌, ◌++◌, ◌∷◌, [], refl, arith, length, take, set, get_or, subst}
use Rattle.std.proofs.lemmas.List.{take_more_set, length-take}
use Rattle.state_parts.specs.declared.pair_set.Linked.{Linked}
use Rattle.state_parts.specs.Buckets.{AreLinked}
use Rattle.state_parts.proofs.Bucketed.{linked_more, same_pairs}
use Rattle.state_parts.proofs.pair_set.link.Goals as goal

pub returns-clause-linked : goal.returns-clause-linked
returns-clause-linked c =
    let all = c.args.all.now in
    let heads = c.args.heads.now in
    let bucket = c.bucket_of-bucket.result in
    let linked : Linked = record {
      left = (get_or all c.args.place (record { left = 0; right = 0; before = 0 })).left;
      right = (get_or all c.args.place (record { left = 0; right = 0; before = 0 })).right;
      before = get_or heads bucket 0;
    } in
    let long : length (take c.args.place all) ≡ c.args.place =
    omega (arith, length-take c.args.place all, c.requires.place) in
    rw (take_more_set all c.args.place linked c.requires.place)
    (subst (λ n. AreLinked (take c.args.place all ++ linked ∷ []) (set heads bucket (n + 1))) long
    (linked_more (take c.args.place all) heads linked bucket c.bucket_of-bucket.ensures.bucket
    c.bucket_of-bucket.ensures.within refl c.requires.before))

pub returns-clause-same : goal.returns-clause-same
returns-clause-same c = same_pairs c.args.all.now c.args.place _ refl
