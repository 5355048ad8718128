use Rattle.std.proofs.Common.{◌≡◌, length, map, ◌∙◌, ap, arith}
use Rattle.rule_set.specs.Keys.{keys_of, rank_among}
use Rattle.rule_set.specs.Rank.{ranks_of}
use Rattle.rule_set.proofs.Keys.{lawful_priorities, ranks_from_keys, length-keys_of, keys_tell_places}
use Rattle.rule_set.proofs.rank.ranks.Goals as goal
use Rattle.rule_set.proofs.rank.ranks.Goals.{In_ok-keys}

pub order_keys-requires-clause-lawful : goal.order_keys-requires-clause-lawful
order_keys-requires-clause-lawful c = rw c.all.ensures.rules (lawful_priorities c.args.rules.now c.all.ensures.lawful)

-- the keys are those of the rules of the set
keys_are : (c : In_ok-keys) → c.in_ok-keys.keys.items ≡ keys_of c.args.rules.now.rules
keys_are c = c.in_ok-keys.ensures ∙ ap keys_of c.all.ensures.rules

pub ranks_of_keys-requires-clause-few : goal.ranks_of_keys-requires-clause-few
ranks_of_keys-requires-clause-few c = omega (
  arith,
  ap length (keys_are c)
      ∙ length-keys_of c.args.rules.now.rules,
  c.all.ensures.lawful.few,
)

pub ranks_of_keys-requires-clause-places : goal.ranks_of_keys-requires-clause-places
ranks_of_keys-requires-clause-places c =
    rw (keys_are c) (keys_tell_places c.args.rules.now.rules c.all.ensures.lawful.few)

pub returns : goal.returns
returns c =
    let set = c.args.rules.now in
    let same : map (rank_among c.in_ok-keys.keys.items) c.in_ok-keys.keys.items ≡ ranks_of set.rules =
    ap (λ keys. map (rank_among keys) keys) (c.in_ok-keys.ensures ∙ ap keys_of c.all.ensures.rules)
    ∙ ranks_from_keys set.rules c.all.ensures.lawful.few (lawful_priorities set c.all.ensures.lawful) in
    rw same at c.ranks_of_keys.ensures
