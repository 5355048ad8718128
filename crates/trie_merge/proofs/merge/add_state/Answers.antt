-- What the state finds anew is priced, so that one more can be added.
use Rattle.std.proofs.Common.{arith}
use Rattle.trie_merge.proofs.merge.add_state.Goals as goal
use Rattle.trie_merge.proofs.Merging.{inside_grows, few_more, still_ask, cuts_stay}

pub price_all-requires-clause-can : goal.price_all-requires-clause-can
price_all-requires-clause-can c = record {
  last = c.requires.can.last;
  ask = still_ask c.args.place.now.next c.in_ok-merge_state.ensures.led c.requires.ready.ask c.requires.can.go_on;
  cuts = rw c.in_ok-merge_state.ensures.cuts
      (cuts_stay c.args.place.now.next _ _ _ c.in_ok-merge_state.ensures.led.grows c.requires.ready.cuts);
}

pub price_all-requires-clause-numbers : goal.price_all-requires-clause-numbers
price_all-requires-clause-numbers c =
    rw c.as_slice.ensures.keys
    (inside_grows c.in_ok-merge_state.ensures.merged c.requires.ready.inside c.in_ok-merge_state.ensures.led)

pub price_all-requires-clause-seen : goal.price_all-requires-clause-seen
price_all-requires-clause-seen c =
    rw (c.as_slice.ensures.keys, c.len-seen.ensures.len) (few_more c.in_ok-merge_state.ensures.merged).1

pub price_all-requires-clause-few : goal.price_all-requires-clause-few
price_all-requires-clause-few c =
    rw (c.as_slice.ensures.keys, c.len-seen.ensures.len) (few_more c.in_ok-merge_state.ensures.merged).0

pub returns : goal.returns
returns c =
    let merged = c.in_ok-merge_state.ensures in
    let priced = rw (c.as_slice.ensures.keys, c.len-seen.ensures.len) at c.in_ok-more.ensures in
    record {
      led = merged.led;
      merged = merged.merged;
      more = c.in_ok-more.more;
      its_least = omega (arith, merged.least);
      priced = priced;
      ready = record {
        led = merged.led.led;
        pieces = merged.merged.are_pieces;
        inside = inside_grows merged.merged c.requires.ready.inside merged.led;
        ask = still_ask c.args.place.now.next merged.led c.requires.ready.ask c.requires.can.go_on;
        cuts = priced.cuts;
        few = omega (arith, priced.some, c.requires.ready.few, merged.least);
      };
    }
