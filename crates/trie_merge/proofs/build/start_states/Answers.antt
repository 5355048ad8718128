use Rattle.std.proofs.Common.{refl, arith}
use Rattle.trie_merge.proofs.build.start_states.Goals as goal
use Rattle.trie_merge.specs.Started.{numbers_in}

pub put-requires-clause-new : goal.put-requires-clause-new
put-requires-clause-new c = rw c.new.ensures refl

pub put-requires-clause-room : goal.put-requires-clause-room
put-requires-clause-room c = rw c.new.ensures (omega arith)

pub returns : goal.returns
returns c =
    let its = c.in_ok-number.ensures in
    record {
      pairs = its.pairs;
      number = c.in_ok-number.number;
      parts = its.parts;
      one = rw c.new.ensures at c.in_ok-put.ensures.found;
      within = its.within;
      order = numbers_in c.args.order.now;
      same = λ rule. refl;
      all = its.all;
      entries = its.entries;
    }
