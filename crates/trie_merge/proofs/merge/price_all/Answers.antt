-- Each number adds its price.
use Rattle.std.proofs.Common.{arith, []}
use Rattle.std.proofs.lemmas.List.{take_all}
use Rattle.std.proofs.lemmas.List.Sums.{sum_by_more}
use Rattle.list_lemmas.proofs.Elements.{length-AllZip}
use Rattle.trie_merge.proofs.merge.price_all.Goals as goal
use Rattle.trie_merge.specs.Words.{price, least_cost}
use Rattle.list_lemmas.proofs.Passing.{AllZip-place}
use Rattle.trie_merge.specs.Shared.{IsIn}

pub loop-k-preserved : goal.loop-k-preserved
unfolding least_cost
loop-k-preserved c =
    let inv = c.loop-k.invariant in
    let its = c.in_ok-its.ensures in
    record {
      cuts = its.cuts;
      price = λ set tree lists rise all.
          (let zip = IsIn set c.args.target.now tree in
          omega (
            arith,
            inv.price set tree lists rise all,
            sum_by_more (price c.args.place.now.next c.args.place.now.is_last) lists c.loop-k.k []
                (omega (arith, c.loop-k-test.true, length-AllZip zip lists c.args.found.now all)),
            its.least set tree _ rise (AllZip-place zip lists c.args.found.now c.loop-k.k [] 0 all c.loop-k-test.true),
          ));
      some = omega (arith, inv.some, its.some);
      bound = omega (arith, inv.bound, its.most);
      rows = λ last. omega (arith, inv.rows last, its.row last);
    }

pub returns : goal.returns
returns c =
    let inv = c.loop-k.invariant in
    record {
      cuts = inv.cuts;
      least = λ set tree lists rise all.
          rw (take_all c.loop-k.k lists (omega (
            arith,
            length-AllZip (IsIn set c.args.target.now tree) lists c.args.found.now all,
            c.loop-k-test.false,
          )))
          at (inv.price set tree lists rise all);
      some = omega (arith, inv.some, c.loop-k-test.false);
      rows = λ last. omega (arith, inv.rows last, c.loop-k-test.false);
      most = omega (arith, inv.bound, c.requires.few, c.loop-k-test.false);
    }
