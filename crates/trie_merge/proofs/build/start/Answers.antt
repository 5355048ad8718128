use Rattle.std.proofs.Common.{ℕ, ◌<◌, ◌^◌, List, length, ap, arith}
use Rattle.std.proofs.lemmas.List.{length-map}
use Rattle.std.proofs.lemmas.List.Elements.{All-weaker}
use Rattle.std.proofs.lemmas.List.Sorted.{All-permutation, length_permutation}
use Rattle.std.proofs.lemmas.Result.{IfOk-weaker}
use Rattle.list_lemmas.proofs.Spans.{All-of_map}
use Rattle.trie_merge.proofs.build.start.Goals as goal
use Rattle.trie_merge.proofs.RowNumbers.{started_in_order}
use Rattle.trie_merge.specs.Started.{numbers_in, IsStarted}
use Rattle.trie_merge.specs.declared.order.Keyed.{Keyed}

pub start_states-requires : goal.start_states-requires
start_states-requires c =
    let order : List Keyed = c.in_ok-order.order.items in
    let number : Keyed → ℕ = λ keyed. keyed.number in
    let group = c.requires.group in
    let its = c.all-rules.ensures in
    let inside : ℕ → Type 0 = λ n. n < length c.args.rules.now.rules in
    rw c.as_slice.ensures.value (record {
      some = omega (arith, group.some, length_permutation _ _ c.in_ok-order.ensures, length-map order number);
      few = All-of_map (λ n. n < 2 ^ 30) number order
          (All-weaker inside (λ n. n < 2 ^ 30) (λ n below. omega (arith, below, its.lawful.few, ap length its.rules))
          (numbers_in order) (All-permutation inside _ _ c.in_ok-order.ensures group.within));
    })

pub returns : goal.returns
returns c =
    IfOk-weaker c.start_states.result _ (λ reached. IsStarted c.args.group.now reached.target reached.found.keys)
    (λ reached its. started_in_order c.args.group.now (numbers_in c.in_ok-order.order.items) reached.target
    reached.found.keys c.in_ok-order.ensures (rw c.as_slice.ensures.value at its)) c.start_states.ensures
