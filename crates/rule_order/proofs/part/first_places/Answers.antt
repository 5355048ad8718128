use Rattle.std.proofs.Common.{◌≡◌, ℕ, List, length, take, ap, ◌∙◌, subst, arith}
use Rattle.std.specs.List.Sorted.{IsPermutation}
use Rattle.std.proofs.lemmas.List.Sorted.{IsNonDecreasingBy-from_sort, length_permutation}
use Rattle.rule_order.proofs.part.first_places.Goals as goal

pub returns : goal.returns
returns c =
    let left : List ℕ = c.args.left.now in
    let first : List ℕ = c.in_ok-places.places.items in
    let places : List ℕ = c.sort_unstable.new.self.items in
    let same : first ≡ take c.min.result left = c.in_ok-places.ensures.items ∙ c.split_at.ensures.front in
    let long : length places ≡ c.min.result =
    length_permutation first places c.sort_unstable.ensures.permutation
    ∙ ap length c.in_ok-places.ensures.items ∙ c.split_at.ensures.front_len in
    record {
      some = omega (arith, long, c.max.ensures, c.min.ensures, c.requires);
      few = omega (arith, long, c.min.ensures);
      first = rw long (subst (λ l. IsPermutation l places) same c.sort_unstable.ensures.permutation);
      rise = IsNonDecreasingBy-from_sort (λ (n : ℕ). n) places c.sort_unstable.ensures.sorted;
    }
