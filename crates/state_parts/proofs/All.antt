-- All entries of a list as one part.
use Rattle.std.proofs.Common.{◌≡◌, ℕ, List, [], ◌∷◌, ◌++◌, Some, refl, sym, ◌∙◌, subst}
use Rattle.std.specs.List.{AllByRecursion}
use Rattle.std.proofs.lemmas.List.{map-append}
use Rattle.state_parts.specs.Keys.{KeyAt, same_pair}
use Rattle.state_parts.specs.Tree.{Joins, IsLeaf}
use Rattle.state_parts.specs.Tree.Tree.{Leaf, Node}
use Rattle.state_parts.specs.Rows.{rule_of}
use Rattle.state_parts.specs.Joined.{IsAll}
use Rattle.state_parts.proofs.Standing.{stands_grow}

-- the part of an entry is all of the entry alone
pub one_entry : (pairs : List (ℕ × ℕ)) (entry number : ℕ) → KeyAt same_pair pairs (0, entry) number
    → IsAll pairs (entry ∷ []) number
one_entry pairs entry number at = record {
  tree = Leaf (rule_of entry);
  rules = refl;
  stands = λ f all. subst (λ found. IsLeaf pairs found number) (sym all.0) at;
}

-- what holds of each element of two lists holds of those of each
split_all : (P : ℕ → Type 0) (xs ys : List ℕ) → AllByRecursion P (xs ++ ys)
    → AllByRecursion P xs × AllByRecursion P ys
split_all P [] ys all = (tt, all)
split_all P (x ∷ xs) ys all = let rest = split_all P xs ys all.1 in ((all.0, rest.0), rest.1)

-- a number stands for its entries still when more pairs come
pub all_grow : {old new : List (ℕ × ℕ)} {entries : List ℕ} {number : ℕ} → (more : List (ℕ × ℕ)) × (new ≡ old ++ more)
    → IsAll old entries number → IsAll new entries number
all_grow {old = old} {number = number} (more, is) all = record {
  tree = all.tree;
  rules = all.rules;
  stands = λ f each. rw is (stands_grow old more all.tree f number (all.stands f each));
}

-- two lists as one, by the pair of their numbers
pub two_joined : {pairs : List (ℕ × ℕ)} {left right : List ℕ} {one other number : ℕ} → IsAll pairs left one
    → IsAll pairs right other → Joins pairs one other number → IsAll pairs (left ++ right) number
two_joined {left = left} {right = right} {one = one} {other = other} a b joins = record {
  tree = Node a.tree b.tree;
  rules = (λ i. a.rules i ++ b.rules i) ∙ sym (map-append rule_of left right);
  stands = λ f all. (
      let parts = split_all (λ entry. f (rule_of entry) ≡ Some entry) left right all in
      (one, other, a.stands f parts.0, b.stands f parts.1, joins));
}
