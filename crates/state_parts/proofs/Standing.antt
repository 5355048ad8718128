-- What the number of a part stands for.
use Rattle.std.proofs.Common.{◌≡◌, ℕ, ◌<◌, ◌==◌, List, [], ◌∷◌, ◌++◌, true}
use Rattle.std.proofs.Common.{Option, Some, None, refl, sym, ◌∙◌, ap, subst, inl, inr, arith}
use Rattle.std.specs.List.{filter_map, cons_option}
use Rattle.std.proofs.lemmas.List.{append-nil}
use Rattle.std.proofs.lemmas.List.Elements.{filter_map-append}
use Rattle.std.proofs.lemmas.Bool.{and_parts, eqb-true}
use Rattle.state_parts.specs.Keys.{KeyAt, same_pair}
use Rattle.state_parts.specs.Tree.{Tree, leaves, Joins, IsLeaf, Stands}
use Rattle.state_parts.specs.Tree.Tree.{Leaf, Node}
use Rattle.state_parts.proofs.Keys.{key_grows, key_alone, key_some, key_is}

-- two pairs that compare as one are one
pub pair_sound : (one other : ℕ × ℕ) → same_pair one other ≡ true → one ≡ other
pair_sound one other same =
    let parts = and_parts (one.0 == other.0) (one.1 == other.1) same in
    λ i. (eqb-true one.0 other.0 parts.0 i, eqb-true one.1 other.1 parts.1 i)

-- Two functions give the leaves of a tree the same entries.
abbrev pub SameOn : Tree → (ℕ → Option ℕ) → (ℕ → Option ℕ) → Type 0
SameOn (Leaf rule) f g = f rule ≡ g rule
SameOn (Node left right) f g = SameOn left f g × SameOn right f g

-- The number is that of a pair of two parts.
pub record IsPair (pairs : List (ℕ × ℕ)) (one other number : ℕ) : Type 0 where
  pub some : 0 < one
  pub more : 0 < other
  pub at : KeyAt same_pair pairs (one, other) number

module _ (pairs more : List (ℕ × ℕ)) where
  -- a number that joins two parts still does when more pairs come
  pub joins_grow : (left right number : ℕ) → Joins pairs left right number → Joins (pairs ++ more) left right number
  joins_grow left right number (inl a) = inl a
  joins_grow left right number (inr (inl b)) = inr (inl b)
  joins_grow left right number (inr (inr (a, b, at))) =
      inr (inr (a, b, key_grows same_pair pairs more (left, right) number at))

  -- a number that stands for a leaf still does when more pairs come
  leaf_grows : (found : Option ℕ) (number : ℕ) → IsLeaf pairs found number → IsLeaf (pairs ++ more) found number
  leaf_grows None number is = is
  leaf_grows (Some entry) number is = key_grows same_pair pairs more (0, entry) number is

  -- a number stands for the same when more parts come
  pub stands_grow : (tree : Tree) (entries : ℕ → Option ℕ) (number : ℕ) → Stands pairs tree entries number
      → Stands (pairs ++ more) tree entries number
  stands_grow (Leaf rule) entries number stands = leaf_grows (entries rule) number stands
  stands_grow (Node left right) entries number (one, other, a, b, joins) = (
    one,
    other,
    stands_grow left entries one a,
    stands_grow right entries other b,
    joins_grow one other number joins,
  )

module _ (pairs : List (ℕ × ℕ)) where
  -- number 0 joins nothing but number 0 with itself
  pub none_joined : (left right : ℕ) → Joins pairs left right 0 → (left ≡ 0) × (right ≡ 0)
  none_joined left right (inl (l, n)) = (l, sym n)
  none_joined left right (inr (inl (r, n))) = (sym n, r)
  none_joined left right (inr (inr (a, b, at))) = absurd (omega (arith, key_some same_pair pairs (left, right) 0 at))

  -- number 0 stands for nothing
  pub none_left : (tree : Tree) (entries : ℕ → Option ℕ) → Stands pairs tree entries 0
      → filter_map entries (leaves tree) ≡ []
  none_left (Leaf rule) entries stands = by (entries rule) stands
    where
      by : (found : Option ℕ) → IsLeaf pairs found 0 → cons_option found [] ≡ []
      by None is = refl
      by (Some entry) is = absurd (omega (arith, key_some same_pair pairs (0, entry) 0 is))
  none_left (Node left right) entries (one, other, a, b, joins) =
      let none = none_joined one other joins in
      filter_map-append entries (leaves left) (leaves right)
      ∙ (λ i. none_left left entries (subst (Stands pairs left entries) none.0 a) i
      ++ none_left right entries (subst (Stands pairs right entries) none.1 b) i)

  -- two lists that are empty together are both empty
  both_none : (xs ys : List ℕ) → xs ++ ys ≡ [] → (xs ≡ []) × (ys ≡ [])
  both_none [] ys none = (refl, none)
  both_none (x ∷ xs) ys none = absurd cc

  -- and only number 0 does
  pub nothing_stands : (tree : Tree) (entries : ℕ → Option ℕ) (number : ℕ) → filter_map entries (leaves tree) ≡ []
      → Stands pairs tree entries number → number ≡ 0
  nothing_stands (Leaf rule) entries number none stands = by (entries rule) none stands
    where
      by : (found : Option ℕ) → cons_option found [] ≡ [] → IsLeaf pairs found number → number ≡ 0
      by None none is = is
      by (Some entry) none is = absurd cc
  nothing_stands (Node left right) entries number none (one, other, a, b, joins) =
      let parts = both_none (filter_map entries (leaves left)) (filter_map entries (leaves right))
      (sym (filter_map-append entries (leaves left) (leaves right)) ∙ none) in
      by (nothing_stands left entries one parts.0 a) (nothing_stands right entries other parts.1 b) joins
    where
      by : one ≡ 0 → other ≡ 0 → Joins pairs one other number → number ≡ 0
      by x y (inl (l, n)) = n ∙ y
      by x y (inr (inl (r, n))) = n ∙ x
      by x y (inr (inr (some, more, at))) = absurd (omega (arith, x, some))

  -- one number joins two parts
  joins_alone : (left right one other : ℕ) → Joins pairs left right one → Joins pairs left right other → one ≡ other
  joins_alone left right one other (inl (l, n)) (inl (k, m)) = n ∙ sym m
  joins_alone left right one other (inl (l, n)) (inr (inl (k, m))) = omega (arith, l, n, k, m)
  joins_alone left right one other (inl (l, n)) (inr (inr (a, b, at))) = absurd (omega (arith, l, a))
  joins_alone left right one other (inr (inl (l, n))) (inl (k, m)) = omega (arith, l, n, k, m)
  joins_alone left right one other (inr (inl (l, n))) (inr (inl (k, m))) = n ∙ sym m
  joins_alone left right one other (inr (inl (l, n))) (inr (inr (a, b, at))) = absurd (omega (arith, l, b))
  joins_alone left right one other (inr (inr (a, b, at))) (inl (k, m)) = absurd (omega (arith, k, a))
  joins_alone left right one other (inr (inr (a, b, at))) (inr (inl (k, m))) = absurd (omega (arith, k, b))
  joins_alone left right one other (inr (inr (a, b, at))) (inr (inr (c, d, to))) =
      key_alone same_pair pairs (left, right) one other at to

  -- equal parts have equal numbers
  pub stands_alone : (tree : Tree) (f g : ℕ → Option ℕ) (one other : ℕ) → SameOn tree f g → Stands pairs tree f one
      → Stands pairs tree g other → one ≡ other
  stands_alone (Leaf rule) f g one other same a b = by (g rule) (subst (λ found. IsLeaf pairs found one) same a) b
    where
      by : (found : Option ℕ) → IsLeaf pairs found one → IsLeaf pairs found other → one ≡ other
      by None a b = a ∙ sym b
      by (Some entry) a b = key_alone same_pair pairs (0, entry) one other a b
  stands_alone (Node left right) f g one other same (x, y, a, b, joins) (x', y', a', b', joins') =
      let e : x ≡ x' = stands_alone left f g x x' same.0 a a' in
      let d : y ≡ y' = stands_alone right f g y y' same.1 b b' in
      joins_alone x' y' one other
      (subst (λ l. Joins pairs l y' one) e (subst (λ r. Joins pairs x r one) d joins)) joins'

  -- one pair has a number
  one_key : (one other : ℕ × ℕ) (number : ℕ) → KeyAt same_pair pairs one number → KeyAt same_pair pairs other number
      → (one.0 ≡ other.0) × (one.1 ≡ other.1)
  one_key one other number a b =
      let e = key_is same_pair pair_sound pairs one other number a b in (ap (λ p. p.0) e, ap (λ p. p.1) e)

  module _ (f g : ℕ → Option ℕ) where
    -- trees for which one number stands have the same entries
    abbrev Same : Tree → Tree → Type 0
    Same one other = (number : ℕ) → Stands pairs one f number → Stands pairs other g number
        → filter_map f (leaves one) ≡ filter_map g (leaves other)

    -- a tree without entries adds none
    none_before : (left right : Tree) (h : ℕ → Option ℕ) → Stands pairs left h 0
        → filter_map h (leaves (Node left right)) ≡ filter_map h (leaves right)
    none_before left right h none =
        filter_map-append h (leaves left) (leaves right) ∙ ap (λ l. l ++ filter_map h (leaves right))
        (none_left left h none)

    -- a node has the entries of its left tree if number 0 stands for the right one
    none_after : (left right : Tree) (h : ℕ → Option ℕ) → Stands pairs right h 0
        → filter_map h (leaves (Node left right)) ≡ filter_map h (leaves left)
    none_after left right h none =
        filter_map-append h (leaves left) (leaves right) ∙ ap (λ r. filter_map h (leaves left) ++ r)
        (none_left right h none) ∙ append-nil (filter_map h (leaves left))

    -- one entry and any tree
    leaf_same : (rule : ℕ) (other : Tree) → Same (Leaf rule) other
    leaf_same rule (Leaf other) number a b = by (f rule) (g other) a b
      where
        by : (one two : Option ℕ) → IsLeaf pairs one number → IsLeaf pairs two number
            → cons_option one [] ≡ cons_option two []
        by None None a b = refl
        by None (Some e) a b = absurd (omega (arith, a, key_some same_pair pairs (0, e) number b))
        by (Some e) None a b = absurd (omega (arith, b, key_some same_pair pairs (0, e) number a))
        by (Some e) (Some d) a b = ap (λ x. x ∷ []) (one_key (0, e) (0, d) number a b).1
    leaf_same rule (Node left right) number a (x, y, sl, sr, inl (none, is)) =
        leaf_same rule right number a (subst (Stands pairs right g) (sym is) sr)
        ∙ sym (none_before left right g (subst (Stands pairs left g) none sl))
    leaf_same rule (Node left right) number a (x, y, sl, sr, inr (inl (none, is))) =
        leaf_same rule left number a (subst (Stands pairs left g) (sym is) sl)
        ∙ sym (none_after left right g (subst (Stands pairs right g) none sr))
    leaf_same rule (Node left right) number a (x, y, sl, sr, inr (inr (some, more, at))) = absurd (by (f rule) a)
      where
        by : (found : Option ℕ) → IsLeaf pairs found number → ⊥
        by None is = omega (arith, is, key_some same_pair pairs (x, y) number at)
        by (Some e) is = omega (arith, some, (one_key (0, e) (x, y) number is at).0)

    -- A pair of parts stands for the rules of two trees, and what their numbers stand for is known.
    record PairStands (left right : Tree) (x y number : ℕ) : Type 0 where
      pair : IsPair pairs x y number
      one : Stands pairs left f x
      other : Stands pairs right f y
      on_left : (tree : Tree) → Same left tree
      on_right : (tree : Tree) → Same right tree

    -- a pair of parts and any tree
    pair_same : {left right : Tree} {x y number : ℕ} → PairStands left right x y number → (other : Tree)
        → Stands pairs other g number → filter_map f (leaves (Node left right)) ≡ filter_map g (leaves other)
    pair_same {x = x} {y = y} {number = number} stands (Leaf rule) b = absurd (by (g rule) b)
      where
        by : (found : Option ℕ) → IsLeaf pairs found number → ⊥
        by None is = omega (arith, is, key_some same_pair pairs (x, y) number stands.pair.at)
        by (Some e) is = omega (arith, stands.pair.some, (one_key (x, y) (0, e) number stands.pair.at is).0)
    pair_same stands (Node l r) (x', y', tl, tr, inl (none, is)) =
        pair_same stands r (subst (Stands pairs r g) (sym is) tr)
        ∙ sym (none_before l r g (subst (Stands pairs l g) none tl))
    pair_same stands (Node l r) (x', y', tl, tr, inr (inl (none, is))) =
        pair_same stands l (subst (Stands pairs l g) (sym is) tl)
        ∙ sym (none_after l r g (subst (Stands pairs r g) none tr))
    pair_same {left} {right} {x} {y} {number} stands (Node l r) (x', y', tl, tr, inr (inr (some, more, to))) =
        let same = one_key (x, y) (x', y') number stands.pair.at to in
        filter_map-append f (leaves left) (leaves right)
        ∙ (λ i. stands.on_left l x stands.one (subst (Stands pairs l g) (sym same.0) tl) i
        ++ stands.on_right r y stands.other (subst (Stands pairs r g) (sym same.1) tr) i)
        ∙ sym (filter_map-append g (leaves l) (leaves r))

    -- parts of one number are equal
    pub stands_for_one : (one other : Tree) → Same one other
    stands_for_one (Leaf rule) other = leaf_same rule other
    stands_for_one (Node left right) other = λ number stands b.
        by number stands b (stands_for_one left) (stands_for_one right)
      where
        by : (number : ℕ) → Stands pairs (Node left right) f number → Stands pairs other g number
            → ((t : Tree) → Same left t) → ((t : Tree) → Same right t)
            → filter_map f (leaves (Node left right)) ≡ filter_map g (leaves other)
        by number (x, y, sl, sr, inl (none, is)) b on_left on_right =
            none_before left right f (subst (Stands pairs left f) none sl)
            ∙ on_right other number (subst (Stands pairs right f) (sym is) sr) b
        by number (x, y, sl, sr, inr (inl (none, is))) b on_left on_right =
            none_after left right f (subst (Stands pairs right f) none sr)
            ∙ on_left other number (subst (Stands pairs left f) (sym is) sl) b
        by number (x, y, sl, sr, inr (inr (some, more, at))) b on_left on_right =
            let stands : PairStands left right x y number =
            record {
              pair = record { some = some; more = more; at = at };
              one = sl;
              other = sr;
              on_left = on_left;
              on_right = on_right;
            } in pair_same stands other b
