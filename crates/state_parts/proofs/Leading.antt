-- Where parts lead.
use Rattle.std.proofs.Common.{◌≡◌, ℕ, ◌≤◌, List, [], ◌++◌, length, Option, Some, None, refl, sym, ◌∙◌}
use Rattle.std.proofs.Common.{ap, subst, inl, inr, arith, length-append}
use Rattle.std.specs.List.{filter_map, cons_option}
use Rattle.std.specs.Str.{bytes_eq}
use Rattle.std.specs.Option.{option_and_then}
use Rattle.std.proofs.lemmas.List.{append-nil, append_assoc}
use Rattle.std.proofs.lemmas.List.Elements.{filter_map-append}
use Rattle.state_parts.specs.declared.target.Target.{Target}
use Rattle.state_parts.specs.declared.target.Target.TheVariants.{Parts, Rows}
use Rattle.state_parts.specs.Keys.{KeyAt, same_pair}
use Rattle.state_parts.specs.Tree.{Tree, leaves, IsLeaf, Stands, stepped}
use Rattle.state_parts.specs.Tree.Tree.{Leaf, Node}
use Rattle.state_parts.specs.Rows.{row_of_entry, best_row, IsRow}
use Rattle.state_parts.specs.Target.{count, StandsIn, Grows, JoinsIn, IsEntryIn, IsFoundIn, Leads}
use Rattle.state_parts.proofs.Keys.{key_grows, key_some, key_is}
use Rattle.state_parts.proofs.RowLaws.{join-none, best_append, entry_has_rank, row_grows, some_row}
use Rattle.state_parts.proofs.Standing.{IsPair, pair_sound, stands_grow, none_joined}

-- ---- numbers that come later

-- what goes on from another has at least as many numbers
pub count_grows : (old new : Target) → Grows old new → count old ≤ count new
count_grows (Parts pairs) (Parts now) (more, is) = omega (arith, ap length is, length-append pairs more)
count_grows (Parts pairs) (Rows rows) grows = absurd grows
count_grows (Rows rows) (Parts pairs) grows = absurd grows
count_grows (Rows rows) (Rows now) (same, more) =
    omega (arith, ap length more.1, length-append rows.rows more.0)

-- each target goes on from itself
pub grows_none : (target : Target) → Grows target target
grows_none (Parts pairs) = ([], sym (append-nil pairs))
grows_none (Rows rows) = (refl, ([], sym (append-nil rows.rows)))

-- what goes on from a target that goes on from another goes on from that one too
pub grows_on : (old now new : Target) → Grows old now → Grows now new → Grows old new
grows_on (Parts pairs) (Parts now) (Parts new) (more, is) (further, then) =
    (more ++ further, then ∙ ap (λ l. l ++ further) is ∙ append_assoc pairs more further)
grows_on (Rows rows) (Rows now) (Rows new) (same, more) (same', more') =
    (same' ∙ same, (more.0 ++ more'.0, more'.1 ∙ ap (λ l. l ++ more'.0) more.1 ∙ append_assoc rows.rows more.0 more'.0))
grows_on (Parts pairs) (Parts now) (Rows new) one two = absurd two
grows_on (Parts pairs) (Rows now) new one two = absurd one
grows_on (Rows rows) (Parts now) new one two = absurd one
grows_on (Rows rows) (Rows now) (Parts new) one two = absurd two

-- a number that stands for what is left of rules still does in what goes on
pub still_stands : (old new : Target) (tree : Tree) (entries : ℕ → Option ℕ) (number : ℕ) → Grows old new
    → StandsIn old tree entries number → StandsIn new tree entries number
still_stands (Parts pairs) (Parts now) tree entries number (more, is) stands =
    subst (λ ps. Stands ps tree entries number) (sym is) (stands_grow pairs more tree entries number stands)
still_stands (Parts pairs) (Rows rows) tree entries number grows stands = absurd grows
still_stands (Rows rows) (Parts pairs) tree entries number grows stands = absurd grows
still_stands (Rows rows) (Rows now) tree entries number (same, more) stands =
    subst (λ ranked. IsRow now.rows (best_row ranked (filter_map entries (leaves tree))) number) (sym same)
    (subst (λ rs. IsRow rs (best_row rows.ranked (filter_map entries (leaves tree))) number) (sym more.1)
    (row_grows rows.rows more.0 (best_row rows.ranked (filter_map entries (leaves tree))) number stands))

-- a part that leads to a number still does in what goes on
pub leads_grow : (step : ℕ → Option ℕ) (pairs : List (ℕ × ℕ)) (old new : Target) (part number : ℕ) → Grows old new
    → Leads step pairs old part number → Leads step pairs new part number
leads_grow step pairs old new part number grows leads = record {
  within = omega (arith, leads.within, count_grows old new grows);
  stands = λ tree entries stands.
      still_stands old new tree (stepped step entries) number grows (leads.stands tree entries stands);
}

-- ---- trees without entries

-- No leaf has an entry.
pub Nothing : Tree → (ℕ → Option ℕ) → Type 0
Nothing (Leaf rule) entries = entries rule ≡ None
Nothing (Node left right) entries = Nothing left entries × Nothing right entries

-- a rule without an entry is a leaf of which nothing is left
no_leaf : (rule : ℕ) (entries : ℕ → Option ℕ) → entries rule ≡ None → Nothing (Leaf rule) entries
unfolding Nothing
no_leaf rule entries is = is

-- if number 0 stands for a tree, nothing is left of its rules
nothing : (pairs : List (ℕ × ℕ)) (tree : Tree) (entries : ℕ → Option ℕ) → Stands pairs tree entries 0
    → Nothing tree entries
unfolding Nothing
nothing pairs (Leaf rule) entries stands = by (entries rule) refl stands
  where
    by : (found : Option ℕ) → entries rule ≡ found → IsLeaf pairs found 0 → entries rule ≡ None
    by None is stands = is
    by (Some entry) is stands = absurd (omega (arith, key_some same_pair pairs (0, entry) 0 stands))
nothing pairs (Node left right) entries (one, other, a, b, joins) =
    let none = none_joined pairs one other joins in (
      nothing pairs left entries (subst (Stands pairs left entries) none.0 a),
      nothing pairs right entries (subst (Stands pairs right entries) none.1 b),
    )

-- if nothing is left of some rules, nothing is left after a step
nothing_after : (step : ℕ → Option ℕ) (tree : Tree) (entries : ℕ → Option ℕ) → Nothing tree entries
    → Nothing tree (stepped step entries)
unfolding Nothing
nothing_after step (Leaf rule) entries none = ap (option_and_then step) none
nothing_after step (Node left right) entries none =
    (nothing_after step left entries none.0, nothing_after step right entries none.1)

-- number 0 stands for a tree as a part if nothing is left of its rules
no_part : (pairs : List (ℕ × ℕ)) (tree : Tree) (entries : ℕ → Option ℕ) → Nothing tree entries
    → Stands pairs tree entries 0
unfolding Nothing
no_part pairs (Leaf rule) entries none = subst (λ found. IsLeaf pairs found 0) (sym none) refl
no_part pairs (Node left right) entries none =
    (0, 0, no_part pairs left entries none.0, no_part pairs right entries none.1, inl (refl, refl))

-- a tree of which nothing is left has no entries
no_entries : (tree : Tree) (entries : ℕ → Option ℕ) → Nothing tree entries → filter_map entries (leaves tree) ≡ []
unfolding Nothing
no_entries (Leaf rule) entries none = ap (λ found. cons_option found []) none
no_entries (Node left right) entries none =
    filter_map-append entries (leaves left) (leaves right)
    ∙ (λ i. no_entries left entries none.0 i ++ no_entries right entries none.1 i)

-- number 0 stands for a tree in any target if nothing is left of its rules
none_stands : (target : Target) (tree : Tree) (entries : ℕ → Option ℕ) → Nothing tree entries
    → StandsIn target tree entries 0
none_stands (Parts pairs) tree entries none = no_part pairs tree entries none
none_stands (Rows rows) tree entries none =
    subst (λ xs. IsRow rows.rows (best_row rows.ranked xs) 0) (sym (no_entries tree entries none)) refl

-- ---- two trees as one

module _ (left right : Tree) (entries : ℕ → Option ℕ) where
  -- if nothing is left on the left, the number of the right tree stands for both
  pub only_right : (target : Target) (number : ℕ) → Nothing left entries → StandsIn target right entries number
      → StandsIn target (Node left right) entries number
  only_right (Parts pairs) number none stands = (0, number, no_part pairs left entries none, stands, inl (refl, refl))
  only_right (Rows rows) number none stands =
      subst (λ xs. IsRow rows.rows (best_row rows.ranked xs) number)
      (sym (filter_map-append entries (leaves left) (leaves right)
      ∙ ap (λ l. l ++ filter_map entries (leaves right)) (no_entries left entries none))) stands

  -- if nothing is left on the right, the number of the left tree stands for both
  pub only_left : (target : Target) (number : ℕ) → Nothing right entries → StandsIn target left entries number
      → StandsIn target (Node left right) entries number
  only_left (Parts pairs) number none stands =
      (number, 0, stands, no_part pairs right entries none, inr (inl (refl, refl)))
  only_left (Rows rows) number none stands =
      subst (λ xs. IsRow rows.rows (best_row rows.ranked xs) number)
      (sym (filter_map-append entries (leaves left) (leaves right)
      ∙ ap (λ r. filter_map entries (leaves left) ++ r) (no_entries right entries none)
      ∙ append-nil (filter_map entries (leaves left)))) stands

  -- numbers that are joined stand for both
  pub joined_stands : (target : Target) (one other number : ℕ) → JoinsIn target one other number
      → StandsIn target left entries one → StandsIn target right entries other
      → StandsIn target (Node left right) entries number
  joined_stands (Parts pairs) one other number joins a b = (one, other, a, b, joins)
  joined_stands (Rows rows) one other number joins a b =
      subst (λ row. IsRow rows.rows row number)
      (sym (ap (best_row rows.ranked) (filter_map-append entries (leaves left) (leaves right))
      ∙ best_append rows.ranked (filter_map entries (leaves left)) (filter_map entries (leaves right))))
      (joins (best_row rows.ranked (filter_map entries (leaves left)))
      (best_row rows.ranked (filter_map entries (leaves right))) a b)

-- ---- an entry

-- the number of a rule's entry stands for what is left of the rule
entry_stands : (target : Target) (rule entry number : ℕ) (entries : ℕ → Option ℕ) → entries rule ≡ Some entry
    → IsEntryIn target entry number → StandsIn target (Leaf rule) entries number
entry_stands (Parts pairs) rule entry number entries is at = subst (λ found. IsLeaf pairs found number) (sym is) at
entry_stands (Rows rows) rule entry number entries is at =
    subst (λ found. IsRow rows.rows (best_row rows.ranked (cons_option found [])) number) (sym is)
    (subst (λ row. IsRow rows.rows row number) (sym (join-none (row_of_entry rows.ranked entry)))
    (some_row rows.rows (row_of_entry rows.ranked entry) number (entry_has_rank rows.ranked entry) at))

-- what is left of one rule has the same number when more come
pub found_grows : (old new : Target) (found : Option ℕ) (number : ℕ) → Grows old new → IsFoundIn old found number
    → IsFoundIn new found number
found_grows old new None number grows is = is
found_grows (Parts pairs) (Parts now) (Some entry) number (more, same) is =
    subst (λ ps. KeyAt same_pair ps (0, entry) number) (sym same) (key_grows same_pair pairs more (0, entry) number is)
found_grows (Parts pairs) (Rows rows) (Some entry) number grows is = absurd grows
found_grows (Rows rows) (Parts pairs) (Some entry) number grows is = absurd grows
found_grows (Rows rows) (Rows now) (Some entry) number (same, more) is =
    subst (λ ranked. KeyAt bytes_eq now.rows (row_of_entry ranked entry) number) (sym same)
    (subst (λ rs. KeyAt bytes_eq rs (row_of_entry rows.ranked entry) number) (sym more.1)
    (key_grows bytes_eq rows.rows more.0 (row_of_entry rows.ranked entry) number is))

module _ (step : ℕ → Option ℕ) (pairs : List (ℕ × ℕ)) (target : Target) (part number : ℕ) where
  -- an entry leads to what the step makes of it
  entry_leads : (entry : ℕ) → KeyAt same_pair pairs (0, entry) part → IsFoundIn target (step entry) number
      → (tree : Tree) (entries : ℕ → Option ℕ) → Stands pairs tree entries part
      → StandsIn target tree (stepped step entries) number
  entry_leads entry at found (Leaf rule) entries stands = by (entries rule) refl stands
    where
      then : (after : Option ℕ) → stepped step entries rule ≡ after → IsFoundIn target after number
          → StandsIn target (Leaf rule) (stepped step entries) number
      then None is none = subst (StandsIn target (Leaf rule) (stepped step entries)) (sym none)
          (none_stands target (Leaf rule) (stepped step entries) (no_leaf rule (stepped step entries) is))
      then (Some e) is there = entry_stands target rule e number (stepped step entries) is there

      by : (before : Option ℕ) → entries rule ≡ before → IsLeaf pairs before part
          → StandsIn target (Leaf rule) (stepped step entries) number
      by None is stands = absurd (omega (arith, stands, key_some same_pair pairs (0, entry) part at))
      by (Some e) is stands =
          let same : e ≡ entry = ap (λ p. p.1) (key_is same_pair pair_sound pairs (0, e) (0, entry) part stands at) in
          then (step entry) (ap (option_and_then step) is ∙ ap step same) found
  entry_leads entry at found (Node left right) entries (x, y, sl, sr, inl (none, is)) =
      only_right left right (stepped step entries) target number
      (nothing_after step left entries (nothing pairs left entries (subst (Stands pairs left entries) none sl)))
      (entry_leads entry at found right entries (subst (Stands pairs right entries) (sym is) sr))
  entry_leads entry at found (Node left right) entries (x, y, sl, sr, inr (inl (none, is))) =
      only_left left right (stepped step entries) target number
      (nothing_after step right entries (nothing pairs right entries (subst (Stands pairs right entries) none sr)))
      (entry_leads entry at found left entries (subst (Stands pairs left entries) (sym is) sl))
  entry_leads entry at found (Node left right) entries (x, y, sl, sr, inr (inr (some, more, to))) =
      let same = key_is same_pair pair_sound pairs (x, y) (0, entry) part to at in
      absurd (omega (arith, some, ap (λ p. p.0) same))

  -- A pair of parts, and where each of them leads: what those numbers are joined to is that of the pair.
  pub record PairLeads (one other mine its : ℕ) : Type 0 where
    pub pair : IsPair pairs one other part
    pub left : Leads step pairs target one mine
    pub right : Leads step pairs target other its
    pub joins : JoinsIn target mine its number

  -- a pair leads to what its parts lead to, joined
  pair_leads : {one other mine its : ℕ} → PairLeads one other mine its → (tree : Tree) (entries : ℕ → Option ℕ)
      → Stands pairs tree entries part → StandsIn target tree (stepped step entries) number
  pair_leads {one = one} {other = other} leads (Leaf rule) entries stands = absurd (by (entries rule) stands)
    where
      by : (before : Option ℕ) → IsLeaf pairs before part → ⊥
      by None is = omega (arith, is, key_some same_pair pairs (one, other) part leads.pair.at)
      by (Some e) is =
          let same = key_is same_pair pair_sound pairs (0, e) (one, other) part is leads.pair.at in
          omega (arith, leads.pair.some, ap (λ p. p.0) same)
  pair_leads leads (Node left right) entries (x, y, sl, sr, inl (none, is)) =
      only_right left right (stepped step entries) target number
      (nothing_after step left entries (nothing pairs left entries (subst (Stands pairs left entries) none sl)))
      (pair_leads leads right entries (subst (Stands pairs right entries) (sym is) sr))
  pair_leads leads (Node left right) entries (x, y, sl, sr, inr (inl (none, is))) =
      only_left left right (stepped step entries) target number
      (nothing_after step right entries (nothing pairs right entries (subst (Stands pairs right entries) none sr)))
      (pair_leads leads left entries (subst (Stands pairs left entries) (sym is) sl))
  pair_leads {one} {other} {mine} {its} leads (Node left right) entries (x, y, sl, sr, inr (inr (some, more, to))) =
      let same = key_is same_pair pair_sound pairs (x, y) (one, other) part to leads.pair.at in
      let e : x ≡ one = ap (λ p. p.0) same in
      let d : y ≡ other = ap (λ p. p.1) same in
      joined_stands left right (stepped step entries) target mine its number leads.joins
      (leads.left.stands left entries (subst (Stands pairs left entries) e sl))
      (leads.right.stands right entries (subst (Stands pairs right entries) d sr))

  -- the part of an entry leads to the number of what the step makes of the entry
  pub entry_is_led : (entry : ℕ) → KeyAt same_pair pairs (0, entry) part → IsFoundIn target (step entry) number
      → number ≤ count target → Leads step pairs target part number
  entry_is_led entry at found within = record { within = within; stands = entry_leads entry at found }

  -- and to a number that is there
  pub pair_is_led : {one other mine its : ℕ} → PairLeads one other mine its → number ≤ count target
      → Leads step pairs target part number
  pair_is_led leads within = record { within = within; stands = pair_leads leads }
