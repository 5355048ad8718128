-- Numbers of shared parts and rows, the states and rows that they stand for, and how they are found side by side.
use Rattle.std.proofs.Common.{◌≡◌, ℕ, ◌+◌, ◌-◌, ◌<◌, ◌≤◌, List, [], ◌∷◌, length, map, fold, get_or, Bool, cond}
use Rattle.std.proofs.Common.{Option, None, refl, sym, ◌∙◌, ap, subst, inl, arith, All}
use Rattle.std.specs.Prelude.{nat_eq}
use Rattle.std.specs.List.{filter_map, AllByRecursion, AllZip}
use Rattle.std.specs.List.Sorted.{IsStrictlyIncreasing}
use Rattle.std.specs.Str.{bytes_eq}
use Rattle.std.proofs.lemmas.Bool.{le-ltb, lt-ltb}
use Rattle.std.proofs.lemmas.Option.{option_and_then_some}
use Rattle.rule_set.specs.Rule.{RuleSetView}
use Rattle.rule_set.specs.Rank.{rank_of}
use Rattle.rule_set.specs.Laws.{RanksOrderRules, TheBestHasTheGreatestRank}
use Rattle.state_parts.specs.declared.target.Target.{Target}
use Rattle.state_parts.specs.declared.target.Target.TheVariants.{Parts, Rows}
use Rattle.state_parts.specs.RowsView.{RowsView}
use Rattle.state_parts.specs.Tree.{Tree, leaves, Stands, stepped}
use Rattle.state_parts.specs.Tree.Tree.{Leaf, Node}
use Rattle.state_parts.specs.Rows.{best_row, IsRow}
use Rattle.state_parts.specs.Target.{Grows, Leads, StandsIn}
use Rattle.state_parts.proofs.Offered.{SameOn, stands_alone, stands_for_one, still_stands, row_grows, row_alone}
use Rattle.list_lemmas.proofs.Tests.{bytes_eq_sound}
use Rattle.state_parts.proofs.Offered.{row_is, key_at, key_some}
use Rattle.group_states.specs.Entry.{ColumnView, number_in, entries_step}
use Rattle.group_states.specs.Lists.{lists_with, succ_in, row_list, successor}
use Rattle.group_states.specs.State.{is_live}
use Rattle.group_states.specs.declared.run.Succ.TheVariants.{Dead, State, Row}
use Rattle.trie_merge.proofs.Ahead.{step_number}
use Rattle.list_lemmas.proofs.Among.{Among, among_here, among_left, among_right, made_same, made_same_of}
use Rattle.list_lemmas.proofs.Among.{filter_map-nothing, filter_map-twice, NumbersRise, numbers_rise, back_rises}
use Rattle.list_lemmas.proofs.Among.{back_has, zip_place, zip_finds, zip_weaker, zip_map}
use Rattle.list_lemmas.proofs.Greatest.{places_apart, placed_back, tests_agree, test_live}
use Rattle.trie_merge.proofs.RowNumbers.{row_arranged, rank_said, row_says}
use Rattle.trie_merge.specs.Led.{step_of}
use Rattle.trie_merge.specs.Names.{row_named, IsNames}
use Rattle.trie_merge.specs.Numbers.{is_some_number, numbers_with, succ_of}
use Rattle.trie_merge.specs.Shared.{RuleTree, AreOwn, IsState, IsRowOf, IsIn, AreIn, IsFor}
use Rattle.trie_merge.specs.Words.{RisesFrom}

-- ---- entries of the leaves of a tree

-- two functions that agree on the leaves of a tree give it the same entries
same_on : (tree : Tree) (f g : ℕ → Option ℕ) → ((rule : ℕ) → Among (leaves tree) rule → f rule ≡ g rule)
    → SameOn tree f g
same_on (Leaf rule) f g same = same rule (among_here rule rule [] refl)
same_on (Node left right) f g same = (
  same_on left f g (λ rule there. same rule (among_left (leaves left) (leaves right) rule there)),
  same_on right f g (λ rule there. same rule (among_right (leaves left) (leaves right) rule there)),
)

-- no entries
nothing_stands : (pairs : List (ℕ × ℕ)) (tree : Tree) → Stands pairs tree (λ _. None) 0
nothing_stands pairs (Leaf rule) = refl
nothing_stands pairs (Node left right) =
    (0, 0, nothing_stands pairs left, nothing_stands pairs right, inl (refl, refl))

-- ---- states

module _ (pairs : List (ℕ × ℕ)) (tree : RuleTree) where
  -- two lists are one exactly if their numbers are
  pub states_agree : (list other : List ℕ) (n m : ℕ) → IsState pairs tree list n → IsState pairs tree other m
      → bytes_eq list other ≡ nat_eq n m
  states_agree list other n m a b =
      tests_agree list other n m
      (λ e. a.is ∙ made_same_of number_in a.entries b.entries a.own b.own (leaves tree.tree) tree.rules tree.same
      (stands_for_one pairs a.entries b.entries tree.tree tree.tree n a.stands (rw e b.stands)) ∙ sym b.is)
      (λ e. stands_alone pairs tree.tree a.entries b.entries n m
      (same_on tree.tree a.entries b.entries (λ rule there.
      made_same number_in a.entries b.entries a.own b.own tree.rules (sym a.is ∙ e ∙ b.is) rule
      (sym (tree.same rule) ∙ there))) a.stands b.stands)

  -- a list is live exactly if its number isn't 0
  pub state_live : (list : List ℕ) (n : ℕ) → IsState pairs tree list n → is_live list ≡ is_some_number n
  state_live list n a = by list (states_agree list [] n 0 a (record {
    entries = λ _. None;
    own = λ rule entry is. absurd cc;
    is = sym (filter_map-nothing tree.rules);
    stands = nothing_stands pairs tree.tree;
  }))
    where
      by : (list : List ℕ) → bytes_eq list [] ≡ nat_eq n 0 → is_live list ≡ is_some_number n
      by [] same = test_live [] n same
      by (x ∷ xs) same = test_live (x ∷ xs) n same

-- the entries of rules that rise do so by their rules
pub rises_of : (f : ℕ → Option ℕ) → AreOwn f → (group : List ℕ) → IsStrictlyIncreasing group
    → RisesFrom 0 (filter_map f group)
rises_of f own group rise =
    by 0 (filter_map f group) (numbers_rise _ (back_rises number_in f own group rise))
  where
    by : (least : ℕ) (entries : List ℕ) → NumbersRise least (map number_in entries) → RisesFrom least entries
    by least [] rise = tt
    by least (e ∷ es) rise = (rise.0, by (number_in e + 1) es rise.1)

-- lists and the numbers that stand for them are a relation at each place
are_zip : (set : RuleSetView) (target : Target) (tree : RuleTree) (lists : List (List ℕ)) (numbers : List ℕ)
    → AreIn set target tree lists numbers ≡ AllZip (IsIn set target tree) lists numbers
are_zip set target tree [] [] = refl
are_zip set target tree [] (n ∷ ns) = refl
are_zip set target tree (l ∷ ls) [] = refl
are_zip set target tree (l ∷ ls) (n ∷ ns) = ap (λ rest. IsIn set target tree l n × rest) (are_zip set target tree ls ns)

module _ (set : RuleSetView) (order : RanksOrderRules) (law : TheBestHasTheGreatestRank) (tree : RuleTree)
    (rise : IsStrictlyIncreasing tree.rules) (inside : All (λ rule. rule < length set.rules) tree.rules) where
  -- ---- a number of a row stands for the ranks of what the row says, which are rules of the set

  -- the number of a row stands for the ranks of what the row says, each of a rule of the set
  row_stands : (rows : RowsView) (row : List ℕ) (n : ℕ) → IsRowOf set rows tree row n
      → IsRow rows.rows (map (rank_said set) row) n × AllByRecursion (λ said. said ≤ length set.rules) row
  row_stands rows row n a =
      let entries : List ℕ = filter_map a.entries tree.rules in
      let its = row_says set order law entries (back_rises number_in a.entries a.own tree.rules rise)
      (back_has number_in a.entries a.own (λ rule. rule < length set.rules) tree.rules inside) in (
        subst (λ ranks. IsRow rows.rows ranks n) (ap (λ ranked. best_row ranked entries) a.ranked ∙ its.0
            ∙ ap (map (rank_said set)) (sym a.is)) a.stands,
        subst (AllByRecursion (λ said. said ≤ length set.rules)) (sym a.is) its.1,
      )

  -- so its ranks have the names of the row
  pub all_named_are : (names : List ℕ) → IsNames set names → (rows : RowsView) (lists : List (List ℕ))
      (numbers : List ℕ) → AllByRecursion (λ row. length row ≡ 16) lists → AreIn set (Rows rows) tree lists numbers
      → map (row_named rows names) numbers ≡ lists
  unfolding row_named
  all_named_are names are rows lists numbers long all =
      zip_map (IsIn set (Rows rows) tree) (λ row. length row ≡ 16) (row_named rows names)
      (λ row n long a. by row n long (row_stands rows row n a)) lists numbers long all
    where
      by : (row : List ℕ) (n : ℕ) → length row ≡ 16
          → IsRow rows.rows (map (rank_said set) row) n × AllByRecursion (λ said. said ≤ length set.rules) row
          → map (λ rank. get_or names rank 0) (get_or rows.rows (n - 1) []) ≡ row
      by [] n long its = absurd (omega (arith, long))
      by (x ∷ xs) n long its =
          ap (map (λ rank. get_or names rank 0))
          (key_at bytes_eq bytes_eq_sound rows.rows (map (rank_said set) (x ∷ xs)) [] n its.0)
          ∙ placed_back (rank_of set.rules) (length set.rules) names are.none are.each (x ∷ xs) its.1

  -- ---- tests on numbers say what tests on lists say

  -- in any target two lists are one exactly if their numbers are
  numbers_agree : (target : Target) (list other : List ℕ) (n m : ℕ) → IsIn set target tree list n
      → IsIn set target tree other m → bytes_eq list other ≡ nat_eq n m
  numbers_agree (Parts pairs) list other n m a b = states_agree pairs tree list other n m a b
  numbers_agree (Rows rows) list other n m a b =
      let one = row_stands rows list n a in
      let two = row_stands rows other m b in
      tests_agree list other n m
      (λ e. places_apart (rank_of set.rules) (length set.rules) (order.bounds set.rules) (order.distinct set.rules)
      list other one.1 two.1 (row_is rows.rows _ _ n one.0 (rw e two.0)))
      (λ e. row_alone rows.rows (map (rank_said set) list) n m one.0 (rw e two.0))

  -- in any target a list is live exactly if its number isn't 0
  number_live : (target : Target) (list : List ℕ) (n : ℕ) → IsIn set target tree list n
      → is_live list ≡ is_some_number n
  number_live (Parts pairs) list n a = state_live pairs tree list n a
  number_live (Rows rows) list n a = by list n (row_stands rows list n a).0
    where
      by : (row : List ℕ) (n : ℕ) → IsRow rows.rows (map (rank_said set) row) n → is_live row ≡ is_some_number n
      by [] n none = sym (le-ltb 0 n (omega (arith, none)))
      by (x ∷ xs) n is = sym (lt-ltb 0 n (key_some bytes_eq rows.rows (map (rank_said set) (x ∷ xs)) n is))

  module _ (target : Target) where
    -- ---- side by side

    -- numbers are found where their lists are
    pub finds_alike : (f : ℕ → List ℕ) (g : ℕ → ℕ) (bytes : List ℕ) (lists : List (List ℕ)) (numbers : List ℕ)
        → AllByRecursion (λ byte. IsIn set target tree (f byte) (g byte)) bytes
        → AreIn set target tree lists numbers
        → AreIn set target tree (fold lists_with lists (map f bytes)) (fold numbers_with numbers (map g bytes))
    finds_alike f g bytes lists numbers each all =
        subst (λ T. T) (sym (are_zip set target tree _ _))
        (zip_finds (IsIn set target tree) bytes_eq nat_eq is_live is_some_number (numbers_agree target)
        (number_live target) f g bytes lists numbers each (subst (λ T. T) (are_zip set target tree lists numbers) all))

    -- and reached as the same
    pub succ_alike : (is_last : Bool) (list : List ℕ) (n : ℕ) (lists : List (List ℕ)) (numbers : List ℕ)
        → IsIn set target tree list n → AreIn set target tree lists numbers
        → succ_in is_last lists list ≡ succ_of is_last numbers n
    succ_alike is_last list n lists numbers a all =
        let place = zip_place (IsIn set target tree) (bytes_eq list) (nat_eq n)
        (λ other k b. numbers_agree target list other n k a b) lists numbers
        (subst (λ T. T) (are_zip set target tree lists numbers) all) in
        λ i. cond (number_live target list n a i) (cond is_last (Row (place i)) (State (place i))) Dead

-- ---- numbers when more come

-- the number of a list stands for it when the target goes on
state_grows : (set : RuleSetView) (old new : Target) (tree : RuleTree) → Grows old new → (list : List ℕ) (n : ℕ)
    → IsIn set old tree list n → IsIn set new tree list n
state_grows set (Parts pairs) (Parts now) tree grows list n a = record {
  entries = a.entries;
  own = a.own;
  is = a.is;
  stands = still_stands (Parts pairs) (Parts now) tree.tree a.entries n grows a.stands;
}
state_grows set (Parts pairs) (Rows rows) tree grows list n a = absurd grows
state_grows set (Rows rows) (Parts pairs) tree grows list n a = absurd grows
state_grows set (Rows rows) (Rows now) tree (same, (more, is)) list n a =
    let row : List ℕ = best_row now.ranked (filter_map a.entries tree.rules) in
    record {
      entries = a.entries;
      own = a.own;
      is = a.is;
      ranked = same ∙ a.ranked;
      stands = subst (λ rs. IsRow rs row n) (sym is) (row_grows rows.rows more row n (rw same a.stands));
    }

-- and so do the numbers of several lists
pub are_grown : (set : RuleSetView) (old new : Target) (tree : RuleTree) → Grows old new → (lists : List (List ℕ))
    (numbers : List ℕ) → AreIn set old tree lists numbers → AreIn set new tree lists numbers
are_grown set old new tree grows lists numbers all =
    subst (λ T. T) (sym (are_zip set new tree lists numbers))
    (zip_weaker (IsIn set old tree) (IsIn set new tree) (state_grows set old new tree grows) lists numbers
    (subst (λ T. T) (are_zip set old tree lists numbers) all))

-- ---- where a state leads

-- What bytes lead to stays of its kind.
pub for_grows : (set : RuleSetView) (is_last : Bool) (old new : Target) → Grows old new → IsFor set is_last old
    → IsFor set is_last new
for_grows set is_last (Parts pairs) (Parts now) grows is = is
for_grows set is_last (Parts pairs) (Rows rows) grows is = absurd grows
for_grows set is_last (Rows rows) (Parts pairs) grows is = absurd grows
for_grows set is_last (Rows rows) (Rows now) grows is = (is.0, grows.0 ∙ is.1)

-- What stands for entries does so for their list, and after the last place for their row.
state_in : (set : RuleSetView) (is_last : Bool) (target : Target) (tree : RuleTree) (f : ℕ → Option ℕ) (number : ℕ)
    → AreOwn f → IsFor set is_last target → StandsIn target tree.tree f number
    → IsIn set target tree (cond is_last (row_list set (filter_map f tree.rules)) (filter_map f tree.rules)) number
state_in set is_last (Parts now) tree f number own last stands =
    rw last (record { entries = f; own = own; is = refl; stands = stands })
state_in set is_last (Rows rows) tree f number own last stands = rw last.0 (record {
  entries = f;
  own = own;
  is = refl;
  ranked = last.1;
  stands = subst (λ row. IsRow rows.rows row number) (row_arranged tree f rows.ranked) stands;
})

-- What a byte leads to from a state's number stands for the state's successor.
pub state_leads : (set : RuleSetView) (column : ColumnView) (is_last : Bool) (byte : ℕ) {pairs : List (ℕ × ℕ)}
    {target : Target} {tree : RuleTree} {list : List ℕ} {part number : ℕ} → IsFor set is_last target
    → IsState pairs tree list part → Leads (step_of column byte) pairs target part number
    → IsIn set target tree (successor set column is_last list byte) number
unfolding successor entries_step
state_leads set column is_last byte {target = target} {tree = tree} {number = number} last a leads =
    let step = step_of column byte in
    subst (λ after. IsIn set target tree (cond is_last (row_list set after) after) number)
    (filter_map-twice a.entries step tree.rules ∙ ap (filter_map step) (sym a.is))
    (state_in set is_last target tree (stepped step a.entries) number (λ rule after is.
    option_and_then_some step (a.entries rule) after is (λ entry was then.
    step_number column entry byte after then ∙ a.own rule entry was)) last (leads.stands tree.tree a.entries a.stands))
