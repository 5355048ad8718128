-- The parts of a word, and the nodes that words lead to.
use Rattle.std.proofs.Common.{◌≡◌, ℕ, ◌/◌, ◌%◌, ◌^◌, ◌<◌, true, [], ◌∷◌, arith, ◌≢◌, suc, ◌+◌, ◌-◌, ◌≤◌, ◌==◌, false}
use Rattle.std.proofs.Common.{cond, List, ◌++◌, refl, sym, ap, ◌∙◌, inl, inr, map, length, take, get_or, replicate}
use Rattle.std.proofs.Common.{length-append, subst, ◌⊎◌, zero, All, fold, sum_by, flat_map, lt-ltb, le-ltb, le-leb}
use Rattle.std.proofs.lemmas.Bool.Decides.{nat_tests, eqb_tells}
use Rattle.flat_table.specs.Word.{indexes, index_of, kind_of, boundaries_of, is_unbounded, is_match, is_node, node_len}
use Rattle.flat_table.specs.Word.{next_word, offset_of}
use Rattle.table_fill.specs.Filled.{word_of, match_of, boundaries, as_number, inner_lasts, node_word, node_words}
use Rattle.table_fill.specs.Filled.{succ_word, level_len, words_into, targets_of, words_of_levels}
use Rattle.list_lemmas.proofs.Loops.{below, below-cons}
use Rattle.std.specs.List.{AllByRecursion}
use Rattle.std.proofs.lemmas.Bool.{cases_lt, lt-leb}
use Rattle.std.proofs.lemmas.List.{length-map, get_or-map, length-replicate, take-replicate, get_or_append_left}
use Rattle.std.proofs.Math.Seq.{take-append-add}
use Rattle.std.proofs.lemmas.List.Sums.{sum_by-cons}
use Rattle.std.proofs.lemmas.List.FromFn.{get_or-map-range_with_len, length-map-range_with_len}
use Rattle.group_states.specs.declared.run.Run.{Run}
use Rattle.group_states.specs.declared.run.Succ.TheVariants.{Dead, State, Row}
use Rattle.group_states.specs.Found.{all_bytes}
use Rattle.group_states.specs.Follow.{run_to, on_from, followed}
use Rattle.table_sizes.specs.Sizes.{cost_of, few_runs}
use Rattle.list_lemmas.proofs.Positions.{HasPart, has_front, has_rest}
use Rattle.table_fill.specs.Tries.{HoldBytes, IsThere, AreRuns, AreLevels}
use Rattle.std.proofs.lemmas.List.Elements.{recursion_from_All}
use Rattle.group_states.specs.declared.run.Succ.{Succ}
use Rattle.flat_table.specs.Walk.{moved}
use Rattle.flat_table.proofs.Offered.{match_stays}

-- what stands in a word is found in it
pub record HasParts (boundaries kind index word : ℕ) : Type 0 where
  pub index_is : index_of word ≡ index
  pub kind_is : kind_of word ≡ kind
  pub boundaries_are : word / 2 ^ 32 ≡ boundaries

-- a word of some parts has these parts
pub parts : (boundaries kind index : ℕ) → kind < 8 → index < indexes →
    HasParts boundaries kind index (word_of boundaries kind index)
parts boundaries kind index k i = record {
  index_is = omega arith;
  kind_is = omega arith;
  boundaries_are = omega arith;
}

-- a match ends a walk, has no boundaries, and names its row
pub record IsMatchOf (row word : ℕ) : Type 0 where
  pub matches : is_match word ≡ true
  pub unbounded : is_unbounded word ≡ true
  pub names : index_of word ≡ row

-- the match of a row names the row
pub match_parts : (row : ℕ) → row < indexes → IsMatchOf row (match_of row)
match_parts row i = record {
  matches = grind (arith, nat_tests);
  unbounded = grind (arith, nat_tests);
  names = omega arith;
}

-- four bytes as a number
pub four_bytes : (a b c d : ℕ) → a < 256 → b < 256 → c < 256 → d < 256 → (kind index : ℕ) → kind < 8 → index < indexes →
    boundaries_of (word_of (as_number (a ∷ b ∷ c ∷ d ∷ [])) kind index) ≡ a ∷ b ∷ c ∷ d ∷ []
four_bytes a b c d ha hb hc hd kind index k i =
    let word : ℕ = word_of (as_number (a ∷ b ∷ c ∷ d ∷ [])) kind index in
    let e0 : word / 2 ^ 32 % 256 ≡ a = omega arith in
    let e1 : word / 2 ^ 40 % 256 ≡ b = omega arith in
    let e2 : word / 2 ^ 48 % 256 ≡ c = omega arith in
    let e3 : word / 2 ^ 56 % 256 ≡ d = omega arith in
    λ i. e0 i ∷ e1 i ∷ e2 i ∷ e3 i ∷ []

-- ---- what a word into a node leads to by each byte

-- ---- the run of a byte

-- a byte that the first run holds leads on with it
pub run_here : (run : Run) (runs : List Run) (byte : ℕ) → byte ≤ run.last → run_to (run ∷ runs) byte ≡ run.to
run_here run runs byte within = rw (le-leb byte run.last within) refl

-- and another byte with the rest
pub run_later : (run : Run) (runs : List Run) (byte : ℕ) → run.last < byte → run_to (run ∷ runs) byte ≡ run_to runs byte
run_later run runs byte past = rw (lt-leb byte run.last past) refl

-- of runs that begin after the byte none ends below it
none_below : (byte first : ℕ) (runs : List Run) → HoldBytes first runs → byte < first → below byte (inner_lasts runs)
    ≡ 0
none_below byte first [] hold under = absurd hold
none_below byte first (run ∷ []) hold under = refl
none_below byte first (run ∷ next ∷ runs) hold under =
    below-cons byte run.last (inner_lasts (next ∷ runs))
    ∙ (λ i. cond (le-ltb run.last byte (omega (arith, hold.0)) i) 1 0 + none_below byte (run.last + 1)
    (next ∷ runs) hold.2 (omega (arith, hold.0)) i)

-- the byte's run is after those that end below it
pub run_is : (byte first : ℕ) (runs : List Run) (d : Run) → HoldBytes first runs → byte < 256 →
    (below byte (inner_lasts runs) < length runs)
    × ((get_or runs (below byte (inner_lasts runs)) d).to ≡ run_to runs byte)
run_is byte first [] d hold small = absurd hold
run_is byte first (run ∷ []) d hold small = (omega arith, sym (run_here run [] byte (omega (arith, hold.1))))
run_is byte first (run ∷ next ∷ runs) d hold small = elim (cases_lt run.last byte) [
  | inr within ↦
      let none : below byte (inner_lasts (run ∷ next ∷ runs)) ≡ 0 =
      below-cons byte run.last (inner_lasts (next ∷ runs))
      ∙ (λ i. cond (le-ltb run.last byte within i) 1 0 + none_below byte (run.last + 1) (next ∷ runs) hold.2
      (omega (arith, within)) i) in (
        omega (arith, none),
        ap (λ n. (get_or (run ∷ next ∷ runs) n d).to) none ∙ sym (run_here run (next ∷ runs) byte within),
      )
  | inl above ↦
      let rest = run_is byte (run.last + 1) (next ∷ runs) d hold.2 small in
      let one : below byte (inner_lasts (run ∷ next ∷ runs)) ≡ suc (below byte (inner_lasts (next ∷ runs))) =
      below-cons byte run.last (inner_lasts (next ∷ runs))
      ∙ ap (λ b. cond b 1 0 + below byte (inner_lasts (next ∷ runs))) (lt-ltb run.last byte above)
      ∙ omega arith in (
        omega (arith, one, rest.0),
        ap (λ n. (get_or (run ∷ next ∷ runs) n d).to) one ∙ rest.1
            ∙ sym (run_later run (next ∷ runs) byte above),
      )
]

-- ---- the boundaries of a node of a few runs

-- there is one boundary less than there are runs
pub length-inner : (runs : List Run) → length (inner_lasts runs) ≡ length runs - 1
length-inner [] = refl
length-inner (run ∷ []) = refl
length-inner (run ∷ next ∷ runs) = omega (arith, length-inner (next ∷ runs))

-- all boundaries are bytes
abbrev AreSmall : List ℕ → Type 0
AreSmall boundaries = AllByRecursion (λ b. b < 256) boundaries

-- the boundaries of runs are bytes
inner_small : (first : ℕ) (runs : List Run) → HoldBytes first runs → AreSmall (inner_lasts runs)
inner_small first [] hold = absurd hold
inner_small first (run ∷ []) hold = tt
inner_small first (run ∷ next ∷ runs) hold = (omega (arith, hold.1), inner_small (run.last + 1) (next ∷ runs) hold.2)

-- four boundaries, of which those that are no ends of runs are 255
four : (lasts : List ℕ) → length lasts ≤ 4 → AreSmall lasts → (byte : ℕ) → byte < 256 → (kind index : ℕ) → kind < 8 →
    index < indexes →
    below byte (boundaries_of (word_of (as_number (take 4 (lasts ++ replicate 4 255))) kind index)) ≡ below byte lasts
four [] few small byte h kind index k i =
    ap (below byte) (four_bytes 255 255 255 255 (omega arith) (omega arith) (omega arith) (omega arith) kind index k i)
    ∙ grind (arith, nat_tests)
four (a ∷ []) few small byte h kind index k i =
    ap (below byte) (four_bytes a 255 255 255 small.0 (omega arith) (omega arith) (omega arith) kind index k i)
    ∙ grind (arith, nat_tests)
four (a ∷ b ∷ []) few small byte h kind index k i =
    ap (below byte) (four_bytes a b 255 255 small.0 small.1.0 (omega arith) (omega arith) kind index k i)
    ∙ grind (arith, nat_tests)
four (a ∷ b ∷ c ∷ []) few small byte h kind index k i =
    ap (below byte) (four_bytes a b c 255 small.0 small.1.0 small.1.1.0 (omega arith) kind index k i)
    ∙ grind (arith, nat_tests)
four (a ∷ b ∷ c ∷ d ∷ []) few small byte h kind index k i =
    ap (below byte) (four_bytes a b c d small.0 small.1.0 small.1.1.0 small.1.1.1.0 kind index k i)
four (a ∷ b ∷ c ∷ d ∷ e ∷ lasts) few small byte h kind index k i = absurd (omega (arith, few))

-- ---- the words of a node

-- the words of some runs
abbrev pub run_words : List ℕ → List Run → List ℕ
run_words targets runs = map (λ (run : Run). succ_word targets run.to) runs

-- a node of a few runs has their words, and then matches of row 0
pub few_words : (targets : List ℕ) (runs : List Run) → length runs ≤ few_runs → node_words targets runs
    ≡ run_words targets runs ++ replicate (cost_of (length runs) - length runs) (match_of 0)
unfolding node_words
few_words targets runs few =
    let words : List ℕ = run_words targets runs in
    let unused : ℕ = cost_of (length runs) - length runs in
    let bound : unused ≤ few_runs = grind (arith, nat_tests) in
    let enough : length runs ≤ cost_of (length runs) = grind (arith, nat_tests) in
    let cost : cost_of (length runs) ≡ length words + unused =
    omega (arith, enough, length-map runs (λ (run : Run). succ_word targets run.to)) in
    ap (λ b. cond b (take (cost_of (length runs)) (words ++ replicate few_runs (match_of 0)))
    (map (λ byte. succ_word targets (run_to runs byte)) all_bytes)) (le-leb (length runs) few_runs few)
    ∙ ap (λ k. take k (words ++ replicate few_runs (match_of 0))) cost
    ∙ take-append-add words (replicate few_runs (match_of 0)) unused
    ∙ ap (λ l. words ++ l) (take-replicate unused few_runs (match_of 0) bound)

-- a node of more than five runs has a word for each byte
pub many_words : (targets : List ℕ) (runs : List Run) → few_runs < length runs → node_words targets runs
    ≡ map (λ byte. succ_word targets (run_to runs byte)) all_bytes
unfolding node_words
many_words targets runs many = rw (lt-leb (length runs) few_runs many) refl

-- a node has all its words
pub length-node_words : (targets : List ℕ) (runs : List Run) → length (node_words targets runs) ≡ cost_of (length runs)
unfolding all_bytes
length-node_words targets runs = elim (cases_lt few_runs (length runs)) [
  | inl many ↦ ap length (many_words targets runs many)
      ∙ length-map-range_with_len (λ b. succ_word targets (run_to runs b)) 0 256 ∙ grind (arith, nat_tests)
  | inr few ↦
      let unused : ℕ = cost_of (length runs) - length runs in
      let enough : length runs ≤ cost_of (length runs) = grind (arith, nat_tests) in
      omega (
        arith,
        enough,
        ap length (few_words targets runs few),
        length-append (run_words targets runs) (replicate unused (match_of 0)),
        length-map runs (λ (run : Run). succ_word targets run.to),
        length-replicate unused (match_of 0),
      )
]

-- how far after the first word of a node the byte's word is
offset_by : (word byte kind : ℕ) → kind_of word ≡ kind → offset_of word byte
    ≡ cond (kind == 0) byte (cond (kind == 3) (below byte (boundaries_of word)) 0)
offset_by word byte kind e = ap (λ k. cond (k == 0) byte (cond (k == 3) (below byte (boundaries_of word)) 0)) e

-- what holds of the words into a node of one run, of a few and of more holds of the word into a node
node_cases : (P : ℕ → Type 0) (place : ℕ) (runs : List Run) → (length runs ≡ 1 → P (word_of 0 1 place)) →
    (length runs ≢ 1 → length runs ≤ few_runs → P (word_of (as_number (boundaries runs)) 3 place)) →
    (few_runs < length runs → P (word_of 0 0 place)) → P (node_word place runs)
unfolding node_word
node_cases P place runs single quad full = elim (eqb_tells (length runs) 1) [
  | inl one ↦ rw one.0 (single one.1)
  | inr more ↦ elim (cases_lt few_runs (length runs)) [
    | inl many ↦ rw (more.0, lt-leb (length runs) few_runs many) (full many)
    | inr few ↦ rw (more.0, le-leb (length runs) few_runs few) (quad more.1 few)
  ]
]

-- a run that stands for none
abbrev pub no_run : Run
no_run = record { last = 0; to = Dead }

module _ (words targets : List ℕ) (place : ℕ) (runs : List Run) (byte : ℕ) (hold : HoldBytes 0 runs)
    (small : byte < 256) (fits : place < indexes)
    (has : HasPart 0 words place (node_words targets runs)) where
  -- the word of a run's successor
  abbrev f : Run → ℕ
  f run = succ_word targets run.to

  -- the number of the byte's run
  abbrev n : ℕ
  n = below byte (inner_lasts runs)

  -- the next word is the one of the node to which the kind and the byte point
  next_by : (numbers kind offset : ℕ) → kind < 8 →
      cond (kind == 0) byte (cond (kind == 3) (below byte (boundaries_of (word_of numbers kind place))) 0) ≡ offset →
      offset < length (node_words targets runs) →
      next_word words (word_of numbers kind place) byte ≡ get_or (node_words targets runs) offset 0
  next_by numbers kind offset k is within =
      let word : ℕ = word_of numbers kind place in
      let p = parts numbers kind place k fits in
      let at : index_of word + offset_of word byte ≡ place + offset =
      omega (arith, p.index_is, offset_by word byte kind p.kind_is, is) in
      ap (λ n. get_or words n 0) at ∙ has offset within

  -- a word of a few runs is that of the byte's run
  by_few : length runs ≤ few_runs → (numbers kind : ℕ) → kind < 8 →
      cond (kind == 0) byte (cond (kind == 3) (below byte (boundaries_of (word_of numbers kind place))) 0) ≡ n →
      next_word words (word_of numbers kind place) byte ≡ succ_word targets (run_to runs byte)
  by_few few numbers kind k is =
      let run = run_is byte 0 runs no_run hold small in
      let enough : length runs ≤ cost_of (length runs) = grind (arith, nat_tests) in
      next_by numbers kind n k is (omega (arith, run.0, enough, length-node_words targets runs))
      ∙ ap (λ (l : List ℕ). get_or l n 0) (few_words targets runs few)
      ∙ get_or_append_left (map f runs) (replicate (cost_of (length runs) - length runs) (match_of 0)) 0 n
      (omega (arith, run.0, length-map runs f))
      ∙ get_or-map f runs n no_run 0 run.0
      ∙ ap (succ_word targets) run.1

  -- in a node of a word for each byte it is that of the byte's successor
  by_full : few_runs < length runs → next_word words (word_of 0 0 place) byte ≡ succ_word targets (run_to runs byte)
  unfolding all_bytes
  by_full many =
      let all = many_words targets runs many in
      let of_byte : ℕ → ℕ = λ b. succ_word targets (run_to runs b) in
      next_by 0 0 byte (omega arith) refl (omega (arith, ap length all, length-map-range_with_len of_byte 0 256))
      ∙ ap (λ (l : List ℕ). get_or l byte 0) all
      ∙ get_or-map-range_with_len of_byte 0 256 byte byte 0 small (omega arith)

  -- the next word from a node is that of the byte's successor
  node_next : next_word words (node_word place runs) byte ≡ succ_word targets (run_to runs byte)
  node_next =
      node_cases (λ word. next_word words word byte ≡ succ_word targets (run_to runs byte)) place runs
      (λ one. by_few (omega (arith, one)) 0 1 (omega arith)
      (omega (arith, (run_is byte 0 runs no_run hold small).0, one)))
      (λ more few. by_few few (as_number (boundaries runs)) 3 (omega arith)
      (four (inner_lasts runs) (omega (arith, few, length-inner runs)) (inner_small 0 runs hold) byte small 3 place
      (omega arith) fits)) by_full

-- the word into a node names its place, and has the length of the node
pub record IsInto (place len word : ℕ) : Type 0 where
  pub node : is_node word ≡ true
  pub no_match : is_match word ≡ false
  pub names : index_of word ≡ place
  pub len_is : node_len word ≡ len

-- a word of one of the three kinds of nodes leads into a node of that length
into_by : (boundaries kind place len : ℕ) → place < indexes → ((kind ≡ 0) × (boundaries ≡ 0) × (len ≡ 256))
    ⊎ ((kind ≡ 1) × (boundaries ≡ 0) × (len ≡ 1)) ⊎ ((kind ≡ 3) × (len ≡ 5)) →
    IsInto place len (word_of boundaries kind place)
into_by boundaries kind place len fits cases =
    let word : ℕ = word_of boundaries kind place in
    let below_8 : kind < 8 = grind arith in
    let p = parts boundaries kind place below_8 fits in
    record {
      node = grind (arith, nat_tests, p.kind_is, p.boundaries_are);
      no_match = grind (arith, nat_tests, p.kind_is);
      names = p.index_is;
      len_is = grind (arith, nat_tests, p.kind_is);
    }

-- the word of a state's node leads into the node
pub node_into : (place : ℕ) (runs : List Run) → place < indexes → IsInto place (cost_of (length runs))
    (node_word place runs)
node_into place runs fits =
    node_cases (IsInto place (cost_of (length runs))) place runs
    (λ one. into_by 0 1 place _ fits (inr (inl (refl, refl, ap cost_of one))))
    (λ more few. into_by (as_number (boundaries runs)) 3 place _ fits (inr (inr (refl, grind (arith, nat_tests)))))
    (λ many. into_by 0 0 place _ fits (inl (refl, refl, grind (arith, nat_tests))))

-- ---- the levels of a trie: where a walk over their words leads, and that each word leads on

-- ---- the nodes of a level

-- a state's node: where it begins, and that its words stand there
pub record NodeAt (words targets : List ℕ) (until : ℕ) (runs : List Run) (word : ℕ) : Type 0 where
  pub at : ℕ
  pub word_is : word ≡ node_word at runs
  pub within : at + cost_of (length runs) ≤ until
  pub has : HasPart 0 words at (node_words targets runs)

-- one node more adds its words to those of a level
pub level_len-cons : (runs : List Run) (states : List (List Run)) → level_len (runs ∷ states)
    ≡ cost_of (length runs) + level_len states
level_len-cons runs states = sum_by-cons (λ (r : List Run). cost_of (length r)) runs states

-- a level has as many words as its nodes together
pub length-level : (targets : List ℕ) (states : List (List Run)) → length (flat_map (node_words targets) states)
    ≡ level_len states
length-level targets [] = refl
length-level targets (runs ∷ states) =
    length-append (node_words targets runs) (flat_map (node_words targets) states)
    ∙ (λ i. length-node_words targets runs i + length-level targets states i)
    ∙ sym (level_len-cons runs states)

module _ (words targets : List ℕ) (until : ℕ) where
  -- the node of a state stands where the word into it says
  node_at : (place : ℕ) (states : List (List Run)) (number : ℕ) → number < length states →
      HasPart 0 words place (flat_map (node_words targets) states) → place + level_len states ≤ until →
      NodeAt words targets until (get_or states number []) (get_or (words_into place states) number 0)
  node_at place [] number within has fits = absurd (omega (arith, within))
  node_at place (runs ∷ states) zero within has fits = record {
    at = place;
    word_is = refl;
    within = omega (arith, fits, level_len-cons runs states);
    has = has_front 0 words place (node_words targets runs) (flat_map (node_words targets) states) has;
  }
  node_at place (runs ∷ states) (suc number) within has fits =
      let after : ℕ = place + cost_of (length runs) in
      node_at after states number (omega (arith, within))
      (has_rest 0 words place (node_words targets runs) (flat_map (node_words targets) states) has after
      (omega (arith, length-node_words targets runs))) (omega (arith, fits, level_len-cons runs states))

-- ---- walks

-- a walk that is at the match of row 0 stays there
dead_stays : (words bytes : List ℕ) → fold (moved words) (match_of 0) bytes ≡ match_of 0
dead_stays words bytes = match_stays words (match_of 0) bytes (match_parts 0 (omega arith)).matches

-- what all runs of a list have in common, the byte's run has too
pub there_by : (rows : ℕ) (levels : List (List (List Run))) (runs : List Run) (byte : ℕ) →
    AllByRecursion (λ (run : Run). IsThere rows levels run.to) runs → IsThere rows levels (run_to runs byte)
there_by rows levels [] byte all = tt
there_by rows levels (run ∷ runs) byte all = elim (cases_lt run.last byte) [
  | inr here ↦ subst (IsThere rows levels) (sym (run_here run runs byte here)) all.0
  | inl later ↦ subst (IsThere rows levels) (sym (run_later run runs byte later)) (there_by rows levels runs byte all.1)
]

-- the words of a level's nodes, which begin at the place
abbrev pub words_here : ℕ → List ℕ → List (List Run) → List (List (List Run)) → List ℕ
words_here place matches states levels =
    flat_map (node_words (targets_of (place + level_len states) matches levels)) states

-- and those of the levels after it
abbrev pub words_after : ℕ → List ℕ → List (List Run) → List (List (List Run)) → List ℕ
words_after place matches states levels = words_of_levels (place + level_len states) matches levels

-- which stand after those of the level
pub has_after : (words : List ℕ) (place : ℕ) (matches : List ℕ) (states : List (List Run))
    (levels : List (List (List Run))) → HasPart 0 words place (words_of_levels place matches (states ∷ levels)) →
    HasPart 0 words (place + level_len states) (words_after place matches states levels)
has_after words place matches states levels has =
    has_rest 0 words place (words_here place matches states levels) (words_after place matches states levels) has
    (place + level_len states)
    (omega (arith, length-level (targets_of (place + level_len states) matches levels) states))

module _ (words matches key : List ℕ) where
  -- one step from a state's node, to where its successor is
  one_step : (place : ℕ) (states : List (List Run)) (levels : List (List (List Run))) (at number : ℕ) →
      All (AreRuns (length matches) levels) states → get_or key at 0 < 256 →
      HasPart 0 words place (words_of_levels place matches (states ∷ levels)) →
      place + sum_by level_len (states ∷ levels) ≤ indexes → number < length states →
      (moved words (get_or (words_into place states) number 0) (get_or key at 0)
      ≡ succ_word (targets_of (place + level_len states) matches levels)
      (run_to (get_or states number []) (get_or key at 0)))
      × IsThere (length matches) levels (run_to (get_or states number []) (get_or key at 0))
  one_step place states levels at number are small has fits within =
      let targets : List ℕ = targets_of (place + level_len states) matches levels in
      let runs : List Run = get_or states number [] in
      let node = node_at words targets indexes place states number within
      (has_front 0 words place (words_here place matches states levels) (words_after place matches states levels) has)
      (omega (arith, sum_by-cons level_len states levels, fits)) in
      let some : 1 ≤ cost_of (length runs) = grind (arith, nat_tests) in
      let fit : node.at < indexes = omega (arith, node.within, some) in
      let is = are number [] within in (
        ap (λ w. moved words w (get_or key at 0)) node.word_is
            ∙ ap (λ b. cond b (node_word node.at runs) (next_word words (node_word node.at runs) (get_or key at 0)))
            (node_into node.at runs fit).no_match
            ∙ node_next words targets node.at runs (get_or key at 0) is.bytes small fit node.has,
        there_by (length matches) levels runs (get_or key at 0)
            (recursion_from_All (λ (run : Run). IsThere (length matches) levels run.to) runs is.there),
      )

  -- after the last level stands a match
  last_of : (on : ℕ → Succ) (place : ℕ) (succ : Succ) → IsThere (length matches) [] succ →
      succ_word (targets_of place matches []) succ ≡ succ_word matches (on_from on succ)
  last_of on place Dead there = refl
  last_of on place (State n) there = absurd there
  last_of on place (Row n) there = refl

  -- and else the walk goes on
  more_of : (place : ℕ) (next : List (List Run)) (levels : List (List (List Run))) (bytes : List ℕ) (on : ℕ → Succ)
      (succ : Succ) → IsThere (length matches) (next ∷ levels) succ →
      ((n : ℕ) → n < length next → fold (moved words) (get_or (words_into place next) n 0) bytes
      ≡ succ_word matches (on n)) →
      fold (moved words) (succ_word (targets_of place matches (next ∷ levels)) succ) bytes
      ≡ succ_word matches (on_from on succ)
  more_of place next levels bytes on Dead there rest = dead_stays words bytes
  more_of place next levels bytes on (State n) there rest = rest n there
  more_of place next levels bytes on (Row n) there rest = absurd there

  -- a walk through the words leads to the word of what the runs lead to
  pub walk_follows : (place : ℕ) (states : List (List Run)) (levels : List (List (List Run))) (at : ℕ) (places : List ℕ)
      (number : ℕ) →
      AreLevels (length matches) (states ∷ levels) → AllByRecursion (λ p. get_or key p 0 < 256) (at ∷ places) →
      HasPart 0 words place (words_of_levels place matches (states ∷ levels)) →
      place + sum_by level_len (states ∷ levels) ≤ indexes → length places ≡ length levels → number < length states →
      fold (moved words) (get_or (words_into place states) number 0) (map (λ p. get_or key p 0) (at ∷ places))
      ≡ succ_word matches (followed (states ∷ levels) (at ∷ places) key number)
  walk_follows place states [] at [] number are small has fits long within =
      let step = one_step place states [] at number are.0 small.0 has fits within in
      step.0 ∙ last_of (λ n. Dead) (place + level_len states) _ step.1
  walk_follows place states [] at (p ∷ places) number are small has fits long within = absurd (omega (arith, long))
  walk_follows place states (next ∷ levels) at [] number are small has fits long within = absurd (omega (arith, long))
  walk_follows place states (next ∷ levels) at (p ∷ places) number are small has fits long within =
      let step = one_step place states (next ∷ levels) at number are.0 small.0 has fits within in
      ap (λ w. fold (moved words) w (map (λ q. get_or key q 0) (p ∷ places))) step.0
      ∙ more_of (place + level_len states) next levels (map (λ q. get_or key q 0) (p ∷ places))
      (λ n. followed (next ∷ levels) (p ∷ places) key n) _ step.1
      (λ n below. walk_follows (place + level_len states) next levels p places n are.1 small.1
      (has_after words place matches states (next ∷ levels) has)
      (omega (arith, sum_by-cons level_len states (next ∷ levels), fits)) (omega (arith, long)) below)
