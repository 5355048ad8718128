-- The tries of a table are read exactly where they are spelled and lawful.
use Rattle.std.proofs.Common.{◌≡◌, ℕ, zero, suc, ◌+◌, ◌-◌, ◌*◌, ◌/◌, ◌^◌, ◌≤◌, List, [], ◌∷◌, ◌++◌, length, take}
use Rattle.std.proofs.Common.{drop, sum}
use Rattle.std.proofs.Common.{refl, sym, ap, ◌∙◌, arith, true, append_assoc, Ok}
use Rattle.std.specs.Prelude.{nat_lt, ◌==◌}
use Rattle.std.specs.List.{list_all}
use Rattle.std.proofs.lemmas.List.{append-nil, take_at, drop_at}
use Rattle.std.proofs.lemmas.List.Sums.{sum_by-cons, sum_by-append}
use Rattle.std.proofs.lemmas.Bool.{and_from, lt-ltb, eq-eqb}
use Rattle.std.proofs.Math.Nat.{div-eq_of_lt, one-le-pow}
use Rattle.std.proofs.lemmas.Nat.{pow-add}
use Rattle.std.proofs.Math.Path.{subst}
use Rattle.flat_table.specs.Groups.{groups_of, is_kept_word, depth_of}
use Rattle.flat_table.specs.Table.{levels_from}
use Rattle.flat_table.specs.Sound.{leads_into, first_level}
use Rattle.table_sizes.specs.Sizes.{max_words}
use Rattle.table_image.specs.declared.version.Version.{Version}
use Rattle.table_image.specs.declared.version.Version.TheVariants.{One, Two}
use Rattle.table_image.specs.declared.load_fault.ImageKind.TheVariants.{TooMany, Unsound, KeptGroups}
use Rattle.table_image.specs.Spelling.{short, long, kept_len, spelled, all_spelled, spelled_kept, spelled_trie}
use Rattle.table_image.specs.Spelling.{spelled_tries, all_groups}
use Rattle.table_image.specs.ImageReading.{Reading, ◌>>=◌, TriesView, tested, numbers, level_fits, kept_groups, trie_of}
use Rattle.table_image.specs.ImageReading.{one_trie, tries_after}
use Rattle.table_image.proofs.Fields.{AreBytes}
use Rattle.list_lemmas.proofs.Rests.{joined}
use Rattle.table_image.proofs.Readings.{of_both}
use Rattle.table_image.proofs.NumbersRead.{fits, tested_read, numbers_read, levels_fit}

-- a trie of these kept groups, this root and these level lengths is lawful, where the rows take some of the words of
-- its
-- table, and the tries before it others
pub record IsTrie (version : Version) (key_len taken from kept root : ℕ) (own : List ℕ) : Type 0 where
  pub keeps : is_kept_word key_len kept ≡ true
  pub groups : version ≡ One → kept ≡ all_groups key_len
  pub levels : length own ≡ depth_of key_len kept
  pub fit : taken + (from + sum own) ≤ max_words
  pub leads : leads_into (first_level (levels_from from own)) root ≡ true
  pub small : fits long root ≡ true

-- so are all these tries
abbrev pub AreTries : Version → ℕ → ℕ → ℕ → List ℕ → List ℕ → List ℕ → Type 0
AreTries version key_len taken from [] [] lens = lens ≡ []
AreTries version key_len taken from [] (root ∷ roots) lens = ⊥
AreTries version key_len taken from (kept ∷ others) [] lens = ⊥
AreTries version key_len taken from (kept ∷ others) (root ∷ roots) lens =
    IsTrie version key_len taken from kept root (take (depth_of key_len kept) lens)
    × AreTries version key_len taken (from + sum (take (depth_of key_len kept) lens)) others roots
    (drop (depth_of key_len kept) lens)

-- the kept groups of a trie stand at the place
pub record KeptAt (version : Version) (key_len : ℕ) (bytes : List ℕ) (at kept : ℕ) : Type 0 where
  pub text : drop at bytes ≡ spelled_kept version kept ++ drop (at + kept_len version) bytes
  pub keeps : is_kept_word key_len kept ≡ true
  pub groups : version ≡ One → kept ≡ all_groups key_len

-- all groups are lawful ones
all_kept : (key_len : ℕ) → is_kept_word key_len (all_groups key_len) ≡ true
all_kept key_len =
    let g : ℕ = groups_of key_len in
    let some : 2 ≤ 2 ^ g = all_some ((key_len - 1) / 4) in
    let none : (2 ^ g - 1) / 2 ^ g ≡ 0 = div-eq_of_lt (omega arith) in
    and_from (nat_lt 0 (2 ^ g - 1)) ((2 ^ g - 1) / 2 ^ g == 0) (lt-ltb 0 (2 ^ g - 1) (omega arith)) (eq-eqb _ 0 none)
  where
    all_some : (k : ℕ) → 2 ≤ 2 ^ (1 + k)
    all_some k = omega (arith, pow-add 2 1 k, one-le-pow k 2 (omega arith))

-- kept groups that were read stand in the bytes
kept_read : (version : Version) (key_len : ℕ) (bytes : List ℕ) (at kept : ℕ) → AreBytes bytes →
    kept_groups version key_len bytes at ≡ Ok kept → KeptAt version key_len bytes at kept
kept_read One key_len bytes at kept are e =
    let same : all_groups key_len ≡ kept = cc in
    record {
      text = ap (λ k. drop k bytes) (omega arith);
      keeps = rw (← same) (all_kept key_len);
      groups = λ _. sym same;
    }
kept_read Two key_len bytes at kept are e =
    let read = tested_read KeptGroups short (is_kept_word key_len) bytes at kept are e in
    record { text = read.0.text; keeps = read.1; groups = λ is. absurd cc }

-- a list of numbers whose sum is small has small ones
pub small_lens : (lens : List ℕ) → sum lens ≤ max_words → list_all (fits short) lens ≡ true
small_lens [] bound = refl
small_lens (len ∷ lens) bound =
    let total = sum_by-cons (λ n. n) len lens in
    and_from (fits short len) (list_all (fits short) lens) (lt-ltb len (256 ^ short) (omega (arith, total)))
    (small_lens lens (omega (arith, total)))

-- what was read of one trie after others
pub record TrieAt (version : Version) (key_len taken : ℕ) (bytes : List ℕ) (tries more : TriesView) : Type 0 where
  pub kept : ℕ
  pub root : ℕ
  pub own : List ℕ
  pub is : IsTrie version key_len taken (sum tries.level_lens) kept root own
  pub kept_are : more.kept ≡ tries.kept ++ kept ∷ []
  pub roots_are : more.roots ≡ tries.roots ++ root ∷ []
  pub lens_are : more.level_lens ≡ tries.level_lens ++ own
  pub text : drop tries.end bytes ≡ spelled_trie version kept own root ++ drop more.end bytes

-- a trie that was read after others is lawful and stands in the bytes
one_read : (version : Version) (key_len taken : ℕ) (bytes : List ℕ) (tries more : TriesView) → AreBytes bytes →
    taken + sum tries.level_lens ≤ max_words → one_trie version key_len taken bytes tries ≡ Ok more →
    TrieAt version key_len taken bytes tries more
one_read version key_len taken bytes tries more are fit e =
    let parts = of_both (kept_groups version key_len bytes tries.end)
    (λ kept. trie_of version taken bytes tries kept (depth_of key_len kept)) more e in
    let kept : ℕ = parts.0 in
    let depth : ℕ = depth_of key_len kept in
    let keeps = kept_read version key_len bytes tries.end kept are parts.1 in
    let lens_at : ℕ = tries.end + kept_len version in
    let root_of : List ℕ → Reading ℕ = λ lens. tested Unsound long
    (leads_into (first_level (levels_from (sum tries.level_lens) lens))) bytes (lens_at + short * depth) in
    let made : List ℕ → ℕ → TriesView = λ lens root. record {
      kept = tries.kept ++ kept ∷ [];
      roots = tries.roots ++ root ∷ [];
      level_lens = tries.level_lens ++ lens;
      end = lens_at + short * depth + long;
    } in
    let lens = of_both (numbers TooMany short (level_fits (taken + sum tries.level_lens)) bytes lens_at depth)
    (λ lens. root_of lens >>= λ root. Ok (made lens root)) more parts.2 in
    let own : List ℕ = lens.0 in
    let levels = numbers_read TooMany short (level_fits (taken + sum tries.level_lens)) bytes lens_at depth [] own are
    lens.1 in
    let root = of_both (root_of own) (λ root. Ok (made own root)) more lens.2 in
    let leads = tested_read Unsound long (leads_into (first_level (levels_from (sum tries.level_lens) own))) bytes
    (lens_at + short * depth) root.0 are root.1 in
    let is : made own root.0 ≡ more = cc in
    let total = levels_fit (taken + sum tries.level_lens) [] levels.more (omega arith) levels.pass in
    let lens_text : drop lens_at bytes ≡ all_spelled short own ++ drop (lens_at + short * depth) bytes =
    ap (λ k. drop k bytes) (omega arith) ∙ levels.text
    ∙ ap (λ xs. all_spelled short xs ++ drop (lens_at + short * (0 + depth)) bytes) (sym levels.are)
    ∙ ap (λ k. all_spelled short own ++ drop (lens_at + short * k) bytes) (omega arith) in
    record {
      kept = kept;
      root = root.0;
      own = own;
      is = record {
        keeps = keeps.keeps;
        groups = keeps.groups;
        levels = ap length levels.are ∙ levels.count_is;
        fit = omega (arith, total, ap sum levels.are);
        leads = leads.1;
        small = leads.0.small;
      };
      kept_are = ap (λ (t : TriesView). t.kept) (sym is);
      roots_are = ap (λ (t : TriesView). t.roots) (sym is);
      lens_are = ap (λ (t : TriesView). t.level_lens) (sym is);
      text = joined (drop tries.end bytes) (spelled_kept version kept) (all_spelled short own ++ spelled long root.0) _
          _
          keeps.text
          (joined (drop lens_at bytes) (all_spelled short own) (spelled long root.0) _ _ lens_text leads.0.text)
          ∙ ap (λ (t : TriesView). spelled_trie version kept own root.0 ++ drop t.end bytes) is;
    }

-- what was read of tries after others
pub record TriesAt (version : Version) (key_len taken : ℕ) (bytes : List ℕ) (count : ℕ) (tries all : TriesView) : Type 0
  where
    pub kept : List ℕ
    pub roots : List ℕ
    pub lens : List ℕ
    pub count_is : length kept ≡ count
    pub are : AreTries version key_len taken (sum tries.level_lens) kept roots lens
    pub kept_are : all.kept ≡ tries.kept ++ kept
    pub roots_are : all.roots ≡ tries.roots ++ roots
    pub lens_are : all.level_lens ≡ tries.level_lens ++ lens
    pub text : drop tries.end bytes ≡ spelled_tries version key_len kept roots lens ++ drop all.end bytes

-- a trie in front of others
abbrev in_front : Version → ℕ → ℕ → ℕ → ℕ → ℕ → List ℕ → List ℕ → List ℕ → List ℕ → Type 0
in_front version key_len taken from kept root own others roots lens =
    IsTrie version key_len taken from kept root own × AreTries version key_len taken (from + sum own) others roots lens

-- a lawful trie in front of lawful ones makes all of them lawful
front_lawful : (version : Version) (key_len taken from kept root : ℕ) (own others roots lens : List ℕ) →
    in_front version key_len taken from kept root own others roots lens →
    AreTries version key_len taken from (kept ∷ others) (root ∷ roots) (own ++ lens)
front_lawful version key_len taken from kept root own others roots lens h =
    let front : own ≡ take (depth_of key_len kept) (own ++ lens) =
    sym (take_at own lens (depth_of key_len kept) h.0.levels) in
    let back : lens ≡ drop (depth_of key_len kept) (own ++ lens) =
    sym (drop_at own lens (depth_of key_len kept) h.0.levels) in
    subst (λ (p : List ℕ × List ℕ). in_front version key_len taken from kept root p.0 others roots p.1)
    (λ i. (front i, back i)) h

-- tries that were read after others are lawful and stand in the bytes
pub tries_read : (version : Version) (key_len taken : ℕ) (bytes : List ℕ) (count : ℕ) (tries all : TriesView) →
    AreBytes bytes →
    taken + sum tries.level_lens ≤ max_words → tries_after version key_len taken bytes count tries ≡ Ok all →
    TriesAt version key_len taken bytes count tries all
unfolding tries_after
tries_read version key_len taken bytes zero tries all are fit e =
    let same : tries ≡ all = cc in
    record {
      kept = [];
      roots = [];
      lens = [];
      count_is = refl;
      are = refl;
      kept_are = ap (λ (t : TriesView). t.kept) (sym same) ∙ sym (append-nil tries.kept);
      roots_are = ap (λ (t : TriesView). t.roots) (sym same) ∙ sym (append-nil tries.roots);
      lens_are = ap (λ (t : TriesView). t.level_lens) (sym same) ∙ sym (append-nil tries.level_lens);
      text = ap (λ (t : TriesView). drop t.end bytes) same;
    }
tries_read version key_len taken bytes (suc count) tries all are fit e =
    let parts = of_both (one_trie version key_len taken bytes tries) (tries_after version key_len taken bytes count) all
    e in
    let more : TriesView = parts.0 in
    let here = one_read version key_len taken bytes tries more are fit parts.1 in
    let from : sum more.level_lens ≡ sum tries.level_lens + sum here.own =
    ap sum here.lens_are ∙ sum_by-append (λ n. n) tries.level_lens here.own in
    let rest = tries_read version key_len taken bytes count more all are (omega (arith, from, here.is.fit)) parts.2 in
    let d : ℕ = depth_of key_len here.kept in
    let front : take d (here.own ++ rest.lens) ≡ here.own = take_at here.own rest.lens d here.is.levels in
    let back : drop d (here.own ++ rest.lens) ≡ rest.lens = drop_at here.own rest.lens d here.is.levels in
    record {
      kept = here.kept ∷ rest.kept;
      roots = here.root ∷ rest.roots;
      lens = here.own ++ rest.lens;
      count_is = ap suc rest.count_is;
      are = front_lawful version key_len taken (sum tries.level_lens) here.kept here.root here.own rest.kept rest.roots
          rest.lens
          (here.is, subst (λ k. AreTries version key_len taken k rest.kept rest.roots rest.lens) from rest.are);
      kept_are = rest.kept_are ∙ ap (λ xs. xs ++ rest.kept) here.kept_are
          ∙ append_assoc tries.kept (here.kept ∷ []) rest.kept;
      roots_are = rest.roots_are ∙ ap (λ xs. xs ++ rest.roots) here.roots_are
          ∙ append_assoc tries.roots (here.root ∷ []) rest.roots;
      lens_are = rest.lens_are ∙ ap (λ xs. xs ++ rest.lens) here.lens_are
          ∙ append_assoc tries.level_lens here.own rest.lens;
      text = joined (drop tries.end bytes) (spelled_trie version here.kept here.own here.root)
          (spelled_tries version key_len rest.kept rest.roots rest.lens) _ _ here.text rest.text
          ∙ ap (λ xs. (spelled_trie version here.kept xs here.root ++ spelled_tries version key_len rest.kept rest.roots
          rest.lens)
          ++ drop all.end bytes) (sym front)
          ∙ ap (λ xs. (spelled_trie version here.kept (take d (here.own ++ rest.lens)) here.root
          ++ spelled_tries version key_len rest.kept rest.roots xs) ++ drop all.end bytes) (sym back);
    }
