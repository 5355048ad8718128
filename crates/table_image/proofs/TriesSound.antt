-- Lawful tries are those of which a sound table is made.
use Rattle.std.proofs.Common.{◌≡◌, ℕ, suc, ◌+◌, ◌≤◌, List, [], ◌∷◌, length, take, drop, sum, map}
use Rattle.std.proofs.Common.{refl, sym, ap, ◌∙◌, arith, Bool, true, length-take, length-drop}
use Rattle.std.specs.Prelude.{◌==◌}
use Rattle.std.specs.List.{list_all, zip}
use Rattle.std.proofs.lemmas.List.Sums.{sum_by-cons, sum_by-take-drop}
use Rattle.std.proofs.lemmas.Bool.{and_parts, and_from, eq-eqb, eqb-true}
use Rattle.flat_table.specs.declared.level.Level.{Level}
use Rattle.flat_table.specs.Groups.{is_kept_word, depth_of}
use Rattle.flat_table.specs.Table.{levels_from, portions}
use Rattle.flat_table.specs.Sound.{leads_into, first_level}
use Rattle.table_sizes.specs.Sizes.{max_words}
use Rattle.flat_table.proofs.Offered.{levels-take, levels-drop}
use Rattle.table_image.specs.declared.version.Version.{Version}
use Rattle.table_image.specs.declared.version.Version.TheVariants.{One}
use Rattle.table_image.specs.Spelling.{long, all_groups}
use Rattle.table_image.proofs.NumbersRead.{fits}
use Rattle.table_image.proofs.TriesRead.{AreTries}

-- the root leads into the first level of its trie
abbrev pub root_leads : ℕ × List Level → Bool
root_leads trie = leads_into (first_level trie.1) trie.0

-- the same, said of each of the lists of a table
pub record AreSound (version : Version) (key_len taken from : ℕ) (kept roots lens : List ℕ) : Type 0 where
  pub same : length kept ≡ length roots
  pub keeps : list_all (is_kept_word key_len) kept ≡ true
  pub groups : version ≡ One → list_all (λ word. word == all_groups key_len) kept ≡ true
  pub levels : length lens ≡ sum (map (depth_of key_len) kept)
  pub fit : taken + (from + sum lens) ≤ max_words
  pub leads : list_all root_leads (zip roots (portions (map (depth_of key_len) kept) (levels_from from lens))) ≡ true
  pub small : list_all (fits long) roots ≡ true

-- of lawful tries each list is as a table's must be
pub are_sound : (version : Version) (key_len taken from : ℕ) (kept roots lens : List ℕ) → taken + from ≤ max_words →
    AreTries version key_len taken from kept roots lens → AreSound version key_len taken from kept roots lens
are_sound version key_len taken from [] [] lens bound are = record {
  same = refl;
  keeps = refl;
  groups = λ _. refl;
  levels = ap length are;
  fit = omega (arith, ap sum are);
  leads = refl;
  small = refl;
}
are_sound version key_len taken from [] (root ∷ roots) lens bound are = absurd are
are_sound version key_len taken from (kept ∷ others) [] lens bound are = absurd are
are_sound version key_len taken from (kept ∷ others) (root ∷ roots) lens bound are =
    let d : ℕ = depth_of key_len kept in
    let here = are.0 in
    let rest = are_sound version key_len taken (from + sum (take d lens)) others roots (drop d lens)
    (omega (arith, here.fit)) are.1 in
    let deep : sum (map (depth_of key_len) (kept ∷ others)) ≡ d + sum (map (depth_of key_len) others) =
    sum_by-cons (λ n. n) d (map (depth_of key_len) others) in
    let sums : sum (take d lens) + sum (drop d lens) ≡ sum lens = sum_by-take-drop (λ (x : ℕ). x) lens d in
    record {
      same = ap suc rest.same;
      keeps = and_from (is_kept_word key_len kept) _ here.keeps rest.keeps;
      groups = λ one. and_from (kept == all_groups key_len) _ (eq-eqb kept (all_groups key_len) (here.groups one))
          (rest.groups one);
      levels = omega (arith, here.levels, rest.levels, length-take d lens, length-drop d lens, deep);
      fit = omega (arith, rest.fit, sums);
      leads = and_from (root_leads (root, take d (levels_from from lens))) _
          (ap (λ levels. leads_into (first_level levels) root) (levels-take d from lens) ∙ here.leads)
          (ap (λ levels. list_all root_leads (zip roots (portions (map (depth_of key_len) others) levels)))
          (levels-drop d from lens)
          ∙ rest.leads);
      small = and_from (fits long root) _ here.small rest.small;
    }

-- lists as a table's must be are those of lawful tries
pub sound_are : (version : Version) (key_len taken from : ℕ) (kept roots lens : List ℕ) →
    AreSound version key_len taken from kept roots lens → AreTries version key_len taken from kept roots lens
sound_are version key_len taken from [] [] [] s = refl
sound_are version key_len taken from [] [] (len ∷ lens) s = absurd (omega (arith, s.levels))
sound_are version key_len taken from [] (root ∷ roots) lens s = absurd (omega (arith, s.same))
sound_are version key_len taken from (kept ∷ others) [] lens s = absurd (omega (arith, s.same))
sound_are version key_len taken from (kept ∷ others) (root ∷ roots) lens s =
    let d : ℕ = depth_of key_len kept in
    let deep : sum (map (depth_of key_len) (kept ∷ others)) ≡ d + sum (map (depth_of key_len) others) =
    sum_by-cons (λ n. n) d (map (depth_of key_len) others) in
    let sums : sum (take d lens) + sum (drop d lens) ≡ sum lens = sum_by-take-drop (λ (x : ℕ). x) lens d in
    let keeps = and_parts (is_kept_word key_len kept) (list_all (is_kept_word key_len) others) s.keeps in
    let small = and_parts (fits long root) (list_all (fits long) roots) s.small in
    let leads = and_parts (root_leads (root, take d (levels_from from lens)))
    (list_all root_leads (zip roots (portions (map (depth_of key_len) others) (drop d (levels_from from lens)))))
    s.leads in
    let groups : version ≡ One →
    (kept ≡ all_groups key_len) × (list_all (λ word. word == all_groups key_len) others ≡ true) =
    λ one. (let both = and_parts (kept == all_groups key_len) (list_all (λ word. word == all_groups key_len) others)
    (s.groups one) in
    (eqb-true kept (all_groups key_len) both.0, both.1)) in (
      record {
        keeps = keeps.0;
        groups = λ one. (groups one).0;
        levels = length-take d lens ∙ omega (arith, s.levels, deep);
        fit = omega (arith, s.fit, sums);
        leads = ap (λ levels. leads_into (first_level levels) root) (sym (levels-take d from lens)) ∙ leads.0;
        small = small.0;
      },
      sound_are version key_len taken (from + sum (take d lens)) others roots (drop d lens) (record {
        same = omega (arith, s.same);
        keeps = keeps.1;
        groups = λ one. (groups one).1;
        levels = length-drop d lens ∙ omega (arith, s.levels, deep);
        fit = omega (arith, s.fit, sums);
        leads = ap (λ levels. list_all root_leads (zip roots (portions (map (depth_of key_len) others) levels)))
            (sym (levels-drop d from lens)) ∙ leads.1;
        small = small.1;
      }),
    )
