-- Tries that are spelled and lawful are read.
use Rattle.std.proofs.Common.{◌≡◌, ℕ, ◌+◌, ◌*◌, ◌/◌, ◌^◌, ◌<◌, ◌≤◌, List, [], ◌∷◌, ◌++◌, length, take, drop, sum}
use Rattle.std.proofs.Common.{refl, sym, ap, ◌∙◌, arith, Bool, true, append_assoc, Ok}
use Rattle.std.specs.Prelude.{nat_lt, ◌==◌}
use Rattle.std.proofs.lemmas.List.{append-nil, take-append-drop}
use Rattle.std.proofs.lemmas.List.Sums.{sum_by-cons, sum_by-append}
use Rattle.std.proofs.lemmas.Bool.{and_parts, lt-ltb, le-leb, eqb-true}
use Rattle.std.proofs.Math.Path.{subst}
use Rattle.std.proofs.Math.Nat.{one-le-pow}
use Rattle.std.proofs.lemmas.Nat.{div-add-mod', mod_below}
use Rattle.flat_table.specs.Groups.{groups_of, is_kept_word, depth_of}
use Rattle.flat_table.specs.Table.{levels_from}
use Rattle.flat_table.specs.Sound.{leads_into, first_level}
use Rattle.table_sizes.specs.Sizes.{max_words}
use Rattle.table_image.specs.declared.version.Version.{Version}
use Rattle.table_image.specs.declared.version.Version.TheVariants.{One, Two}
use Rattle.table_image.specs.declared.load_fault.ImageKind.TheVariants.{TooMany, Unsound, KeptGroups}
use Rattle.table_image.specs.Spelling.{short, long, kept_len, spelled, all_spelled, spelled_kept, spelled_trie}
use Rattle.table_image.specs.Spelling.{spelled_tries, all_groups}
use Rattle.table_image.specs.ImageReading.{◌>>=◌, TriesView, tested, numbers, level_fits, kept_groups, trie_of, one_trie}
use Rattle.table_image.specs.ImageReading.{tries_after}
use Rattle.list_lemmas.proofs.Rests.{after, RestAt}
use Rattle.table_image.proofs.Readings.{both}
use Rattle.table_image.proofs.NumbersRead.{fits, tested_spelled, after_field, rest_after, AllTested, numbers_spelled}
use Rattle.table_image.proofs.NumbersRead.{length-all_spelled}
use Rattle.table_image.proofs.TriesRead.{IsTrie, AreTries, small_lens}

-- the kept groups of a trie, and what stands after them
record KeptOf (version : Version) (key_len : ℕ) (bytes : List ℕ) (at kept : ℕ) (rest : List ℕ) : Type 0 where
  pub read : kept_groups version key_len bytes at ≡ Ok kept
  pub next : drop (at + kept_len version) bytes ≡ rest

-- a word of kept groups is below the power of two that a key of so many groups has
pub kept_small : (key_len kept : ℕ) → 2 ^ groups_of key_len ≤ 256 ^ short → is_kept_word key_len kept ≡ true →
    fits short kept ≡ true
kept_small key_len kept few keeps =
    let parts = and_parts (nat_lt 0 kept) (kept / 2 ^ groups_of key_len == 0) keeps in
    let none : kept / 2 ^ groups_of key_len ≡ 0 = eqb-true _ _ parts.1 in
    lt-ltb kept (256 ^ short)
    (omega (arith, below_of kept (2 ^ groups_of key_len) none (one-le-pow (groups_of key_len) 2 (omega arith))))
  where
    below_of : (a b : ℕ) → a / b ≡ 0 → 1 ≤ b → a < b
    below_of a b none some =
        let split = div-add-mod' a b in
        let low = mod_below a b some in
        let nothing : a / b * b ≡ 0 = ap (λ q. q * b) none ∙ omega arith in
        omega arith

-- kept groups that are spelled are read
kept_spelled : (version : Version) (key_len : ℕ) (bytes : List ℕ) (at kept : ℕ) (rest : List ℕ) →
    2 ^ groups_of key_len ≤ 256 ^ short → is_kept_word key_len kept ≡ true →
    (version ≡ One → kept ≡ all_groups key_len) →
    drop at bytes ≡ spelled_kept version kept ++ rest → KeptOf version key_len bytes at kept rest
kept_spelled One key_len bytes at kept rest few keeps groups e = record {
  read = ap Ok (sym (groups refl));
  next = ap (λ k. drop k bytes) (omega arith) ∙ e;
}
kept_spelled Two key_len bytes at kept rest few keeps groups e = record {
  read = tested_spelled KeptGroups short (is_kept_word key_len) bytes at kept rest (omega arith) e
      (kept_small key_len kept few keeps) keeps;
  next = after_field short bytes at kept rest e;
}

-- levels that fit together fit one after the other
fit_levels : (taken : ℕ) (first lens : List ℕ) → taken + sum (first ++ lens) ≤ max_words →
    AllTested (level_fits taken) first lens
fit_levels taken first [] fit = tt
fit_levels taken first (len ∷ lens) fit =
    let total : sum (first ++ len ∷ lens) ≡ sum first + (len + sum lens) =
    sum_by-append (λ n. n) first (len ∷ lens) ∙ ap (λ n. sum first + n) (sum_by-cons (λ n. n) len lens) in (
      le-leb (taken + sum first + len) max_words (omega (arith, fit, total)),
      fit_levels taken (first ++ len ∷ []) lens (rw (append_assoc first (len ∷ []) lens) fit),
    )

-- one trie more than others
abbrev pub with_trie : TriesView → ℕ → ℕ → List ℕ → ℕ → TriesView
with_trie tries kept root own end = record {
  kept = tries.kept ++ kept ∷ [];
  roots = tries.roots ++ root ∷ [];
  level_lens = tries.level_lens ++ own;
  end = end;
}

-- a trie was read, and this stands after it
record TrieOf (version : Version) (key_len taken : ℕ) (bytes : List ℕ) (tries : TriesView) (kept root : ℕ)
    (own rest : List ℕ)
    : Type 0 where
  pub end : ℕ
  pub read : one_trie version key_len taken bytes tries ≡ Ok (with_trie tries kept root own end)
  pub next : RestAt bytes end rest

-- a lawful trie that is spelled is read
one_spelled : (version : Version) (key_len taken : ℕ) (bytes : List ℕ) (tries : TriesView) (kept root : ℕ)
    (own rest : List ℕ) →
    2 ^ groups_of key_len ≤ 256 ^ short → IsTrie version key_len taken (sum tries.level_lens) kept root own →
    drop tries.end bytes ≡ spelled_trie version kept own root ++ rest →
    TrieOf version key_len taken bytes tries kept root own rest
one_spelled version key_len taken bytes tries kept root own rest few is e =
    let depth : ℕ = depth_of key_len kept in
    let lens_at : ℕ = tries.end + kept_len version in
    let root_at : ℕ = lens_at + short * depth in
    let end : ℕ = root_at + long in
    let test : List ℕ → ℕ → Bool = level_fits (taken + sum tries.level_lens) in
    let first_text : drop tries.end bytes ≡ spelled_kept version kept
    ++ (all_spelled short own ++ (spelled long root ++ rest)) =
    e ∙ append_assoc (spelled_kept version kept) (all_spelled short own ++ spelled long root) rest
    ∙ ap (λ xs. spelled_kept version kept ++ xs) (append_assoc (all_spelled short own) (spelled long root) rest) in
    let keeps = kept_spelled version key_len bytes tries.end kept (all_spelled short own ++ (spelled long root ++ rest))
    few
    is.keeps is.groups first_text in
    let none : List ℕ = [] in
    let lens_text : drop (lens_at + short * length none) bytes ≡ all_spelled short own ++ (spelled long root ++ rest) =
    ap (λ k. drop k bytes) (omega arith) ∙ keeps.next in
    let lens : numbers TooMany short test bytes lens_at depth ≡ Ok own =
    ap (λ n. numbers TooMany short test bytes lens_at n) (sym is.levels)
    ∙ numbers_spelled TooMany short test bytes lens_at [] own (spelled long root ++ rest) (omega arith) lens_text
    (small_lens own (omega (arith, is.fit))) (fit_levels (taken + sum tries.level_lens) [] own (omega (arith, is.fit)))
    in
    let root_text : drop root_at bytes ≡ spelled long root ++ rest =
    ap (λ k. drop k bytes) (omega (arith, length-all_spelled short own, is.levels))
    ∙ after lens_at bytes (all_spelled short own) (spelled long root ++ rest) keeps.next in
    let root_read : tested Unsound long (leads_into (first_level (levels_from (sum tries.level_lens) own))) bytes
    root_at ≡ Ok root =
    tested_spelled Unsound long (leads_into (first_level (levels_from (sum tries.level_lens) own))) bytes root_at root
    rest
    (omega arith) root_text is.small is.leads in
    record {
      end = end;
      read = both (kept_groups version key_len bytes tries.end)
          (λ k. trie_of version taken bytes tries k (depth_of key_len k)) kept _ keeps.read
          (both (numbers TooMany short test bytes lens_at depth)
          (λ ls. tested Unsound long (leads_into (first_level (levels_from (sum tries.level_lens) ls))) bytes root_at
          >>= λ r. Ok (with_trie tries kept r ls end)) own _ lens
          (both (tested Unsound long (leads_into (first_level (levels_from (sum tries.level_lens) own))) bytes root_at)
          (λ r. Ok (with_trie tries kept r own end)) root _ root_read refl));
      next = rest_after long bytes root_at root rest (omega arith) root_text;
    }

-- tries after others
abbrev pub with_tries : TriesView → List ℕ → List ℕ → List ℕ → ℕ → TriesView
with_tries tries kept roots lens end = record {
  kept = tries.kept ++ kept;
  roots = tries.roots ++ roots;
  level_lens = tries.level_lens ++ lens;
  end = end;
}

-- tries were read, and this stands after them
pub record TriesOf (version : Version) (key_len taken : ℕ) (bytes : List ℕ) (tries : TriesView)
    (kept roots lens rest : List ℕ)
    : Type 0 where
  pub end : ℕ
  pub read : tries_after version key_len taken bytes (length kept) tries ≡ Ok (with_tries tries kept roots lens end)
  pub next : RestAt bytes end rest

-- lawful tries that stand at the end of others are read
pub tries_spelled : {bytes : List ℕ} (version : Version) (key_len taken : ℕ) (tries : TriesView)
    (kept roots lens rest : List ℕ) → 2 ^ groups_of key_len ≤ 256 ^ short →
    AreTries version key_len taken (sum tries.level_lens) kept roots lens →
    RestAt bytes tries.end (spelled_tries version key_len kept roots lens ++ rest) →
    TriesOf version key_len taken bytes tries kept roots lens rest
unfolding tries_after
tries_spelled version key_len taken tries [] [] lens rest few are s = record {
  end = tries.end;
  read = ap Ok (λ i. with_tries_at (sym (append-nil tries.kept) i) (sym (append-nil tries.roots) i)
      ((sym (append-nil tries.level_lens) ∙ ap (λ xs. tries.level_lens ++ xs) (sym are)) i));
  next = s;
}
  where
    with_tries_at : List ℕ → List ℕ → List ℕ → TriesView
    with_tries_at kept roots lens = record { kept = kept; roots = roots; level_lens = lens; end = tries.end }
tries_spelled version key_len taken tries [] (root ∷ roots) lens rest few are s = absurd are
tries_spelled version key_len taken tries (kept ∷ others) [] lens rest few are s = absurd are
tries_spelled {bytes = bytes} version key_len taken tries (kept ∷ others) (root ∷ roots) lens rest few are s =
    let d : ℕ = depth_of key_len kept in
    let own : List ℕ = take d lens in
    let back : List ℕ = drop d lens in
    let after_it : List ℕ = spelled_tries version key_len others roots back ++ rest in
    let here = one_spelled version key_len taken bytes tries kept root own after_it few are.0
    (s.text ∙ append_assoc (spelled_trie version kept own root) (spelled_tries version key_len others roots back) rest)
    in
    let more : TriesView = with_trie tries kept root own here.end in
    let from : sum tries.level_lens + sum own ≡ sum (tries.level_lens ++ own) =
    sym (sum_by-append (λ n. n) tries.level_lens own) in
    let left = tries_spelled version key_len taken more others roots back rest few
    (subst (λ k. AreTries version key_len taken k others roots back) from are.1) here.next in
    let kept_is = append_assoc tries.kept (kept ∷ []) others in
    let roots_is = append_assoc tries.roots (root ∷ []) roots in
    let lens_is = append_assoc tries.level_lens own back ∙ ap (λ xs. tries.level_lens ++ xs) (take-append-drop d lens)
    in
    record {
      end = left.end;
      read = both (one_trie version key_len taken bytes tries) (tries_after version key_len taken bytes (length others))
          more _
          here.read (left.read ∙ ap Ok (λ i. tries_at left.end (kept_is i) (roots_is i) (lens_is i)));
      next = left.next;
    }
  where
    tries_at : ℕ → List ℕ → List ℕ → List ℕ → TriesView
    tries_at end kept roots lens = record { kept = kept; roots = roots; level_lens = lens; end = end }
