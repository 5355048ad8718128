-- A walk on its way through a sound table: where it stands after so many bytes, and that it can go on.
use Rattle.std.proofs.Common.{◌≡◌, ℕ, ◌+◌, ◌<◌, ◌≤◌, Bool, true, false, None, List, refl, sym, ap, ◌∙◌, arith, inl, inr}
use Rattle.std.proofs.Common.{subst, length, get_or}
use Rattle.std.specs.Prelude.{if◌then◌else◌, slice_index}
use Rattle.std.specs.List.{range_with_len}
use Rattle.std.proofs.lemmas.Bool.{cases_Bool}
use Rattle.std.proofs.lemmas.List.Sums.{length-filter, count_by-le-length}
use Rattle.std.proofs.lemmas.List.FromFn.{length-range_with_len}
use Rattle.flat_table.specs.Word.{index_of, is_match, is_node, next_place, next_word}
use Rattle.table_sizes.specs.Groups.{is_kept}
use Rattle.flat_table.specs.declared.level.Level.{Level}
use Rattle.std.proofs.lemmas.Bool.Decides.{nat_tests}
use Rattle.flat_table.specs.Table.{TableView, level_of, places_of}
use Rattle.flat_table.specs.Sound.{leads_into, sound_fault}
use Rattle.flat_table.specs.Walk.{root_of, moved, word_after, transitions_after}
use Rattle.flat_table.proofs.Shape.{sound_parts}
use Rattle.flat_table.proofs.Safe.{root_leads, node_is_no_match, next_leads_on, none_after}
use Rattle.list_lemmas.proofs.Positions.{filter-range-below}
use Rattle.flat_table.proofs.Transitions.{word_more, transition_more}

-- there are no more kept places than bytes
pub places_bound : (table : TableView) (trie : ℕ) → length (places_of table trie) ≤ table.key_len
places_bound table trie =
    let kept : ℕ → Bool = is_kept (get_or table.kept trie 0) in
    omega (
      arith,
      length-filter kept (range_with_len 0 table.key_len),
      count_by-le-length kept (range_with_len 0 table.key_len),
      length-range_with_len 0 table.key_len,
    )

-- the walk of the key through the trie stands at the word after so many bytes: it names a row, or leads on
pub record Stands (table : TableView) (trie : ℕ) (key : List ℕ) (n word : ℕ) : Type 0 where
  pub is : word ≡ word_after table trie key n
  pub row : is_match word ≡ true → index_of word < length table.rows
  pub level : is_match word ≡ false → leads_into (level_of table trie n) word ≡ true

-- what leads into a level leads to a node
node_of : (level : Level) (word : ℕ) → leads_into level word ≡ true → is_node word ≡ true
node_of level word e = grind (arith, nat_tests)

-- what one more byte needs, and what it leaves
pub record Goes (table : TableView) (trie : ℕ) (key : List ℕ) (n word byte : ℕ) : Type 0 where
  pub there : is_match word ≡ false → next_place word byte < length table.words
  pub node : is_match word ≡ false → is_node word ≡ true
  pub next : Stands table trie key (n + 1) (moved table.words word byte)
  pub steps : transitions_after table trie key (n + 1)
      ≡ transitions_after table trie key n + (if is_match word then 0 else 1)

module _ (table : TableView) (trie : ℕ) (key : List ℕ) (sound : sound_fault table ≡ None)
    (lt : trie < length table.roots) where
  -- each kept place lies within a key
  pub place_below : (n : ℕ) → n < length (places_of table trie) → slice_index (places_of table trie) n < table.key_len
  place_below n h = omega (arith, filter-range-below (is_kept (get_or table.kept trie 0)) 0 table.key_len n h)

  -- a walk begins at the root
  pub begins : Stands table trie key 0 (root_of table trie)
  begins = record {
    is = refl;
    row = λ match. cc (node_is_no_match table trie 0 (root_of table trie) (root_leads table trie sound lt));
    level = λ _. root_leads table trie sound lt;
  }

  -- after one more byte a walk stands at the word to which the byte leads
  moves : (word byte n : ℕ) → Stands table trie key n word → byte < 256 →
      word_after table trie key (n + 1) ≡ moved table.words (word_after table trie key n) byte →
      Stands table trie key (n + 1) (moved table.words word byte)
  moves word byte n s small more =
      let is : moved table.words word byte ≡ word_after table trie key (n + 1) =
      ap (λ (w : ℕ). moved table.words w byte) s.is ∙ sym more in
      elim (cases_Bool (is_match word)) [
        | inl w ↦
            let stays : moved table.words word byte ≡ word = rw w refl in
            record {
              is = is;
              row = λ _. subst (λ (v : ℕ). index_of v < length table.rows) (sym stays) (s.row w);
              level = λ no_match. cc (ap (λ (v : ℕ). is_match v) stays);
            }
        | inr w ↦
            let on = next_leads_on table trie sound lt n word byte small (s.level w) in
            let next : moved table.words word byte ≡ next_word table.words word byte = rw w refl in
            record {
              is = is;
              row = λ match. subst (λ (v : ℕ). index_of v < length table.rows) (sym next)
                  (on.row (ap (λ (v : ℕ). is_match v) (sym next) ∙ match));
              level = λ no_match. subst (λ (v : ℕ). leads_into (level_of table trie (n + 1)) v ≡ true) (sym next)
                  (on.level (ap (λ (v : ℕ). is_match v) (sym next) ∙ no_match));
            }
      ]

  -- a walk has what one more byte needs
  pub goes : (n place byte word : ℕ) → n < length (places_of table trie) →
      place ≡ slice_index (places_of table trie) n → byte ≡ slice_index key place → byte < 256 →
      Stands table trie key n word → Goes table trie key n word byte
  goes n place byte word h e b small s = record {
    node = λ no_match. node_of (level_of table trie n) word (s.level no_match);
    there = λ no_match. (next_leads_on table trie sound lt n word byte small (s.level no_match)).there;
    next = moves word byte n s small (word_more table trie key n place h e
        ∙ ap (λ (x : ℕ). moved table.words (word_after table trie key n) x) (sym b));
    steps = transition_more table trie key n h
        ∙ ap (λ (w : ℕ). transitions_after table trie key n + (if is_match w then 0 else 1))
        (sym s.is);
  }

  -- at the end a match stands
  pub ends_at_match : (word : ℕ) → Stands table trie key (length (places_of table trie)) word → is_match word ≡ true
  ends_at_match word s =
      elim (cases_Bool (is_match word)) [
        | inl w ↦ w
        | inr w ↦ cc (
          s.level w,
          none_after table trie (sound_parts table sound).shape lt
              (length (places_of table trie)) word (omega arith),
        )
      ]
