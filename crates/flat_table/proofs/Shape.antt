-- What the shape of parts says, fact by fact.
use Rattle.std.proofs.Common.{◌≡◌, ◌==◌, ◌&&◌, ℕ, ◌+◌, ◌*◌, ◌%◌, ◌<◌, ◌≤◌, nat_le, nat_lt, Bool, true, false, IsTrue, length, sum, arith}
use Rattle.std.specs.List.{list_all}
use Rattle.std.proofs.lemmas.Bool.{and_parts, eqb-true, leb-true, ltb-true}
use Rattle.table_sizes.specs.Groups.{group_len, max_key_len}
use Rattle.flat_table.specs.Groups.{is_key_len, is_kept_word}
use Rattle.flat_table.specs.Table.{TableView, depths_of, words_of}
use Rattle.table_sizes.specs.Sizes.{max_tries, max_words, row_len}
use Rattle.flat_table.specs.Sound.{begins_with_zeros, is_shaped, first_unsound_root}
use Rattle.flat_table.specs.Sound.{first_unsound_word, sound_fault}
use Rattle.std.specs.Option.{option_or}
use Rattle.std.specs.Prelude.{Option, Some, None, option_map, if◌then◌else◌, refl}
use Rattle.flat_table.specs.declared.sound.SoundFault.TheVariants.{Shape, Root, Word}

-- each of the facts that the shape of parts stands for
pub record IsShaped (table : TableView) : Type 0 where
  pub same : length table.kept ≡ length table.roots
  pub few : length table.roots ≤ max_tries
  pub key_len : is_key_len table.key_len ≡ true
  pub key_some : 0 < table.key_len
  pub key_bound : table.key_len ≤ max_key_len
  pub kept : list_all (is_kept_word table.key_len) table.kept ≡ true
  pub levels : length table.level_lens ≡ sum (depths_of table)
  pub words : length table.words ≡ sum table.level_lens
  pub zeros : begins_with_zeros table.rows ≡ true
  pub small : length table.words + row_len * length table.rows ≤ max_words

-- eight tests that all pass
each_of : (a b c d e f g h : Bool) → (a && b && c && d && e && f && g && h) ≡ true →
    (a ≡ true) × (b ≡ true) × (c ≡ true) × (d ≡ true) × (e ≡ true) × (f ≡ true) × (g ≡ true) × (h ≡ true)
each_of a b c d e f g h all =
    let seven = and_parts (a && b && c && d && e && f && g) h all in
    let six = and_parts (a && b && c && d && e && f) g seven.0 in
    let five = and_parts (a && b && c && d && e) f six.0 in
    let four = and_parts (a && b && c && d) e five.0 in
    let three = and_parts (a && b && c) d four.0 in
    let two = and_parts (a && b) c three.0 in
    let one = and_parts a b two.0 in
    (one.0, one.1, two.1, three.1, four.1, five.1, six.1, seven.1)

-- parts in shape have each of these facts
pub shaped : (table : TableView) → IsTrue (is_shaped table) → IsShaped table
shaped table all =
    let h = each_of (length table.kept == length table.roots) (nat_le (length table.roots) max_tries)
    (is_key_len table.key_len) (list_all (is_kept_word table.key_len) table.kept)
    (length table.level_lens == sum (depths_of table)) (length table.words == sum table.level_lens)
    (begins_with_zeros table.rows) (nat_le (words_of table) max_words) all in
    let len = and_parts (table.key_len % group_len == 1) (nat_lt table.key_len (max_key_len + 1)) h.2 in
    let rest = eqb-true (table.key_len % group_len) 1 len.0 in
    let long = ltb-true table.key_len (max_key_len + 1) len.1 in
    record {
      same = eqb-true (length table.kept) (length table.roots) h.0;
      few = leb-true (length table.roots) max_tries h.1;
      key_len = h.2;
      key_some = omega (arith, rest);
      key_bound = omega (arith, long);
      kept = h.3;
      levels = eqb-true (length table.level_lens) (sum (depths_of table)) h.4;
      words = eqb-true (length table.words) (sum table.level_lens) h.5;
      zeros = h.6;
      small = leb-true (words_of table) max_words h.7;
    }

-- what is sound is shaped, and no root and no word is unsound
pub record IsSound (table : TableView) : Type 0 where
  pub shape : IsShaped table
  pub roots : first_unsound_root table ≡ None
  pub words : first_unsound_word table ≡ None

-- parts without a fault are in shape, and no root and no word of them is unsound
parts_of_none : (b : Bool) (root word : Option ℕ) →
    (if b then option_or (option_map Root root) (option_map Word word) else Some Shape) ≡ None →
    (b ≡ true) × (root ≡ None) × (word ≡ None)
parts_of_none false root word e = cc
parts_of_none true None None e = (refl, refl, refl)
parts_of_none true None (Some place) e = cc
parts_of_none true (Some trie) word e = cc

-- parts without a fault are sound
pub sound_parts : (table : TableView) → sound_fault table ≡ None → IsSound table
unfolding sound_fault
sound_parts table e =
    let p = parts_of_none (is_shaped table) (first_unsound_root table) (first_unsound_word table) e in
    record { shape = shaped table p.0; roots = p.1; words = p.2 }

-- parts without a fault are in shape
pub shape_is : (table : TableView) → sound_fault table ≡ None → is_shaped table ≡ true
unfolding sound_fault
shape_is table e =
    (parts_of_none (is_shaped table) (first_unsound_root table) (first_unsound_word table) e).0
