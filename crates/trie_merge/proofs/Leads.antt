-- Where entries and parts lead, and the cuts that tell the words of a state.
use Rattle.std.proofs.Common.{◌≡◌, ℕ, ◌+◌, ◌-◌, ◌<◌, ◌≤◌, List, [], ◌∷◌, ◌++◌, length, get_or, Some, refl, subst, inl}
use Rattle.std.proofs.Common.{inr, ◌⊎◌, arith, length-append, ◌==◌, filter, take, true, false, Option, None, sym, ◌∙◌}
use Rattle.std.proofs.Common.{ap}
use Rattle.std.proofs.lemmas.Bool.{cases_lt, or_right}
use Rattle.std.proofs.Math.Logic.{⊎_map, ⊎_elim}
use Rattle.std.specs.List.{list_any, filter_map, cons_option, range_with_len}
use Rattle.std.proofs.lemmas.Bool.Decides.{nat_tests}
use Rattle.std.proofs.lemmas.List.{get_or_append_left, get_or-take}
use Rattle.std.proofs.lemmas.List.Folds.{list_any-append}
use Rattle.std.proofs.lemmas.List.Elements.{filter_map-append, All-get_or, All-from_recursion}
use Rattle.list_lemmas.proofs.Passing.{each_push, apart_push, followers_counted}
use Rattle.table_sizes.specs.Sizes.{cost_of}
use Rattle.state_parts.specs.declared.pieces.Piece.{Piece}
use Rattle.state_parts.specs.declared.target.Target.{Target}
use Rattle.state_parts.specs.Keys.{KeyAt, same_pair}
use Rattle.state_parts.specs.Target.{count, Grows, HasEntry, IsFoundIn}
use Rattle.state_parts.specs.Pieces.{number_at, Covers, Pushed, PiecesLead, Merges}
use Rattle.state_parts.proofs.Offered.{count_grows, grows_none, grows_on, found_grows, leads_grow, entry_is_led}
use Rattle.state_parts.proofs.Offered.{key_at, pair_sound}
use Rattle.state_parts.specs.Tree.{Tree, leaves, IsLeaf, Stands}
use Rattle.state_parts.specs.Tree.Tree.{Leaf, Node}
use Rattle.group_states.specs.Entry.{ColumnView, entry_step, is_entry_cut}
use Rattle.list_lemmas.proofs.Each.{all_weaker, all-append}
use Rattle.group_states.specs.Found.{all_bytes}
use Rattle.trie_merge.specs.Asked.{StepsAlike}
use Rattle.trie_merge.specs.Led.{step_of, IsAfter, EntryLed, PartLed, StepsLed, AllLed}
use Rattle.trie_merge.proofs.Ahead.{marked_where_changed}
use Rattle.trie_merge.specs.Cuts.{IsCutAt, Knows, no_cuts, IsBuilt, AreBuilt}
use Rattle.trie_merge.specs.Words.{is_change, cost_ahead, RisesFrom}
use Rattle.trie_merge.specs.declared.cuts.Cuts.{Cuts}

-- The pieces say what each byte before a first one makes of the entry.
pub record EntrySoFar (column : ColumnView) (entry : ℕ) (old now : Target) (pieces : List Piece) (first : ℕ) :
    Type 0 where
  pub grows : Grows old now
  pub entries : (other : ℕ) → HasEntry now other → HasEntry old other ⊎ IsAfter column entry other
  pub covers : Covers 0 pieces first
  pub below : first ≤ 256
  pub leads : (byte : ℕ) → byte < first → IsFoundIn now (entry_step column entry byte) (number_at pieces byte)
      × (number_at pieces byte ≤ count now)

module _ {column : ColumnView} {entry : ℕ} {old now : Target} {pieces : List Piece} {first : ℕ}
    (so_far : EntrySoFar column entry old now pieces first) where
  -- the bytes up to the one before the next cut
  pub more_bytes : {new : Target} {pieces' : List Piece} {last to : ℕ} → first < 256 → last < 256
      → StepsAlike column entry first last → Grows now new
      → ((other : ℕ) → HasEntry new other → HasEntry now other ⊎ (entry_step column entry first ≡ Some other))
      → IsFoundIn new (entry_step column entry first) to → to ≤ count new → Pushed pieces pieces' last to
      → EntrySoFar column entry old new pieces' (last + 1)
  more_bytes {new = new} small below alike grows only number fits pushed = record {
    grows = grows_on old now new so_far.grows grows;
    entries = λ other has. ⊎_elim (so_far.entries other) (λ is. inr (first, small, is)) (only other has);
    covers = pushed.covers first so_far.covers alike.ordered;
    below = omega (arith, below);
    leads = λ byte less. elim (cases_lt byte first) [
      | inl early ↦
          let was = so_far.leads byte early in
          rw (pushed.before first byte so_far.covers alike.ordered early) (
            found_grows now new (entry_step column entry byte) (number_at pieces byte) grows was.0,
            omega (arith, was.1, count_grows now new grows),
          )
      | inr late ↦
          rw (
            pushed.here first byte so_far.covers late (omega (arith, less)),
            alike.alike byte late (omega (arith, less)),
          )
          (number, fits)
    ];
  }

-- ---- parts

module _ {column : ColumnView} {pairs : List (ℕ × ℕ)} {entry part : ℕ} {old new : Target} {pieces : List Piece} where
  -- a part of an entry is led as the entry is
  pub entry_part : KeyAt same_pair pairs (0, entry) part → EntryLed column entry old new pieces
      → PartLed column pairs part old new pieces
  entry_part at led = record {
    grows = led.grows;
    entries = λ other has. ⊎_map (λ before. before) (λ after. (entry, at.there, after)) (led.entries other has);
    covers = led.covers;
    leads = λ byte below. entry_is_led (step_of column byte) pairs new part (number_at pieces byte) entry at
        (led.found byte below) (led.within byte below);
  }

module _ {column : ColumnView} {pairs : List (ℕ × ℕ)} {old : Target} {steps : List (List Piece)}
    (led : StepsLed column pairs old steps) where
  -- the pieces of a number lead as its part does
  pub step_at : (number : ℕ) → 0 < number → number ≤ length steps
      → PiecesLead (step_of column) pairs old number (get_or steps (number - 1) [])
  step_at number some within =
      let e : number - 1 + 1 ≡ number = omega (arith, some) in
      rw e at (led.leads (number - 1) (omega (arith, some, within)))

  -- a part of a pair is led as its two parts are, merged
  pub pair_part : {left right part : ℕ} {new : Target} {pieces : List Piece} → KeyAt same_pair pairs (left, right) part
      → 0 < left → 0 < right → left ≤ length steps → right ≤ length steps →
      Merges old new (get_or steps (left - 1) []) (get_or steps (right - 1) []) pieces
      → PartLed column pairs part old new pieces
  pair_part {left = left} {right = right} {part = part} at some more left_in right_in merged = record {
    grows = merged.grows;
    entries = λ other has. inl (merged.entries other has);
    covers = merged.covers;
    leads = merged.leads (step_of column) pairs left right part at some more (step_at left some left_in)
        (step_at right more right_in);
  }

module _ {column : ColumnView} {pairs : List (ℕ × ℕ)} {old now new : Target} {steps : List (List Piece)}
    (all : AllLed column pairs old now steps) where
  -- more parts
  pub led_on : {steps' : List (List Piece)} → AllLed column pairs now new steps' → AllLed column pairs old new steps'
  led_on more = record {
    grows = grows_on old now new all.grows more.grows;
    entries = λ other has. ⊎_elim (all.entries other) (λ after. inr after) (more.entries other has);
    led = more.led;
  }

  -- one more part
  pub one_more_led : {pieces : List Piece} → length steps < length pairs
      → PartLed column pairs (length steps + 1) now new pieces → AllLed column pairs old new (steps ++ pieces ∷ [])
  one_more_led {pieces = pieces} below part =
      led_on (record {
        grows = part.grows;
        entries = part.entries;
        led = record {
          few = omega (arith, length-append steps (pieces ∷ []), below);
          covers = each_push (λ k ps. Covers 0 ps 256) [] steps pieces all.led.covers part.covers;
          leads = each_push (λ k ps. PiecesLead (step_of column) pairs new (k + 1) ps) [] steps pieces
              (λ k within byte small. leads_grow (step_of column byte) pairs now new (k + 1)
              (number_at (get_or steps k []) byte) part.grows (all.led.leads k within byte small))
              part.leads;
        };
      })

-- before the first part nothing is led, and the target is as it was
pub none_led : (column : ColumnView) (pairs : List (ℕ × ℕ)) (old : Target) → AllLed column pairs old old []
none_led column pairs old = record {
  grows = grows_none old;
  entries = λ other has. inl has;
  led = record {
    few = omega arith;
    covers = λ k below. absurd (omega (arith, below));
    leads = λ k below. absurd (omega (arith, below));
  };
}

-- ---- bytes that are known

-- a further byte that is kept, or only counted
pub one_more_known : {column : ColumnView} {entries : List ℕ} {cuts : Cuts} {byte : ℕ} → Knows column entries cuts
    → IsCutAt column entries byte → cuts.count ≤ 4
    → list_any (λ other. other == byte) (take cuts.count cuts.bytes) ≡ false → (count : ℕ) (bytes : List ℕ)
    → count ≡ cuts.count + 1 → (count ≤ 4 → take count bytes ≡ take cuts.count cuts.bytes ++ byte ∷ [])
    → Knows column entries (record { count = count; bytes = bytes })
one_more_known {column = column} {entries = entries} {byte = byte} knows is few new count bytes more put = record {
  bytes = knows.bytes ++ byte ∷ [];
  long = omega (arith, length-append knows.bytes (byte ∷ []), knows.long, more);
  listed = λ low. ap (λ bs. bs ++ byte ∷ []) (knows.listed few) ∙ sym (put low);
  apart = apart_push knows.bytes byte knows.apart
      (ap (list_any (λ other. other == byte)) (knows.listed few) ∙ new);
  cut = all-append (IsCutAt column entries) knows.bytes (byte ∷ []) knows.cut (is, tt);
}

-- ---- cuts of more entries

module _ (column : ColumnView) (left right : List ℕ) where
  -- a cut of the entries on the left is one of both
  pub cut_before : (byte : ℕ) → IsCutAt column left byte → IsCutAt column (left ++ right) byte
  cut_before byte is = record {
    some = is.some;
    small = is.small;
    cut = rw (list_any-append (λ entry. is_entry_cut column entry byte) left right, is.cut) refl;
  }

  -- a cut of the entries on the right is one of both
  pub cut_after : (byte : ℕ) → IsCutAt column right byte → IsCutAt column (left ++ right) byte
  cut_after byte is = record {
    some = is.some;
    small = is.small;
    cut = list_any-append (λ entry. is_entry_cut column entry byte) left right ∙ or_right _ _ is.cut;
  }

-- cuts of some entries are known as those of others whose cuts they are
pub known_as : {column : ColumnView} {entries more : List ℕ} {cuts : Cuts} → Knows column entries cuts
    → ((byte : ℕ) → IsCutAt column entries byte → IsCutAt column more byte) → Knows column more cuts
known_as {column = column} {entries = entries} {more = more} knows cuts = record {
  bytes = knows.bytes;
  long = knows.long;
  listed = knows.listed;
  apart = knows.apart;
  cut = all_weaker (IsCutAt column entries) (IsCutAt column more) knows.bytes cuts knows.cut;
}

-- a byte that is kept is a cut
pub kept_cut : {column : ColumnView} {entries : List ℕ} {cuts : Cuts} (k : ℕ) → Knows column entries cuts
    → cuts.count ≤ 4 → k < cuts.count → IsCutAt column entries (get_or cuts.bytes k 0)
kept_cut {column = column} {entries = entries} {cuts = cuts} k knows few below =
    rw (knows.listed few, get_or-take cuts.count cuts.bytes k 0 below)
    at (All-get_or (IsCutAt column entries) knows.bytes k 0 (omega (arith, below, knows.long))
    (All-from_recursion (IsCutAt column entries) knows.bytes knows.cut))

-- ---- cuts of parts

module _ {column : ColumnView} {pairs : List (ℕ × ℕ)} {all : List Cuts} {cuts : Cuts} where
  -- the cuts of one more pair are built from those before
  pub built_push : length all < length pairs → AreBuilt column pairs all
      → IsBuilt column (get_or pairs (length all) (0, 0)) all (length all) cuts
      → AreBuilt column pairs (all ++ cuts ∷ [])
  built_push room built its = record {
    few = omega (arith, length-append all (cuts ∷ []), room);
    each = each_push (λ k c. IsBuilt column (get_or pairs k (0, 0)) (all ++ cuts ∷ []) k c) no_cuts all cuts
        (λ k below. more (get_or pairs k (0, 0)) k (get_or all k no_cuts) (omega (arith, below)) (built.each k below))
        (more (get_or pairs (length all) (0, 0)) (length all) cuts (omega arith) its);
  }
    where
      more : (pair : ℕ × ℕ) (k : ℕ) (c : Cuts) → k ≤ length all → IsBuilt column pair all k c
          → IsBuilt column pair (all ++ cuts ∷ []) k c
      more pair k c within b = record {
        entry = b.entry;
        few = b.few;
        lower = b.lower;
        both = λ some one other. (
            let low = b.lower some in
            rw (
              get_or_append_left all (cuts ∷ []) no_cuts (pair.0 - 1) (omega (arith, some, low.0, within)),
              get_or_append_left all (cuts ∷ []) no_cuts (pair.1 - 1) (omega (arith, low.1, low.2, within)),
            )
            (b.both some one other));
      }

-- the cuts of a number are those of the entries that it stands for
module _ (column : ColumnView) (pairs : List (ℕ × ℕ)) (all : List Cuts) (built : AreBuilt column pairs all) where
  -- the cuts of a number tell those of the entries that it stands for
  pub built_tells : (tree : Tree) (f : ℕ → Option ℕ) (number : ℕ) → Stands pairs tree f number → 0 < number
      → number ≤ length all → Knows column (filter_map f (leaves tree)) (get_or all (number - 1) no_cuts)
  built_tells (Leaf rule) f number stands some within = by (f rule) stands
    where
      by : (found : Option ℕ) → IsLeaf pairs found number
          → Knows column (cons_option found []) (get_or all (number - 1) no_cuts)
      by None is = absurd (omega (arith, is, some))
      by (Some entry) is =
          let its = built.each (number - 1) (omega (arith, some, within)) in
          let pair = key_at same_pair pair_sound pairs (0, entry) (0, 0) number is in
          subst (λ (p : ℕ × ℕ). Knows column (p.1 ∷ []) (get_or all (number - 1) no_cuts)) pair
          (its.entry (ap (λ p. p.0) pair))
  built_tells (Node left right) f number (x, y, sl, sr, inl (none, is)) some within =
      rw (is, filter_map-append f (leaves left) (leaves right))
      (known_as (built_tells right f y sr (omega (arith, some, is)) (omega (arith, within, is)))
      (cut_after column (filter_map f (leaves left)) (filter_map f (leaves right))))
  built_tells (Node left right) f number (x, y, sl, sr, inr (inl (none, is))) some within =
      rw (is, filter_map-append f (leaves left) (leaves right))
      (known_as (built_tells left f x sl (omega (arith, some, is)) (omega (arith, within, is)))
      (cut_before column (filter_map f (leaves left)) (filter_map f (leaves right))))
  built_tells (Node left right) f number (x, y, sl, sr, inr (inr (first, second, at))) some within =
      let its = subst (λ (p : ℕ × ℕ). IsBuilt column p all (number - 1) (get_or all (number - 1) no_cuts))
      (key_at same_pair pair_sound pairs (x, y) (0, 0) number at)
      (built.each (number - 1) (omega (arith, some, within))) in
      let low = its.lower first in
      rw (filter_map-append f (leaves left) (leaves right))
      (its.both first (filter_map f (leaves left)) (filter_map f (leaves right))
      (built_tells left f x sl first (omega (arith, low.0, some, within)))
      (built_tells right f y sr second (omega (arith, low.2, some, within))))

-- ---- how many changes there are

-- more runs take no fewer words
cost_up : (few more : ℕ) → 0 < few → few ≤ more → cost_of few ≤ cost_of more
cost_up few more some up = grind (arith, nat_tests)

-- a run of entries ends before each of their cuts
change_before : (column : ColumnView) (entries : List ℕ) (byte : ℕ) → RisesFrom 0 entries
    → IsCutAt column entries byte → is_change column entries (byte - 1) ≡ true
unfolding is_change
change_before column entries byte rise is =
    let e : byte - 1 + 1 ≡ byte = omega (arith, is.some) in
    or_right (byte - 1 == 255) _
    (sym (marked_where_changed column entries (byte - 1) rise)
    ∙ ap (λ b. list_any (λ entry. is_entry_cut column entry b) entries) e ∙ is.cut)

-- so the words are told
pub told : {column : ColumnView} {entries : List ℕ} {cuts : Cuts} → RisesFrom 0 entries → Knows column entries cuts
    → cost_of (cuts.count + 1) ≤ cost_ahead column entries
unfolding cost_ahead all_bytes is_change
told {column = column} {entries = entries} {cuts = cuts} rise knows =
    cost_up (cuts.count + 1) (length (filter (is_change column entries) (range_with_len 0 256))) (omega arith)
    (omega (
      arith,
      knows.long,
      followers_counted (is_change column entries) 255 knows.bytes refl knows.apart
          (all_weaker (IsCutAt column entries) _ knows.bytes
          (λ byte is. (is.some, omega (arith, is.small), change_before column entries byte rise is)) knows.cut),
    ))
