-- The keys of the packets of a family, one after the other, as a batch.
use Rattle.std.proofs.Common.{◌≡◌, ℕ, zero, suc, ◌+◌, ◌*◌, ◌/◌, ◌<◌, ◌≤◌, List, [], ◌∷◌, ◌++◌, Bool, true, false}
use Rattle.std.proofs.Common.{refl, sym, ap, ◌∙◌, add-one, add-zero, arith, length, take, drop, sum_by, length-append}
use Rattle.std.specs.Prelude.{flat_map, All}
use Rattle.std.specs.List.{range_with_len}
use Rattle.std.proofs.lemmas.List.{length-map}
use Rattle.std.proofs.lemmas.List.Sums.{sum_by_from, sum_by-cons}
use Rattle.std.proofs.lemmas.List.FromFn.{length-range_with_len}
use Rattle.std.proofs.lemmas.List.Elements.{All-head, All-tail}
use Rattle.std.proofs.Math.Seq.{take-append_seam, drop-append-add}
use Rattle.std.proofs.Math.Nat.{mul-div_cancel, mul-le-mul}
use Rattle.field_defs.specs.declared.field.Family.{Family}
use Rattle.field_defs.specs.declared.field.Family.TheVariants as family
use Rattle.flat_table.specs.Table.{TableView}
use Rattle.flat_table.specs.Walk.{key_transitions, table_verdict}
use Rattle.flat_table.specs.Batch.{LengthsFit, key_at, keys_in, key_verdicts, first_verdicts, first_transitions}
use Rattle.flat_table.specs.Batch.{batch_verdicts, batch_transitions}
use Rattle.header_extract.specs.declared.class.Class.{Class}
use Rattle.header_extract.specs.declared.class.Class.TheVariants.{Ip4, Ip6, Other, Short}
use Rattle.header_extract.specs.Class.{FrameClass}
use Rattle.header_extract.specs.Extracted.{key_len}
use Rattle.capture_report.specs.Packet.{IsPacket}
use Rattle.capture_report.specs.Classifier.{Tables, key_len_of_family}
use Rattle.capture_report.specs.Report.{transitions_on, transitions_of_packets}
use Rattle.capture_report.specs.Taken.{max_batch}
use Rattle.flat_table.proofs.Offered.{key_bound}
use Rattle.capture_report.specs.Batch.{is_of, keys_of, number_of, verdicts_of, transitions_of_family, max_transitions}
use Rattle.table_sizes.specs.Sizes.{max_tries}

-- 0 and a number are the number
zero-add : (n : ℕ) → 0 + n ≡ n
zero-add n = omega arith

-- a function of the places from one more on, and one of the places
pub shifted : {A : Type 0} (f g : ℕ → List A) → ((k : ℕ) → f (k + 1) ≡ g k) → (a n : ℕ) →
    flat_map f (range_with_len (a + 1) n) ≡ flat_map g (range_with_len a n)
shifted f g same a zero = refl
shifted f g same a (suc n) =
    ap (λ l. f (a + 1) ++ l) (shifted f g same (a + 1) n)
    ∙ ap (λ l. l ++ flat_map g (range_with_len (a + 1) n)) (same a)

-- a sum over places from one more on is that of the other function over the places
sum_shifted : (f g : ℕ → ℕ) → ((k : ℕ) → f (k + 1) ≡ g k) → (a n : ℕ) →
    sum_by f (range_with_len (a + 1) n) ≡ sum_by g (range_with_len a n)
sum_shifted f g same a zero = refl
sum_shifted f g same a (suc n) =
    omega (
      arith,
      sum_by-cons f (a + 1) (range_with_len (a + 1 + 1) n),
      sum_by-cons g a (range_with_len (a + 1) n),
      sum_shifted f g same (a + 1) n,
      same a,
    )

-- a range is its first number and those after it
pub range_first : (a n : ℕ) → range_with_len a (n + 1) ≡ a ∷ range_with_len (a + 1) n
range_first a n =
    let at : range_with_len a (suc n) ≡ a ∷ range_with_len (a + 1) n = refl in
    ap (range_with_len a) (add-one n) ∙ at

module _ (table : TableView) (key rest : List ℕ) (len : length key ≡ table.key_len) where
  -- the first key of a batch, and those after it
  pub first_key : key_at table (key ++ rest) 0 ≡ key
  first_key =
      ap (λ (m : ℕ). take table.key_len (drop m (key ++ rest))) (let none : 0 * table.key_len ≡ 0 = omega arith in
      none)
      ∙ ap (λ (m : ℕ). take m (key ++ rest)) (sym len)
      ∙ take-append_seam key rest

  -- a key of the batch after the first is one of the rest
  pub later_key : (k : ℕ) → key_at table (key ++ rest) (k + 1) ≡ key_at table rest k
  later_key k =
      let later : (k + 1) * table.key_len ≡ length key + k * table.key_len = omega (arith, len) in
      ap (λ (m : ℕ). take table.key_len (drop m (key ++ rest))) later
      ∙ ap (take table.key_len) (drop-append-add key rest (k * table.key_len))

  -- the verdicts of a batch are those of the first key, and then those of the rest
  verdicts_later : (count n : ℕ) →
      first_verdicts table count (key ++ rest) (n + 1)
      ≡ key_verdicts table count key ++ first_verdicts table count rest n
  verdicts_later count n =
      ap (flat_map (λ k. key_verdicts table count (key_at table (key ++ rest) k))) (range_first 0 n)
      ∙ ap (λ l. key_verdicts table count (key_at table (key ++ rest) 0) ++ l)
      (shifted (λ k. key_verdicts table count (key_at table (key ++ rest) k))
      (λ k. key_verdicts table count (key_at table rest k))
      (λ k. ap (key_verdicts table count) (later_key k)) 0 n)
      ∙ ap (λ k. key_verdicts table count k ++ first_verdicts table count rest n) first_key

  -- the transitions of a batch are those of the first key and of the rest
  transitions_later : (n : ℕ) →
      first_transitions table (key ++ rest) (n + 1) ≡ key_transitions table key + first_transitions table rest n
  transitions_later n =
      let f : ℕ → ℕ = λ k. key_transitions table (key_at table (key ++ rest) k) in
      let g : ℕ → ℕ = λ k. key_transitions table (key_at table rest k) in
      omega (
        arith,
        sum_by_from f 0 (range_with_len 0 (n + 1)),
        ap (sum_by f) (range_first 0 n),
        sum_by_from g 0 (range_with_len 0 n),
        sum_by-cons f 0 (range_with_len (0 + 1) n),
        sum_shifted f g (λ k. ap (key_transitions table) (later_key k)) 0 n,
        ap (key_transitions table) first_key,
      )

-- the key of a packet of a family is as long as the family's keys
class_len : (family : Family) (class : Class) → is_of family class ≡ true → key_len class ≡ key_len_of_family family
class_len family.Ip4 Ip4 is = refl
class_len family.Ip4 Ip6 is = absurd (cc)
class_len family.Ip4 Other is = absurd (cc)
class_len family.Ip4 Short is = absurd (cc)
class_len family.Ip6 Ip4 is = absurd (cc)
class_len family.Ip6 Ip6 is = refl
class_len family.Ip6 Other is = absurd (cc)
class_len family.Ip6 Short is = absurd (cc)

module _ (family : Family) (table : TableView) (len : table.key_len ≡ key_len_of_family family) where
  -- a packet of the family has a key as long as the table's
  pub own_len : (packet : FrameClass) → IsPacket packet → is_of family packet.class ≡ true →
      length packet.key ≡ table.key_len
  own_len packet is own = is.len ∙ class_len family packet.class own ∙ sym len

  -- the verdicts of the batch are those of the family's packets
  verdicts_are : (count : ℕ) (packets : List FrameClass) → All IsPacket packets →
      first_verdicts table count (keys_of family packets) (number_of family packets)
      ≡ verdicts_of family table count packets
  verdicts_are count [] all = refl
  verdicts_are count (p ∷ ps) all =
      go (is_of family p.class) refl (verdicts_are count ps (All-tail IsPacket p ps all))
    where
      go : (own : Bool) → is_of family p.class ≡ own →
          first_verdicts table count (keys_of family ps) (number_of family ps) ≡ verdicts_of family table count ps →
          first_verdicts table count (keys_of family (p ∷ ps)) (number_of family (p ∷ ps))
          ≡ verdicts_of family table count (p ∷ ps)
      go true own later =
          rw own
          (verdicts_later table p.key (keys_of family ps) (own_len p (All-head IsPacket p ps all) own) count
          (number_of family ps)
          ∙ ap (λ l. key_verdicts table count p.key ++ l) later)
      go false own later = rw own later

  -- the transitions of so many keys are those of the family's packets
  transitions_are : (packets : List FrameClass) → All IsPacket packets →
      first_transitions table (keys_of family packets) (number_of family packets)
      ≡ transitions_of_family family table packets
  transitions_are [] all = refl
  transitions_are (p ∷ ps) all = go (is_of family p.class) refl (transitions_are ps (All-tail IsPacket p ps all))
    where
      go : (own : Bool) → is_of family p.class ≡ own →
          first_transitions table (keys_of family ps) (number_of family ps) ≡ transitions_of_family family table ps →
          first_transitions table (keys_of family (p ∷ ps)) (number_of family (p ∷ ps))
          ≡ transitions_of_family family table (p ∷ ps)
      go true own later =
          rw own
          (transitions_later table p.key (keys_of family ps) (own_len p (All-head IsPacket p ps all) own)
          (number_of family ps)
          ∙ ap (λ n. key_transitions table p.key + n) later)
      go false own later = rw own later

  -- the batch has a key for each packet of the family
  keys_len : (packets : List FrameClass) → All IsPacket packets →
      length (keys_of family packets) ≡ number_of family packets * table.key_len
  keys_len [] all = omega arith
  keys_len (p ∷ ps) all = go (is_of family p.class) refl (keys_len ps (All-tail IsPacket p ps all))
    where
      go : (own : Bool) → is_of family p.class ≡ own →
          length (keys_of family ps) ≡ number_of family ps * table.key_len →
          length (keys_of family (p ∷ ps)) ≡ number_of family (p ∷ ps) * table.key_len
      go true own later =
          rw own
          (omega (
            arith,
            length-append p.key (keys_of family ps),
            own_len p (All-head IsPacket p ps all) own,
            later,
          ))
      go false own later = rw own later

  -- they are so many
  pub keys_number : (packets : List FrameClass) → All IsPacket packets → 0 < table.key_len →
      keys_in table (keys_of family packets) ≡ number_of family packets
  keys_number packets all some =
      ap (λ (n : ℕ). n / table.key_len) (keys_len packets all) ∙ mul-div_cancel (number_of family packets) some

  -- the keys of at most a batch of packets fit
  pub keys_fit : (count room : ℕ) (packets : List FrameClass) → All IsPacket packets → 0 < table.key_len →
      number_of family packets ≤ max_batch → room ≡ number_of family packets * count →
      LengthsFit table (keys_of family packets) count room
  keys_fit count room packets all some few is = record {
    whole = keys_len packets all ∙ ap (λ (n : ℕ). n * table.key_len) (sym (keys_number packets all some));
    few = omega (arith, few, keys_number packets all some);
    room_fits = is ∙ ap (λ (n : ℕ). n * count) (sym (keys_number packets all some));
  }

  -- and they have these verdicts and steps
  pub batch_verdicts_are : (count : ℕ) (packets : List FrameClass) → All IsPacket packets → 0 < table.key_len →
      batch_verdicts table count (keys_of family packets) ≡ verdicts_of family table count packets
  batch_verdicts_are count packets all some =
      ap (first_verdicts table count (keys_of family packets)) (keys_number packets all some)
      ∙ verdicts_are count packets all

  -- the transitions of the batch are those of the family's packets
  pub batch_transitions_are : (packets : List FrameClass) → All IsPacket packets → 0 < table.key_len →
      batch_transitions table (keys_of family packets) ≡ transitions_of_family family table packets
  batch_transitions_are packets all some =
      ap (first_transitions table (keys_of family packets)) (keys_number packets all some) ∙ transitions_are packets all

-- the walks of a key take so many words at most, whatever the table
key_transitions_bound : (table : TableView) (key : List ℕ) → length table.roots ≤ max_tries → table.key_len ≤ 37 →
    key_transitions table key ≤ max_transitions
key_transitions_bound table key tries len =
    omega (arith, key_bound table key, mul-le-mul {n₁ = length table.roots} {m₁ = table.key_len} tries len)

-- and those of all packets
pub family_transitions_bound : (family : Family) (table : TableView) (packets : List FrameClass) →
    length table.roots ≤ max_tries → table.key_len ≤ 37 →
    transitions_of_family family table packets ≤ length packets * max_transitions
family_transitions_bound family table [] tries len = omega arith
family_transitions_bound family table (p ∷ ps) tries len =
    go (is_of family p.class) refl (family_transitions_bound family table ps tries len)
  where
    go : (own : Bool) → is_of family p.class ≡ own →
        transitions_of_family family table ps ≤ length ps * max_transitions →
        transitions_of_family family table (p ∷ ps) ≤ length (p ∷ ps) * max_transitions
    go true own later = rw own (omega (arith, key_transitions_bound table p.key tries len, later))
    go false own later = rw own (omega (arith, later))

-- a family has at most as many packets as there are
pub number_bound : (family : Family) (packets : List FrameClass) → number_of family packets ≤ length packets
number_bound family [] = omega arith
number_bound family (p ∷ ps) = go (is_of family p.class) refl (number_bound family ps)
  where
    go : (own : Bool) → is_of family p.class ≡ own → number_of family ps ≤ length ps →
        number_of family (p ∷ ps) ≤ length (p ∷ ps)
    go true own later = rw own (omega (arith, later))
    go false own later = rw own (omega (arith, later))

-- no frame has packets of both families
pub numbers_bound : (packets : List FrameClass) →
    number_of family.Ip4 packets + number_of family.Ip6 packets ≤ length packets
numbers_bound [] = omega arith
numbers_bound (p ∷ ps) = go p.class refl (numbers_bound ps)
  where
    go : (class : Class) → p.class ≡ class →
        number_of family.Ip4 ps + number_of family.Ip6 ps ≤ length ps →
        number_of family.Ip4 (p ∷ ps) + number_of family.Ip6 (p ∷ ps) ≤ length (p ∷ ps)
    go Ip4 is later = rw is (omega (arith, later))
    go Ip6 is later = rw is (omega (arith, later))
    go Other is later = rw is (omega (arith, later))
    go Short is later = rw is (omega (arith, later))

-- no packet of a family has no key
pub no_keys : (family : Family) (packets : List FrameClass) → number_of family packets ≡ 0 →
    keys_of family packets ≡ []
no_keys family [] none = refl
no_keys family (p ∷ ps) none = go (is_of family p.class) refl (no_keys family ps) none
  where
    go : (own : Bool) → is_of family p.class ≡ own → (number_of family ps ≡ 0 → keys_of family ps ≡ []) →
        number_of family (p ∷ ps) ≡ 0 → keys_of family (p ∷ ps) ≡ []
    go true own later none =
        let some : number_of family ps + 1 ≡ 0 = rw own at none in
        absurd (omega (arith, some))
    go false own later none = rw own (later (rw own at none))

-- a key has some bytes, and at most those of IPv6
pub some_bytes : (family : Family) (len : ℕ) → len ≡ key_len_of_family family → 0 < len
some_bytes family.Ip4 len is = omega (arith, is)
some_bytes family.Ip6 len is = omega (arith, is)

-- and at most the 37 bytes of an IPv6 key
pub few_bytes : (family : Family) (len : ℕ) → len ≡ key_len_of_family family → len ≤ 37
few_bytes family.Ip4 len is = omega (arith, is)
few_bytes family.Ip6 len is = omega (arith, is)

-- the steps of a packet, by its family
abbrev own_transitions : Bool → ℕ → ℕ
own_transitions true steps = steps
own_transitions false steps = 0

-- a packet takes the steps of its own family alone
one_of_both : (class : Class) (tables : Tables) (key : List ℕ) →
    transitions_on class tables key
    ≡ own_transitions (is_of family.Ip4 class) (key_transitions tables.ip4 key)
    + own_transitions (is_of family.Ip6 class) (key_transitions tables.ip6 key)
one_of_both Ip4 tables key = sym (add-zero (key_transitions tables.ip4 key))
one_of_both Ip6 tables key = sym (zero-add (key_transitions tables.ip6 key))
one_of_both Other tables key = refl
one_of_both Short tables key = refl

-- the steps of a family are those of the first packet, if it is its own, and of the others
family_first : (family : Family) (table : TableView) (p : FrameClass) (ps : List FrameClass) →
    transitions_of_family family table (p ∷ ps)
    ≡ own_transitions (is_of family p.class) (key_transitions table p.key) + transitions_of_family family table ps
family_first family table p ps = go (is_of family p.class) refl
  where
    go : (own : Bool) → is_of family p.class ≡ own →
        transitions_of_family family table (p ∷ ps)
        ≡ own_transitions (is_of family p.class) (key_transitions table p.key) + transitions_of_family family table ps
    go true own = rw own refl
    go false own = rw own (sym (zero-add (transitions_of_family family table ps)))

-- the steps of packets are those of both families
pub both_transitions : (tables : Tables) (packets : List FrameClass) →
    transitions_of_packets tables packets
    ≡ transitions_of_family family.Ip4 tables.ip4 packets + transitions_of_family family.Ip6 tables.ip6 packets
both_transitions tables [] = refl
both_transitions tables (p ∷ ps) =
    omega (
      arith,
      sum_by-cons (λ (packet : FrameClass). transitions_on packet.class tables packet.key) p ps,
      one_of_both p.class tables p.key,
      family_first family.Ip4 tables.ip4 p ps,
      family_first family.Ip6 tables.ip6 p ps,
      both_transitions tables ps,
    )

-- so many verdicts of each key
pub verdicts_len : (family : Family) (table : TableView) (count : ℕ) (packets : List FrameClass) →
    length (verdicts_of family table count packets) ≡ number_of family packets * count
verdicts_len family table count [] = omega arith
verdicts_len family table count (p ∷ ps) = go (is_of family p.class) refl (verdicts_len family table count ps)
  where
    go : (own : Bool) → is_of family p.class ≡ own →
        length (verdicts_of family table count ps) ≡ number_of family ps * count →
        length (verdicts_of family table count (p ∷ ps)) ≡ number_of family (p ∷ ps) * count
    go true own later =
        rw own
        (omega (
          arith,
          length-append (key_verdicts table count p.key) (verdicts_of family table count ps),
          length-map (range_with_len 0 count) (table_verdict table p.key),
          length-range_with_len 0 count,
          later,
        ))
    go false own later = rw own later

-- the front of a list
pub front-is : {A : Type 0} (n : ℕ) (front rest : List A) → length front ≡ n → take n (front ++ rest) ≡ front
front-is n front rest len = ap (λ (m : ℕ). take m (front ++ rest)) (sym len) ∙ take-append_seam front rest
