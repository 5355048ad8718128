-- Which dashes are shown of the packets of a family.
use Rattle.std.proofs.Common.{◌≡◌, ℕ, ◌+◌, ◌<◌, ◌==◌, List, [], ◌∷◌, ◌++◌, Bool, true, false, not, map}
use Rattle.std.proofs.Common.{refl, sym, ap, ◌∙◌, arith, length, zero, suc, ◌≤◌, take, drop, set, get_or, add-one}
use Rattle.std.specs.Prelude.{flat_map, All}
use Rattle.std.specs.List.{range_with_len}
use Rattle.std.proofs.lemmas.List.{length-map, length-replicate, map-append}
use Rattle.std.proofs.lemmas.List.{take_all, drop_all, append-nil}
use Rattle.std.proofs.lemmas.List.FromFn.{length-range_with_len}
use Rattle.std.proofs.lemmas.List.Elements.{All-head, All-tail}
use Rattle.field_defs.specs.declared.field.Family.{Family}
use Rattle.flat_table.specs.Table.{TableView}
use Rattle.flat_table.specs.Walk.{joined}
use Rattle.flat_table.specs.Batch.{key_at}
use Rattle.scalar_walk.specs.Rows.{key_winners, first_winners, batch_winners}
use Rattle.header_extract.specs.Class.{FrameClass}
use Rattle.capture_report.specs.Packet.{IsPacket}
use Rattle.capture_report.specs.Classifier.{key_len_of_family}
use Rattle.capture_report.specs.ReportForm.{ReportForm}
use Rattle.capture_report.specs.Batch.{is_of, keys_of, number_of, dashes_of, dashes_of_family}
use Rattle.capture_report.proofs.Keys.{shifted, range_first, first_key, later_key, own_len, keys_number}

-- the winners of a batch are those of the first key, and then those of the rest
winners_later : (table : TableView) (key rest : List ℕ) → length key ≡ table.key_len → (count n : ℕ) →
    first_winners table count (key ++ rest) (n + 1)
    ≡ key_winners table count key ++ first_winners table count rest n
winners_later table key rest len count n =
    ap (flat_map (λ k. key_winners table count (key_at table (key ++ rest) k))) (range_first 0 n)
    ∙ ap (λ l. key_winners table count (key_at table (key ++ rest) 0) ++ l)
    (shifted (λ k. key_winners table count (key_at table (key ++ rest) k))
    (λ k. key_winners table count (key_at table rest k))
    (λ k. ap (key_winners table count) (later_key table key rest len k)) 0 n)
    ∙ ap (λ k. key_winners table count k ++ first_winners table count rest n) (first_key table key rest len)

-- a key has a dash or none for each category that is shown
pub dashes_count : (form : ReportForm) (table : TableView) (key : List ℕ) →
    length (dashes_of form table key) ≡ form.categories
dashes_count form table key = go form.marks refl
  where
    winners : List Bool
    winners = key_winners table form.categories key

    go : (marks : Bool) → form.marks ≡ marks → length (dashes_of form table key) ≡ form.categories
    go true is =
        rw is
        (length-map winners not
        ∙ length-map (range_with_len 0 form.categories) (λ category. not (joined table key category == 0))
        ∙ length-range_with_len 0 form.categories)
    go false is = rw is (length-replicate form.categories false)

module _ (family : Family) (table : TableView) (len : table.key_len ≡ key_len_of_family family) (form : ReportForm)
  where
    -- where marks are asked for, a dash is shown where no rule wins
    dashes_are : form.marks ≡ true → (packets : List FrameClass) → All IsPacket packets →
        map not (first_winners table form.categories (keys_of family packets) (number_of family packets))
        ≡ dashes_of_family family table form packets
    dashes_are marks [] all = refl
    dashes_are marks (p ∷ ps) all =
        go (is_of family p.class) refl (dashes_are marks ps (All-tail IsPacket p ps all))
      where
        count : ℕ
        count = form.categories

        go : (own : Bool) → is_of family p.class ≡ own →
            map not (first_winners table count (keys_of family ps) (number_of family ps))
            ≡ dashes_of_family family table form ps →
            map not (first_winners table count (keys_of family (p ∷ ps)) (number_of family (p ∷ ps)))
            ≡ dashes_of_family family table form (p ∷ ps)
        go true own later =
            rw (own, marks)
            (ap (map not)
            (winners_later table p.key (keys_of family ps)
            (own_len family table len p (All-head IsPacket p ps all) own) count (number_of family ps))
            ∙ map-append not (key_winners table count p.key)
            (first_winners table count (keys_of family ps) (number_of family ps))
            ∙ ap (λ l. map not (key_winners table count p.key) ++ l) later)
        go false own later = rw own later

    -- so it is of the whole batch
    pub batch_dashes_are : form.marks ≡ true → (packets : List FrameClass) → All IsPacket packets → 0 < table.key_len →
        map not (batch_winners table form.categories (keys_of family packets))
        ≡ dashes_of_family family table form packets
    batch_dashes_are marks packets all some =
        ap (λ n. map not (first_winners table form.categories (keys_of family packets) n))
        (keys_number family table len packets all some)
        ∙ dashes_are marks packets all

-- ---- a loop that makes each mark its contrary

-- the first marks are made their contraries, so many
abbrev pub turned : ℕ → List Bool → List Bool
turned n marks = map not (take n marks) ++ drop n marks

-- one mark more
turned_one : (marks : List Bool) (n : ℕ) → n < length marks →
    set (turned n marks) n (not (get_or (turned n marks) n false)) ≡ turned (suc n) marks
turned_one [] n below = absurd (omega (arith, below))
turned_one (b ∷ bs) zero below = refl
turned_one (b ∷ bs) (suc n) below = ap (λ l. not b ∷ l) (turned_one bs n (omega (arith, below)))

-- the loop takes one mark more
pub turned_more : (marks now : List Bool) (n : ℕ) → now ≡ turned n marks → n < length marks →
    set now n (not (get_or now n false)) ≡ turned (n + 1) marks
turned_more marks now n is below =
    ap (λ l. set l n (not (get_or l n false))) is ∙ turned_one marks n below
    ∙ ap (λ m. turned m marks) (sym (add-one n))

-- and at the end it took all
pub turned_all : (marks : List Bool) (n : ℕ) → length marks ≤ n → turned n marks ≡ map not marks
turned_all marks n all =
    ap (λ l. map not l ++ drop n marks) (take_all n marks all)
    ∙ ap (λ l. map not marks ++ l) (drop_all n marks all)
    ∙ append-nil (map not marks)
