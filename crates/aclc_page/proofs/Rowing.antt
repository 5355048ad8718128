-- Rows of records, one after the other.
use Rattle.std.proofs.Common.{◌≡◌, ℕ, ◌+◌, ◌*◌, ◌/◌, ◌<◌, ◌≤◌, List, [], ◌∷◌, ◌++◌, length, take, drop, min, flat_map}
use Rattle.std.proofs.Common.{Some, None, Ok, Err, true, false, refl, sym, subst, ap, ◌∙◌, append-nil, append_assoc}
use Rattle.std.proofs.Common.{arith, length-append, length-drop, length-take}
use borrow.Rule.Slice.PartMut.{put_mid}
use Rattle.std.proofs.Common.{◌-◌, Bool, slice_set}
use Rattle.std.proofs.lemmas.List.{drop_all, take_all, take-append-le}
use Rattle.std.proofs.lemmas.Grind.{flat_map-append}
use Rattle.acl_outside.specs.Memory.{MemDeskView, left_in, shown_desk}
use Rattle.pcap_reader.specs.declared.capture_fault.CaptureFault.{CaptureFault}
use Rattle.pcap_reader.specs.declared.capture_fault.CaptureFault.TheVariants.{ReadFault}
use Rattle.pcap_reader.specs.declared.state.Progress.TheVariants as progress
use Rattle.pcap_reader.specs.State.{Answer, CaptureRecord}
use Rattle.pcap_reader.proofs.Offered.{take-put_mid}
use Rattle.pcapng_reader.specs.Capture.{AnyState, Next, End, Record, Fault, next_of, records_from, records_in}
use Rattle.pcapng_reader.specs.Capture.{whole_records}
use Rattle.pcapng_reader.specs.Reader.{GoesTo, HasNoRecord, IsEnd, IsNext, ReadsStart, progress_of, start_len, start_of}
use Rattle.pcapng_reader.proofs.Offered.{capture-start, records-none, records-record, start-begun, start-fault}
use Rattle.aclc_page.specs.Rows.{WritesRows, count_in, row_len, row_of, rows_of}
use Rattle.aclc_page.specs.Taking.{TakesRow, is_record, row_after}

-- the records that are left in a state of the reader
abbrev pub left_records : AnyState → MemDeskView → List CaptureRecord
left_records state desk = (records_from state (left_in desk.hand)).records

-- Some records were taken, from one state of the reader to another, and their rows were written.
pub record IsWritten (before now : AnyState) (first left : MemDeskView) (old rows : List ℕ) (count : ℕ) : Type 0 where
  pub done : List CaptureRecord
  pub counted : count ≡ length done
  pub whole : left_records before first ≡ done ++ left_records now left
  pub made : take (row_len * count) rows ≡ rows_of done
  pub size : length rows ≡ length old
  pub fits : row_len * count ≤ length old
  pub state : progress_of now ≡ progress.Reading

-- an answer that is none has no records
end_none : (next : Next) → IsEnd next → HasNoRecord next
end_none (End state) is = tt
end_none (Record captured state after) is = is
end_none (Fault fault) is = tt

-- nor has one that is a fault of the capture
fault_none : (state now : AnyState) (left after : List ℕ) (fault : CaptureFault) → (fault ≡ ReadFault → ⊥) →
    IsNext state now left after (Err fault) → HasNoRecord (next_of state left)
fault_none state now left after ReadFault unread is = absurd (unread refl)
fault_none state now left after fault unread is = subst HasNoRecord (sym is) tt

module _ (before now : AnyState) (old new : MemDeskView) (row_old row_new : List ℕ) (unfailed : old.read_faults ≡ 0)
    (still : new.read_faults ≡ 0) where
  -- where no record was taken, none is left
  pub none_left : (result : Bool) → result ≡ false →
      TakesRow before now (shown_desk old) (shown_desk new) row_old row_new result → left_records before old ≡ []
  none_left result none takes = go takes.answer refl
    where
      go : (answer : Answer) → takes.answer ≡ answer → left_records before old ≡ []
      go (Ok None) is =
          let ends = subst (IsNext before now (left_in old.hand) (left_in new.hand)) is takes.takes.told in
          records-none before (left_in old.hand) (end_none (next_of before (left_in old.hand)) ends.0)
      go (Ok (Some captured)) is = absurd (let e = sym none ∙ takes.said ∙ ap is_record is in cc)
      go (Err fault) is =
          let fails = subst (IsNext before now (left_in old.hand) (left_in new.hand)) is takes.takes.told in
          records-none before (left_in old.hand)
          (fault_none before now (left_in old.hand) (left_in new.hand) fault
          (λ read. absurd (omega (arith, unfailed, still, takes.takes.read_fault (is ∙ ap Err read)))) fails)

  -- where one was taken, it was the first of those that are left
  pub one_left : (result : Bool) → result ≡ true →
      TakesRow before now (shown_desk old) (shown_desk new) row_old row_new result →
      (captured : CaptureRecord) × (left_records before old ≡ captured ∷ left_records now new)
      × (row_new ≡ row_of captured) × (progress_of now ≡ progress_of before)
  one_left result one takes = go takes.answer refl
    where
      go : (answer : Answer) → takes.answer ≡ answer →
          (captured : CaptureRecord) × (left_records before old ≡ captured ∷ left_records now new)
          × (row_new ≡ row_of captured) × (progress_of now ≡ progress_of before)
      go (Ok None) is = absurd (let e = sym one ∙ takes.said ∙ ap is_record is in cc)
      go (Ok (Some captured)) is =
          let next = subst (IsNext before now (left_in old.hand) (left_in new.hand)) is takes.takes.told in
          let goes = subst (λ a. GoesTo before now a) is takes.takes.state in (
            captured,
            ap (λ r. r.records) (records-record before (left_in old.hand) captured now (left_in new.hand) next),
            takes.row ∙ ap (λ a. row_after a row_old) is,
            goes.0,
          )
      go (Err fault) is = absurd (let e = sym one ∙ takes.said ∙ ap is_record is in cc)

-- one row more
pub IsWritten-more : {before now next : AnyState} {first left after : MemDeskView} {old rows : List ℕ} {count : ℕ}
    (so_far : IsWritten before now first left old rows count) (row : List ℕ) (captured : CaptureRecord) →
    left_records now left ≡ captured ∷ left_records next after → row ≡ row_of captured → length row ≡ row_len →
    progress_of next ≡ progress_of now → row_len * count + row_len ≤ length old →
    (more : List ℕ) → more ≡ take (row_len * count) rows ++ (row ++ drop row_len (drop (row_len * count) rows)) →
    length more ≡ length old → IsWritten before next first after old more (count + 1)
IsWritten-more {rows = rows} {count = count} so_far row captured left is len same fits more put size = record {
  done = so_far.done ++ captured ∷ [];
  counted = omega (arith, so_far.counted, length-append so_far.done (captured ∷ []));
  whole = so_far.whole ∙ ap (λ rest. so_far.done ++ rest) left
      ∙ sym (append_assoc so_far.done (captured ∷ []) _);
  made =
      let at : row_len * (count + 1) ≡ row_len * count + row_len = omega arith in
      let within : row_len * count ≤ length rows = omega (arith, fits, so_far.size) in
      let filled : take (row_len * count + row_len) more ≡ take (row_len * count) rows ++ take row_len row =
      ap (take (row_len * count + row_len)) put ∙
      take-put_mid (row_len * count) row_len row_len rows row within (omega (arith, len)) in
      ap (λ n. take n more) at ∙ filled
      ∙ ap (λ bytes. bytes ++ take row_len row) so_far.made
      ∙ ap (λ bytes. rows_of so_far.done ++ bytes)
      (take_all row_len row (omega (arith, len)) ∙ is ∙ sym (append-nil (row_of captured)))
      ∙ sym (flat_map-append row_of so_far.done (captured ∷ []));
  size = size;
  fits = omega (arith, fits);
  state = same ∙ so_far.state;
}

-- the rows stand at the front, whatever is put after them
front_same : (at : ℕ) (rows row : List ℕ) → at ≤ length rows → (more : List ℕ) →
    more ≡ take at rows ++ row → take at more ≡ take at rows
front_same at rows row within more put =
    ap (take at) put ∙ take-append-le at (take at rows) row (omega (arith, length-take at rows, within))
    ∙ take_all at (take at rows) (omega (arith, length-take at rows))

-- no record is left: all have a row
pub WritesRows-all : {before now : AnyState} {first left : MemDeskView} {old rows : List ℕ} {count : ℕ} →
    IsWritten before now first left old rows count → left_records now left ≡ [] →
    (more rest : List ℕ) → more ≡ take (row_len * count) rows ++ rest → length more ≡ length old →
    WritesRows (left_records before first) old more count
WritesRows-all {before} {now} {first} {left} {old} {rows} {count} so_far none more rest put size =
    let all : left_records before first ≡ so_far.done =
    so_far.whole ∙ ap (λ r. so_far.done ++ r) none ∙ append-nil so_far.done in
    record {
      counted = omega (arith, so_far.counted, so_far.fits, ap length all);
      size = size;
      rows = front_same (row_len * count) rows rest (omega (arith, so_far.fits, so_far.size)) more put
          ∙ so_far.made
          ∙ ap rows_of (sym (ap (take count) all ∙ take_all count so_far.done (omega (arith, so_far.counted))));
    }

-- a row that was put among the others leaves their length
put_size : (at size : ℕ) (rows row : List ℕ) → length row ≡ size → at + size ≤ length rows →
    length (put_mid at size rows row) ≡ length rows
put_size at size rows row len fits = omega (
  arith,
  len,
  fits,
  length-append (take at rows) (row ++ drop size (drop at rows)),
  length-append row (drop size (drop at rows)),
  length-take at rows,
  length-drop size (drop at rows),
  length-drop at rows,
)

-- one row more was put after the others
pub written_more : {before now next : AnyState} {first left after : MemDeskView} {old rows : List ℕ} {count : ℕ}
    (so_far : IsWritten before now first left old rows count) (at size : ℕ) (row : List ℕ) (captured : CaptureRecord) →
    left_records now left ≡ captured ∷ left_records next after → row ≡ row_of captured → length row ≡ row_len →
    progress_of next ≡ progress_of now → at ≡ row_len * count → size ≡ row_len → at + row_len ≤ length rows →
    IsWritten before next first after old (put_mid at size rows row) (count + 1)
written_more {rows = rows} {count = count} so_far at size row captured left is len same place whole fits =
    IsWritten-more so_far row captured left is len same (omega (arith, place, fits, so_far.size))
    (put_mid at size rows row)
    (ap (λ n. take n rows ++ (row ++ drop size (drop n rows))) place
    ∙ ap (λ n. take (row_len * count) rows ++ (row ++ drop n (drop (row_len * count) rows))) whole)
    (put_size at size rows row (len ∙ sym whole) (omega (arith, whole, fits)) ∙ so_far.size)

-- nothing more is left, whatever was put after the others
pub written_all : {before now : AnyState} {first left : MemDeskView} {old rows : List ℕ} {count : ℕ}
    (so_far : IsWritten before now first left old rows count) (at size : ℕ) (row : List ℕ) →
    left_records now left ≡ [] → length row ≡ row_len → at ≡ row_len * count → size ≡ row_len →
    at + row_len ≤ length rows → WritesRows (left_records before first) old (put_mid at size rows row) count
written_all {rows = rows} so_far at size row none len place whole fits =
    WritesRows-all so_far none (put_mid at size rows row) (row ++ drop size (drop at rows))
    (ap (λ n. take n rows ++ (row ++ drop size (drop at rows))) place)
    (put_size at size rows row (len ∙ sym whole) (omega (arith, whole, fits)) ∙ so_far.size)

-- a row whose first byte was set, and whose others were copied
pub row_put : (row : List ℕ) (number : ℕ) (key : List ℕ) → length row ≡ row_len →
    put_mid 1 (length (slice_set row 0 number) - 1) (slice_set row 0 number) key ≡ number ∷ key
row_put [] number key len = absurd (omega (arith, len))
row_put (first ∷ others) number key len =
    let left : length (number ∷ others) - 1 ≡ length others = omega arith in
    ap (λ n. number ∷ (key ++ drop n others)) left
    ∙ ap (λ rest. number ∷ (key ++ rest)) (drop_all (length others) others (omega arith))
    ∙ ap (λ bytes. number ∷ bytes) (append-nil key)

-- the records that are left once the first bytes of a capture were read are those of the capture
pub begun_whole : (capture : List ℕ) (state : AnyState) (old new : MemDeskView) → left_in old.hand ≡ capture →
    ReadsStart (shown_desk old) (shown_desk new) (Ok state) →
    (whole_records capture ≡ left_records state new) × (progress_of state ≡ progress.Reading)
begun_whole capture state old new left reads =
    let says : start_of capture ≡ Ok state = subst (λ l. start_of l ≡ Ok state) left reads.told.0 in (
      ap records_in (capture-start capture state says)
          ∙ ap (λ l. (records_from state l).records) (sym (reads.told.1 ∙ ap (drop (start_len state)) left)),
      (start-begun capture state says).1,
    )

-- a capture whose first bytes are refused has none
pub refused_whole : (capture : List ℕ) (fault : CaptureFault) (old new : MemDeskView) → left_in old.hand ≡ capture →
    old.read_faults ≡ 0 → new.read_faults ≡ 0 → ReadsStart (shown_desk old) (shown_desk new) (Err fault) →
    whole_records capture ≡ []
refused_whole capture ReadFault old new left unfailed still reads =
    absurd (omega (arith, unfailed, still, reads.read_fault refl))
refused_whole capture fault old new left unfailed still reads =
    ap records_in (start-fault capture fault (subst (λ l. start_of l ≡ Err fault) left reads.told))

-- no rows of no records
pub WritesRows-none : (records : List CaptureRecord) (rows : List ℕ) → records ≡ [] → WritesRows records rows rows 0
WritesRows-none records rows none = record { counted = omega (arith, ap length none); size = refl; rows = refl }
