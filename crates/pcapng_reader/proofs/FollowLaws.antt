-- What follows a record, and a whole capture.
use Rattle.std.proofs.Common.{◌≡◌, ℕ, zero, suc, ◌+◌, ◌<◌, List, [], ◌∷◌, ◌++◌, length, drop, Option, Some, None}
use Rattle.std.proofs.Common.{Result, Ok, Err, inl, inr, refl, sym, subst, ap, ◌∙◌, arith, true, false}
use Rattle.std.specs.Prelude.{⊤, Bool, nat_lt, if◌then◌else◌}
use Rattle.std.proofs.lemmas.Bool.{cases_eq, cases_lt, eq-eqb, ne_eqb}
use Rattle.std.proofs.lemmas.List.{drop-append-le}
use Rattle.pcap_reader.specs.declared.capture_fault.CaptureFault.{CaptureFault}
use Rattle.pcap_reader.specs.declared.state.CaptureState.{CaptureState}
use Rattle.pcap_reader.specs.State.{CaptureRecord}
use Rattle.pcap_reader.specs.Headers.{record_header_of}
use Rattle.pcap_reader.specs.Capture as savefile
use Rattle.pcap_reader.specs.Capture.{max_captured, record_header_len}
use Rattle.pcap_reader.proofs.Offered.{followed_by-then, next_of-too_many, next_cases as savefile_cases}
use Rattle.pcapng_reader.specs.Block.{BlockState, block_at, block_of, block_said}
use Rattle.pcapng_reader.specs.Block as block
use Rattle.pcapng_reader.specs.declared.front.Front.{Front}
use Rattle.pcapng_reader.specs.declared.said.Said.{Said}
use Rattle.pcapng_reader.specs.declared.said.Said.TheVariants as said
use Rattle.pcapng_reader.specs.Capture.{AnyState, Savefile, Blocks, Next, End, Record, Fault, Recorded, capture_of}
use Rattle.pcapng_reader.specs.Capture.{first_of, followed_by, max_records, next_of, onward, records_from, size_of}
use Rattle.pcapng_reader.specs.Capture.{with_state}
use Rattle.pcapng_reader.specs.Following.{FollowsWhole}
use Rattle.pcapng_reader.specs.Reader.{count_of, progress_of, start_len, start_of}
use Rattle.pcapng_reader.specs.BlockReading.{HasNoBlock}
use Rattle.pcapng_reader.proofs.BlockLaws.{block_more, IsDecidedBlock}
use Rattle.pcapng_reader.proofs.BlockLaws.{front_least, HasFront-from}
use Rattle.pcapng_reader.proofs.PacketLaws.{CountsBlock, block-counts}
use Rattle.pcapng_reader.proofs.NextLaws.{block_cases, block_of-append, next-passed, next-end, next-given, next-fault}
use Rattle.pcapng_reader.proofs.NextLaws.{next_cases, next_more, next-append, IsDecidedNext, IsShorterNext}
use Rattle.pcapng_reader.proofs.NextLaws.{next-shorter}
use Rattle.pcapng_reader.proofs.CaptureLaws.{records-end, records-fault, records-record, records-step, savefile-records}
use Rattle.pcapng_reader.proofs.StartLaws.{len_cases, start-append, start-begun}
use Rattle.pcapng_reader.proofs.BeginLaws.{capture-start, start-fault}
use Rattle.pcapng_reader.proofs.BlockEnds.{Came, Empty, Faulty, Whole, came, IsShorterBlock, block-shorter, short-stuck}

-- a reader that gave a record has counted it, and goes on as before
abbrev pub CountsNext : AnyState → Next → Type 0
CountsNext before (End now) = (count_of now ≡ count_of before) × (progress_of now ≡ progress_of before)
CountsNext before (Record captured now after) =
    (count_of before < max_records) × (count_of now ≡ count_of before + 1) × (progress_of now ≡ progress_of before)
CountsNext before (Fault fault) = ⊤

-- and so it is past blocks without one
counts_past : (before now : AnyState) (next : Next) → count_of now ≡ count_of before →
    progress_of now ≡ progress_of before → CountsNext now next → CountsNext before next
counts_past before now (End later) count same is = (is.0 ∙ count, is.1 ∙ same)
counts_past before now (Record captured later after) count same is =
    (omega (arith, count, is.0), is.1 ∙ ap (λ (n : ℕ). n + 1) count, is.2 ∙ same)
counts_past before now (Fault fault) count same is = tt

-- what stands next past some blocks is counted
within-counts : (fuel : ℕ) (state : BlockState) (left : List ℕ) → length (state.first ++ left) < fuel →
    CountsNext (Blocks state) (next_of (Blocks state) left)
within-counts zero state left enough = absurd (omega (arith, enough))
within-counts (suc fuel) state left enough =
    let counted = block-counts state (state.first ++ left) in
    elim (block_cases (block_of state left)) [
      | inl ends ↦ subst (CountsNext (Blocks state)) (sym (next-end state left ends)) (refl, refl)
      | inr (inl passed) ↦
          let shorter = subst (IsShorterBlock (state.first ++ left)) passed.2
          (block-shorter state (state.first ++ left)) in
          let counts = subst (CountsBlock state) passed.2 counted in
          subst (CountsNext (Blocks state)) (sym (next-passed state left passed.0 passed.1 passed.2))
          (counts_past (Blocks state) (Blocks passed.0) (next_of (Blocks passed.0) passed.1) counts.2 counts.3
          (within-counts fuel passed.0 passed.1 (omega (arith, shorter, enough))))
      | inr (inr (inl given)) ↦
          subst (CountsNext (Blocks state)) (sym (next-given state left given.0 given.1 given.2 given.3))
          (subst (CountsBlock state) given.3 counted)
      | inr (inr (inr fails)) ↦
          subst (CountsNext (Blocks state)) (sym (next-fault state left fails.0 fails.1)) tt
    ]

-- there is a record of a savefile only where there may be one more
savefile_few : (state : CaptureState) (left : List ℕ) (captured : CaptureRecord) (after : List ℕ) →
    savefile.next_of state left ≡ savefile.Record captured after → state.count < max_records
savefile_few state left captured after next = elim (cases_eq (length left) 0) [
  | inl none ↦
      let ends : savefile.next_of state left ≡ savefile.End = rw (eq-eqb (length left) 0 none) refl in
      absurd (cc)
  | inr some ↦ elim (cases_lt state.count max_records) [
    | inl few ↦ few
    | inr many ↦
        let over = next_of-too_many state left (omega arith) many in
        absurd (cc)
  ]
]

-- what stands next in either format is counted
pub next-counts : (state : AnyState) (left : List ℕ) → CountsNext state (next_of state left)
next-counts (Blocks state) left = within-counts (suc (length (state.first ++ left))) state left (omega arith)
next-counts (Savefile state) left = elim (savefile_cases (savefile.next_of state left)) [
  | inl ends ↦ subst (CountsNext (Savefile state)) (sym (ap (with_state state) ends)) (refl, refl)
  | inr (inl whole) ↦ subst (CountsNext (Savefile state)) (sym (ap (with_state state) whole.2))
      (savefile_few state left whole.0 whole.1 whole.2, refl, refl)
  | inr (inr fails) ↦ subst (CountsNext (Savefile state)) (sym (ap (with_state state) fails.1)) tt
]

-- a block is no end
said_some : (x : Said) (state : BlockState) (front : Front) (bytes : List ℕ) →
    block_said state front x bytes ≡ block.End → ⊥
said_some said.Section state front bytes is = absurd (cc)
said_some (said.Interface link) state front bytes is = absurd (cc)
said_some (said.Packet link captured) state front bytes is = absurd (cc)
said_some said.Other state front bytes is = absurd (cc)

-- the end has no bytes
end_none : (state : BlockState) (bytes : List ℕ) → block_at state bytes ≡ block.End → length bytes ≡ 0
end_none state bytes ends = go (came state bytes)
  where
    go : Came state bytes → length bytes ≡ 0
    go (Empty none is) = none
    go (Faulty fault some is) = absurd (let e = sym is ∙ ends in cc)
    go (Whole front x is facts room whole says) = absurd (said_some x state front bytes (sym says ∙ ends))

-- two lists that have no element together are empty
parts_none : (xs ys : List ℕ) → length (xs ++ ys) ≡ 0 → (xs ≡ []) × (ys ≡ [])
parts_none [] [] none = (refl, refl)
parts_none [] (y ∷ ys) none = absurd (omega (arith, none))
parts_none (x ∷ xs) ys none = absurd (omega (arith, none))

-- nor has that of a savefile
abbrev IsNoEnd : savefile.Next → Type 0
IsNoEnd savefile.End = ⊥
IsNoEnd (savefile.Record captured after) = ⊤
IsNoEnd (savefile.Fault fault) = ⊤

-- a fault, or else what is no end, is no end
no_end_if : (test : Bool) (fault : CaptureFault) (other : savefile.Next) → IsNoEnd other →
    IsNoEnd (if test then savefile.Fault fault else other)
no_end_if true fault other is = tt
no_end_if false fault other is = is

-- what a record of a savefile is read as is no end
savefile_some : (state : CaptureState) (left : List ℕ) → IsNoEnd (savefile.next_record state left)
savefile_some state left =
    let len = (record_header_of state.start.order left).captured in
    no_end_if (nat_lt max_records (state.count + 1)) _ _
    (no_end_if (nat_lt (length left) record_header_len) _ _
    (no_end_if (nat_lt max_captured len) _ _
    (no_end_if (nat_lt (length left) (record_header_len + len)) _ _ tt)))

-- if a savefile has ended, no byte is left
savefile_none : (state : CaptureState) (left : List ℕ) → savefile.next_of state left ≡ savefile.End → left ≡ []
savefile_none state [] ends = refl
savefile_none state (byte ∷ bytes) ends =
    let left : List ℕ = byte ∷ bytes in
    let some : savefile.next_of state left ≡ savefile.next_record state left =
    rw (ne_eqb (length left) 0 (λ e. omega (arith, e))) refl in
    absurd (subst IsNoEnd (sym some ∙ ends) (savefile_some state left))

-- where nothing stands next, what is after it stands next to the reader past all blocks
abbrev EndsSo : AnyState → List ℕ → List ℕ → Next → Type 0
EndsSo before left more (End now) = (first_of now ≡ []) × (next_of before (left ++ more) ≡ next_of now more)
EndsSo before left more (Record captured now after) = ⊤
EndsSo before left more (Fault fault) = ⊤

-- so it is past a block, if it is so after it
ends_past : (before now : AnyState) (left after more : List ℕ) (next : Next) →
    next_of before (left ++ more) ≡ next_of now (after ++ more) → EndsSo now after more next →
    EndsSo before left more next
ends_past before now left after more (End later) same is = (is.0, same ∙ is.1)
ends_past before now left after more (Record captured later rest) same is = tt
ends_past before now left after more (Fault fault) same is = tt

-- so it is past all blocks
within-end : (fuel : ℕ) (state : BlockState) (left more : List ℕ) → length (state.first ++ left) < fuel →
    EndsSo (Blocks state) left more (next_of (Blocks state) left)
within-end zero state left more enough = absurd (omega (arith, enough))
within-end (suc fuel) state left more enough =
    elim (block_cases (block_of state left)) [
      | inl ends ↦
          let none = parts_none state.first left (end_none state (state.first ++ left) ends) in
          subst (EndsSo (Blocks state) left more) (sym (next-end state left ends))
          (none.0, ap (λ (l : List ℕ). next_of (Blocks state) (l ++ more)) none.1)
      | inr (inl passed) ↦
          let shorter = subst (IsShorterBlock (state.first ++ left)) passed.2
          (block-shorter state (state.first ++ left)) in
          let longer : block_of state (left ++ more) ≡ block.Passed passed.0 (passed.1 ++ more) =
          block_of-append state left more (subst IsDecidedBlock (sym passed.2) tt)
          ∙ ap (λ b. block_more b more) passed.2 in
          subst (EndsSo (Blocks state) left more) (sym (next-passed state left passed.0 passed.1 passed.2))
          (ends_past (Blocks state) (Blocks passed.0) left passed.1 more (next_of (Blocks passed.0) passed.1)
          (next-passed state (left ++ more) passed.0 (passed.1 ++ more) longer)
          (within-end fuel passed.0 passed.1 more (omega (arith, shorter, enough))))
      | inr (inr (inl given)) ↦
          subst (EndsSo (Blocks state) left more) (sym (next-given state left given.0 given.1 given.2 given.3)) tt
      | inr (inr (inr fails)) ↦
          subst (EndsSo (Blocks state) left more) (sym (next-fault state left fails.0 fails.1)) tt
    ]

-- so it is in either format
next-ends : (state : AnyState) (left more : List ℕ) → EndsSo state left more (next_of state left)
next-ends (Blocks state) left more = within-end (suc (length (state.first ++ left))) state left more (omega arith)
next-ends (Savefile state) left more = elim (savefile_cases (savefile.next_of state left)) [
  | inl ends ↦ subst (EndsSo (Savefile state) left more) (sym (ap (with_state state) ends))
      (refl, ap (λ (l : List ℕ). next_of (Savefile state) (l ++ more)) (savefile_none state left ends))
  | inr (inl whole) ↦ subst (EndsSo (Savefile state) left more) (sym (ap (with_state state) whole.2)) tt
  | inr (inr fails) ↦ subst (EndsSo (Savefile state) left more) (sym (ap (with_state state) fails.1)) tt
]

-- After these records, which are all, those of more bytes follow from a state of the reader.
record GoesAfter (before : AnyState) (left more : List ℕ) (records : List CaptureRecord) : Type 0 where
  state : AnyState
  count : count_of state ≡ count_of before + length records
  same : progress_of state ≡ progress_of before
  first : first_of state ≡ []
  follows : records_from before (left ++ more) ≡ followed_by records (records_from state more)

-- no more records
after_end : (before now : AnyState) (left more : List ℕ) → next_of before left ≡ End now → GoesAfter before left more []
after_end before now left more ends =
    let counts = subst (CountsNext before) ends (next-counts before left) in
    let so = subst (EndsSo before left more) ends (next-ends before left more) in
    record {
      state = now;
      count = omega (arith, counts.0);
      same = counts.1;
      first = so.0;
      follows =
          records-step before (left ++ more)
          ∙ ap (λ n. onward n (λ (s : AnyState) (l : List ℕ). records_from s l)) so.1
          ∙ sym (records-step now more);
    }

-- a record more
after_record : (before now : AnyState) (left after more : List ℕ) (captured : CaptureRecord)
    (records : List CaptureRecord) → next_of before left ≡ Record captured now after →
    GoesAfter now after more records → GoesAfter before left more (captured ∷ records)
after_record before now left after more captured records next rest =
    let counts = subst (CountsNext before) next (next-counts before left) in
    let longer : next_of before (left ++ more) ≡ Record captured now (after ++ more) =
    next-append before left more (subst IsDecidedNext (sym next) tt) ∙ ap (λ n. next_more n more) next in
    record {
      state = rest.state;
      count = omega (arith, rest.count, counts.1);
      same = rest.same ∙ counts.2;
      first = rest.first;
      follows =
          records-record before (left ++ more) captured now (after ++ more) longer
          ∙ ap (followed_by (captured ∷ [])) rest.follows
          ∙ followed_by-then (captured ∷ []) records (records_from rest.state more);
    }

-- the records of more bytes follow those of the first ones, if these have no fault
follow : (fuel : ℕ) (before : AnyState) (left more : List ℕ) → size_of before left < fuel →
    (records_from before left).fault ≡ None → GoesAfter before left more (records_from before left).records
follow zero before left more enough whole = absurd (omega (arith, enough))
follow (suc fuel) before left more enough whole =
    elim (next_cases (next_of before left)) [
      | inl ends ↦
          subst (GoesAfter before left more) (sym (ap (λ r. r.records) (records-end before left ends.0 ends.1)))
          (after_end before ends.0 left more ends.1)
      | inr (inl next) ↦
          let shorter = subst (IsShorterNext (size_of before left)) next.3 (next-shorter before left) in
          let step = records-record before left next.0 next.1 next.2 next.3 in
          subst (GoesAfter before left more) (sym (ap (λ r. r.records) step))
          (after_record before next.1 left next.2 more next.0 (records_from next.1 next.2).records next.3
          (follow fuel next.1 next.2 more (omega (arith, shorter, enough)) (sym (ap (λ r. r.fault) step) ∙ whole)))
      | inr (inr fails) ↦
          absurd (let e = sym (ap (λ r. r.fault) (records-fault before left fails.0 fails.1)) ∙ whole in cc)
    ]

-- after a whole capture the records of the bytes after it follow
pub whole-follows : (front after : List ℕ) (records : List CaptureRecord) →
    capture_of front ≡ Ok (record { records = records; fault = None }) → FollowsWhole records front after
whole-follows front after records is = go (start_of front) refl
  where
    go : (start : Result AnyState CaptureFault) → start_of front ≡ start → FollowsWhole records front after
    go (Err fault) says = absurd (let e = sym (start-fault front fault says) ∙ is in cc)
    go (Ok state) says =
        let len = start_len state in
        let begun = start-begun front state says in
        let left : List ℕ = drop len front in
        let held : records_from state left ≡ record { records = records; fault = None } =
        (let e = sym (capture-start front state says) ∙ is in cc) in
        let longer : start_of (front ++ after) ≡ Ok state =
        start-append front after (λ e. absurd (let f = sym e ∙ says in cc)) ∙ says in
        let rest = subst (GoesAfter state left after) (ap (λ r. r.records) held)
        (follow (suc (size_of state left)) state left after (omega arith) (ap (λ r. r.fault) held)) in
        record {
          state = rest.state;
          count = omega (arith, rest.count, begun.0);
          reading = rest.same ∙ begun.1;
          first = rest.first;
          capture =
              capture-start (front ++ after) state longer
              ∙ ap (λ (l : List ℕ). Ok (records_from state l))
              (drop-append-le len front after (len_cases state front says))
              ∙ ap Ok rest.follows;
        }

-- one byte is no record, and not the end
savefile_byte : (state : CaptureState) (byte : ℕ) → (savefile.records_from state (byte ∷ [])).fault ≡ None → ⊥
savefile_byte state byte none = go (nat_lt max_records (state.count + 1)) refl
  where
    go : (many : Bool) → nat_lt max_records (state.count + 1) ≡ many → ⊥
    go true e = absurd (let faulty = rw e at none in cc)
    go false e = absurd (let faulty = rw e at none in cc)

-- one byte is a block with a fault
block_byte : (state : BlockState) (byte : ℕ) → state.first ≡ [] → (fault : CaptureFault) ×
    (block_of state (byte ∷ []) ≡ block.Fault fault)
block_byte state byte none = elim (block_cases (block_of state (byte ∷ []))) [
  | inl ends ↦ absurd (omega (arith, one, end_none state (state.first ++ byte ∷ []) ends))
  | inr (inl passed) ↦ absurd (subst HasNoBlock passed.2 stuck)
  | inr (inr (inl given)) ↦ absurd (subst HasNoBlock given.3 stuck)
  | inr (inr (inr fails)) ↦ fails
]
  where
    one : length (state.first ++ byte ∷ []) ≡ 1
    one = ap (λ (l : List ℕ). length (l ++ byte ∷ [])) none

    stuck : HasNoBlock (block_of state (byte ∷ []))
    stuck = short-stuck state (state.first ++ byte ∷ []) 12 (omega (arith, one))
        (λ front says.
        let facts = HasFront-from state (state.first ++ byte ∷ []) front says in
        omega (arith, facts.least, front_least front.kind))

-- one byte has a fault in either format
one_byte : (state : AnyState) (byte : ℕ) → first_of state ≡ [] → (records_from state (byte ∷ [])).fault ≡ None → ⊥
one_byte (Savefile state) byte none whole =
    savefile_byte state byte (sym (ap (λ r. r.fault) (savefile-records state (byte ∷ []))) ∙ whole)
one_byte (Blocks state) byte none whole =
    let fails = block_byte state byte none in
    let faulty = records-fault (Blocks state) (byte ∷ []) fails.0 (next-fault state (byte ∷ []) fails.0 fails.1) in
    absurd (let e = sym (ap (λ r. r.fault) faulty) ∙ whole in cc)

-- the fault of a capture, in its first bytes or at its end
abbrev fault_in : Result Recorded CaptureFault → Option CaptureFault
fault_in (Ok capture) = capture.fault
fault_in (Err fault) = Some fault

-- one byte more after a whole capture is a fault
pub whole-last : (bytes : List ℕ) (byte : ℕ) (records later : List CaptureRecord) →
    capture_of bytes ≡ Ok (record { records = records; fault = None }) →
    capture_of (bytes ++ byte ∷ []) ≡ Ok (record { records = later; fault = None }) → ⊥
whole-last bytes byte records later whole longer =
    let follows = whole-follows bytes (byte ∷ []) records whole in
    one_byte follows.state byte follows.first (ap fault_in (sym follows.capture ∙ longer))
