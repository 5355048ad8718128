-- How the records of a capture follow one another.
use Rattle.std.proofs.Common.{◌≡◌, ℕ, zero, suc, ◌+◌, ◌≤◌, List, [], length, Some, None, inl, inr, refl, sym, subst, ap, ◌∙◌, arith, length-drop, ◌++◌, ◌∷◌, ◌<◌, take, drop, Result, Ok, Err, add-zero, append_assoc, length-append}
use Rattle.std.specs.Prelude.{◌⊎◌, ◌==◌, nat_lt, if◌then◌else◌, Bool, true, false}
use Rattle.std.proofs.lemmas.Bool.{cases_eq, cases_lt, eq-eqb, le-leb, lt-leb}
use Rattle.std.proofs.lemmas.List.{take-append-le, drop-append-le}
use Rattle.pcap_reader.specs.declared.capture_fault.CaptureFault.{CaptureFault}
use Rattle.pcap_reader.specs.declared.capture_fault.CaptureFault.TheVariants.{HeaderCut, RecordCut, RecordTooLong, TooManyRecords}
use Rattle.pcap_reader.specs.declared.link.Link.{Link}
use Rattle.pcap_reader.specs.declared.start.Start.{Start}
use Rattle.pcap_reader.specs.Start.{start_of, start_in, file_header_len}
use Rattle.pcap_reader.specs.declared.state.CaptureState.{CaptureState}
use Rattle.pcap_reader.specs.State.{CaptureRecord, begun, state_after}
use Rattle.pcap_reader.specs.ReaderStates.{state_past}
use Rattle.pcap_reader.specs.Capture.{Recorded, capture_of, Next, End, Record, Fault, max_records, max_captured, record_header_len, next_of, followed_by, onward, records_within, records_from}
use Rattle.pcap_reader.specs.Reader.{captured_in}
use Rattle.pcap_reader.proofs.NextLaws.{IsOpen, next_of-too_many, next_of-cut, next_of-too_long, next_of-short, next_of-record, next_of-append, with_more, IsDecided}

-- a record takes its header away at least
abbrev pub IsShorter : List ℕ → Next → Type 0
IsShorter left End = Unit {0}
IsShorter left (Record captured after) = length after + record_header_len ≤ length left
IsShorter left (Fault fault) = Unit {0}

-- with no byte left the capture has ended
next_of-none : (state : CaptureState) (left : List ℕ) → length left ≡ 0 → next_of state left ≡ End
next_of-none state left none = rw (eq-eqb (length left) 0 none) refl

-- what stands next takes a record's header away at least
pub next_of-shorter : (state : CaptureState) (left : List ℕ) → IsShorter left (next_of state left)
next_of-shorter state left =
    let at : (next : Next) → next_of state left ≡ next → IsShorter left next →
    IsShorter left (next_of state left) =
    λ next is shorter. subst (IsShorter left) (sym is) shorter in
    elim (cases_eq (length left) 0) [
      | inl none ↦ at End (next_of-none state left none) tt
      | inr some ↦ elim (cases_lt state.count max_records) [
        | inr many ↦ at _ (next_of-too_many state left (omega arith) many) tt
        | inl few ↦
            let is_open : IsOpen state left = record { some = omega arith; few = few } in
            elim (cases_lt (length left) record_header_len) [
              | inl cut ↦ at _ (next_of-cut state left is_open cut) tt
              | inr header ↦ elim (cases_lt max_captured (captured_in state left)) [
                | inl long ↦ at _ (next_of-too_long state left is_open header long) tt
                | inr lawful ↦ elim (cases_lt (length left) (record_header_len + captured_in state left)) [
                  | inl short ↦ at _ (next_of-short state left is_open header lawful short) tt
                  | inr whole ↦
                      at _ (next_of-record state left is_open header lawful whole)
                      (omega (arith, whole, length-drop (record_header_len + captured_in state left) left))
                ]
              ]
            ]
      ]
    ]

-- a record has the link type of the reader
abbrev pub HasLink : Link → Next → Type 0
HasLink link End = Unit {0}
HasLink link (Record captured after) = captured.link ≡ link
HasLink link (Fault fault) = Unit {0}

-- a chosen step has it where both choices have it
linked : (link : Link) (test : Bool) (first second : Next) → HasLink link first → HasLink link second →
    HasLink link (if test then first else second)
linked link true first second a b = a
linked link false first second a b = b

-- a record that stands next has the link type of the reader
pub next_of-link : (state : CaptureState) (left : List ℕ) → HasLink state.start.link (next_of state left)
next_of-link state left =
    let number = state.count + 1 in
    let len = captured_in state left in
    let link = state.start.link in
    linked link (length left == 0) End _ tt
    (linked link (nat_lt max_records number) (Fault TooManyRecords) _ tt
    (linked link (nat_lt (length left) record_header_len) (Fault (RecordCut number)) _ tt
    (linked link (nat_lt max_captured len) (Fault (RecordTooLong number)) _ tt
    (linked link (nat_lt (length left) (record_header_len + len)) (Fault (RecordCut number)) _ tt refl))))

-- what stands next is one of three
pub next_cases : (next : Next) →
    (next ≡ End) ⊎ (((captured : CaptureRecord) × (after : List ℕ) × (next ≡ Record captured after)) ⊎
    ((fault : CaptureFault) × (next ≡ Fault fault)))
next_cases End = inl refl
next_cases (Record captured after) = inr (inl (captured, after, refl))
next_cases (Fault fault) = inr (inr (fault, refl))

-- the state after a record
abbrev pub state_next : CaptureState → CaptureRecord → CaptureState
state_next state captured = state_after state (Ok (Some captured))

-- any fuel that is enough gives the same records
records_within-fuel : (fuel more : ℕ) (state : CaptureState) (left : List ℕ) → length left ≤ fuel →
    length left ≤ more →
    records_within fuel state left ≡ records_within more state left
records_within-fuel zero zero state left enough also = refl
records_within-fuel zero (suc more) state left enough also =
    sym (rw (next_of-none state left (omega arith)) refl)
records_within-fuel (suc fuel) zero state left enough also =
    rw (next_of-none state left (omega arith)) refl
records_within-fuel (suc fuel) (suc more) state left enough also =
    elim (next_cases (next_of state left)) [
      | inl ends ↦ rw ends refl
      | inr (inl record_next) ↦
          let shorter = subst (IsShorter left) record_next.2 (next_of-shorter state left) in
          rw record_next.2
          (ap (followed_by (record_next.0 ∷ []))
          (records_within-fuel fuel more (state_next state record_next.0) record_next.1 (omega (arith, shorter))
          (omega (arith, shorter))))
      | inr (inr fault_next) ↦ rw fault_next.1 refl
    ]

-- the records after a record
pub records_from-record : (state : CaptureState) (left : List ℕ) (captured : CaptureRecord) (after : List ℕ) →
    next_of state left ≡ Record captured after →
    records_from state left ≡ followed_by (captured ∷ []) (records_from (state_next state captured) after)
records_from-record state left captured after next =
    let shorter = subst (IsShorter left) next (next_of-shorter state left) in
    records_within-fuel (length left) (suc (length left)) state left (omega arith) (omega arith)
    ∙ rw next (ap (followed_by (captured ∷ []))
    (records_within-fuel (length left) (length after) (state_next state captured) after (omega (arith, shorter))
    (omega arith)))

-- the end has no records
pub records_from-end : (state : CaptureState) (left : List ℕ) → next_of state left ≡ End →
    records_from state left ≡ record { records = []; fault = None }
records_from-end state left ends =
    records_within-fuel (length left) (suc (length left)) state left (omega arith) (omega arith) ∙ rw ends refl

-- nor has a fault
pub records_from-fault : (state : CaptureState) (left : List ℕ) (fault : CaptureFault) →
    next_of state left ≡ Fault fault →
    records_from state left ≡ record { records = []; fault = Some fault }
records_from-fault state left fault fails =
    records_within-fuel (length left) (suc (length left)) state left (omega arith) (omega arith) ∙ rw fails refl

-- the records of what is left begin with what stands next
pub records_from-step : (state : CaptureState) (left : List ℕ) →
    records_from state left ≡ onward (next_of state left)
    (λ captured after. records_from (state_after state (Ok (Some captured))) after)
records_from-step state left =
    elim (next_cases (next_of state left)) [
      | inl ends ↦ rw ends (records_from-end state left ends)
      | inr (inl record_next) ↦ rw record_next.2
          (records_from-record state left record_next.0 record_next.1 record_next.2)
      | inr (inr fault_next) ↦ rw fault_next.1 (records_from-fault state left fault_next.0 fault_next.1)
    ]

-- where there is a byte, something stands next
abbrev IsNotEnd : Next → Type 0
IsNotEnd End = ⊥
IsNotEnd (Record captured after) = Unit {0}
IsNotEnd (Fault fault) = Unit {0}

-- with a byte left the capture hasn't ended
next_of-some : (state : CaptureState) (left : List ℕ) → 0 < length left → IsNotEnd (next_of state left)
next_of-some state left some =
    let at : (next : Next) → next_of state left ≡ next → IsNotEnd next → IsNotEnd (next_of state left) =
    λ next is holds. subst IsNotEnd (sym is) holds in
    elim (cases_lt state.count max_records) [
      | inr many ↦ at _ (next_of-too_many state left some many) tt
      | inl few ↦
          let is_open : IsOpen state left = record { some = some; few = few } in
          elim (cases_lt (length left) record_header_len) [
            | inl cut ↦ at _ (next_of-cut state left is_open cut) tt
            | inr header ↦ elim (cases_lt max_captured (captured_in state left)) [
              | inl long ↦ at _ (next_of-too_long state left is_open header long) tt
              | inr lawful ↦ elim (cases_lt (length left) (record_header_len + captured_in state left)) [
                | inl short ↦ at _ (next_of-short state left is_open header lawful short) tt
                | inr whole ↦ at _ (next_of-record state left is_open header lawful whole) tt
              ]
            ]
          ]
    ]

-- some records, and then more
pub followed_by-then : (first second : List CaptureRecord) (later : Recorded) →
    followed_by first (followed_by second later) ≡ followed_by (first ++ second) later
followed_by-then first second later =
    ap (λ records. let all : Recorded = record { records = records; fault = later.fault } in all)
    (sym (append_assoc first second later.records))

-- after a whole capture the records of the bytes after it follow
pub records_within-append : (fuel : ℕ) (state : CaptureState) (front left : List ℕ) → length front ≤ fuel →
    (records_within fuel state front).fault ≡ None → records_from state (front ++ left)
    ≡ followed_by (records_within fuel state front).records
    (records_from (state_past state (records_within fuel state front).records) left)
records_within-append zero state [] left enough whole = refl
records_within-append zero state (b ∷ bs) left enough whole = absurd (omega arith)
records_within-append (suc fuel) state [] left enough whole = refl
records_within-append (suc fuel) state (b ∷ bs) left enough whole =
    let front : List ℕ = b ∷ bs in
    elim (next_cases (next_of state front)) [
      | inl ends ↦ absurd (subst IsNotEnd ends (next_of-some state front (omega arith)))
      | inr (inl next) ↦
          let shorter = subst (IsShorter front) next.2 (next_of-shorter state front) in
          let past = state_next state next.0 in
          let later = records_within fuel past next.1 in
          let more : next_of state (front ++ left) ≡ Record next.0 (next.1 ++ left) =
          next_of-append state front left (subst IsDecided (sym next.2) tt)
          ∙ ap (λ n. with_more n left) next.2 in
          let rest = records_within-append fuel past next.1 left (omega (arith, shorter))
          (rw next.2 at whole) in
          rw next.2
          (records_from-record state (front ++ left) next.0 (next.1 ++ left) more
          ∙ ap (followed_by (next.0 ∷ [])) rest
          ∙ followed_by-then (next.0 ∷ []) later.records (records_from (state_past past later.records) left))
      | inr (inr fails) ↦ absurd (let none = rw fails.1 at whole in cc)
    ]

-- what a capture holds that has no fault in its file header
abbrev held : Result Recorded CaptureFault → Recorded
held (Ok capture) = capture
held (Err fault) = record { records = []; fault = None }

-- what the whole of a capture holds, whose front is a whole capture with these records
pub capture_of-append : (front left : List ℕ) (start : Start) (records : List CaptureRecord) →
    start_of front ≡ Ok start →
    capture_of front ≡ Ok (record { records = records; fault = None }) →
    capture_of (front ++ left) ≡ Ok (followed_by records (records_from (state_past (begun start) records) left))
capture_of-append front left start records says is =
    elim (cases_lt (length front) file_header_len) [
      | inl short ↦
          let cut : start_of front ≡ Err HeaderCut = rw (lt-leb file_header_len (length front) short) refl in
          absurd (cc)
      | inr long ↦
          let alone : start_of front ≡ start_in (take file_header_len front) =
          rw (le-leb file_header_len (length front) long) refl in
          let both : start_of (front ++ left) ≡ Ok start =
          rw (
            le-leb file_header_len (length (front ++ left)) (omega (arith, long, length-append front left)),
            take-append-le file_header_len front left long,
          ) (sym alone ∙ says) in
          let after : List ℕ = drop file_header_len front in
          let opened : capture_of front ≡ Ok (records_from (begun start) after) = rw says refl in
          let same : records_from (begun start) after ≡ record { records = records; fault = None } =
          ap held (sym opened ∙ is) in
          let follow = records_within-append (length after) (begun start) after left (omega arith)
          (ap (λ r. r.fault) same) in
          rw both
          (ap (λ (l : List ℕ). Ok (records_from (begun start) l)) (drop-append-le file_header_len front left long)
          ∙ ap (λ r. Ok r) follow
          ∙ ap (λ (r : Recorded). Ok (followed_by r.records
          (records_from (state_past (begun start) r.records) left))) same)
    ]

-- the state after some records, and then one more
pub state_past-then : (state : CaptureState) (first second : List CaptureRecord) →
    state_past state (first ++ second) ≡ state_past (state_past state first) second
state_past-then state [] second = refl
state_past-then state (captured ∷ first) second = state_past-then (state_next state captured) first second

-- it has counted the records
pub state_past-count : (state : CaptureState) (records : List CaptureRecord) →
    (state_past state records).count ≡ state.count + length records
state_past-count state [] = sym (add-zero state.count)
state_past-count state (captured ∷ records) =
    state_past-count (state_next state captured) records ∙ omega arith

-- it stands as before
pub state_past-progress : (state : CaptureState) (records : List CaptureRecord) →
    (state_past state records).progress ≡ state.progress
state_past-progress state [] = refl
state_past-progress state (captured ∷ records) = state_past-progress (state_next state captured) records

-- and it has the file header of before
pub state_past-start : (state : CaptureState) (records : List CaptureRecord) →
    (state_past state records).start ≡ state.start
state_past-start state [] = refl
state_past-start state (captured ∷ records) = state_past-start (state_next state captured) records
