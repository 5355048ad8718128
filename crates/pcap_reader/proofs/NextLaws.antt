-- What stands next, test by test, and that bytes after what decides change nothing.
use Rattle.std.proofs.Common.{◌≡◌, ℕ, ◌+◌, ◌<◌, ◌≤◌, List, [], ◌++◌, length, take, drop, inl, inr, refl, sym, subst, ap, ◌∙◌, arith, length-append, length-drop}
use Rattle.std.proofs.lemmas.Bool.{cases_eq, cases_lt, lt-ltb, le-ltb, ne_eqb, eq-eqb}
use Rattle.std.proofs.lemmas.List.{take-append-le, drop-append-le, drop_at, take_all, drop_all}
use Rattle.pcap_reader.specs.declared.capture_fault.CaptureFault.TheVariants.{RecordCut, RecordTooLong, TooManyRecords}
use Rattle.pcap_reader.specs.declared.start.Order.{Order}
use Rattle.pcap_reader.specs.declared.start.Order.TheVariants.{Big, Little}
use Rattle.pcap_reader.specs.Headers.{number_in}
use Rattle.pcap_reader.specs.declared.state.CaptureState.{CaptureState}
use Rattle.pcap_reader.specs.State.{record_of}
use Rattle.pcap_reader.specs.Reader.{captured_in}
use Rattle.pcap_reader.specs.Capture.{Next, End, Record, Fault, max_records, max_captured, record_header_len, next_of}

-- there is a byte, and room for a record more
pub record IsOpen (state : CaptureState) (left : List ℕ) : Type 0 where
  pub some : 0 < length left
  pub few : state.count < max_records

-- a byte after as many records as there may be is a fault
pub next_of-too_many : (state : CaptureState) (left : List ℕ) → 0 < length left → max_records ≤ state.count →
    next_of state left ≡ Fault TooManyRecords
next_of-too_many state left some many =
    rw (ne_eqb (length left) 0 (λ e. omega (arith, e)), lt-ltb max_records (state.count + 1) (omega arith)) refl

-- a record is cut if fewer bytes are left than its header has
pub next_of-cut : (state : CaptureState) (left : List ℕ) → IsOpen state left → length left < record_header_len →
    next_of state left ≡ Fault (RecordCut (state.count + 1))
next_of-cut state left is_open cut =
    rw (
      ne_eqb (length left) 0 (λ e. omega (arith, e, is_open.some)),
      le-ltb max_records (state.count + 1) (omega (arith, is_open.few)),
      lt-ltb (length left) record_header_len cut,
    ) refl

-- a record is too long if its header says more captured bytes than there may be
pub next_of-too_long : (state : CaptureState) (left : List ℕ) → IsOpen state left →
    record_header_len ≤ length left →
    max_captured < captured_in state left → next_of state left ≡ Fault (RecordTooLong (state.count + 1))
next_of-too_long state left is_open header long =
    rw (
      ne_eqb (length left) 0 (λ e. omega (arith, e, is_open.some)),
      le-ltb max_records (state.count + 1) (omega (arith, is_open.few)),
      le-ltb (length left) record_header_len header,
      lt-ltb max_captured (captured_in state left) long,
    ) refl

-- a record is cut if fewer bytes are left after its header than that says
pub next_of-short : (state : CaptureState) (left : List ℕ) → IsOpen state left → record_header_len ≤ length left →
    captured_in state left ≤ max_captured → length left < record_header_len + captured_in state left →
    next_of state left ≡ Fault (RecordCut (state.count + 1))
next_of-short state left is_open header lawful short =
    rw (
      ne_eqb (length left) 0 (λ e. omega (arith, e, is_open.some)),
      le-ltb max_records (state.count + 1) (omega (arith, is_open.few)),
      le-ltb (length left) record_header_len header,
      le-ltb max_captured (captured_in state left) lawful,
      lt-ltb (length left) (record_header_len + captured_in state left) short,
    ) refl

-- a header and as many bytes as it says are a record
pub next_of-record : (state : CaptureState) (left : List ℕ) → IsOpen state left → record_header_len ≤ length left →
    captured_in state left ≤ max_captured → record_header_len + captured_in state left ≤ length left →
    next_of state left ≡ Record (record_of state (take (captured_in state left) (drop record_header_len left)))
    (drop (record_header_len + captured_in state left) left)
next_of-record state left is_open header lawful whole =
    rw (
      ne_eqb (length left) 0 (λ e. omega (arith, e, is_open.some)),
      le-ltb max_records (state.count + 1) (omega (arith, is_open.few)),
      le-ltb (length left) record_header_len header,
      le-ltb max_captured (captured_in state left) lawful,
      le-ltb (length left) (record_header_len + captured_in state left) whole,
    ) refl

-- a number is read from its own bytes
pub part-append : (at size : ℕ) (left rest : List ℕ) → at + size ≤ length left →
    take size (drop at (left ++ rest)) ≡ take size (drop at left)
part-append at size left rest within =
    ap (take size) (drop-append-le at left rest (omega arith))
    ∙ take-append-le size (drop at left) rest (omega (arith, length-drop at left))

-- and so it is the same whatever stands after them
pub number_in-append : (order : Order) (at size : ℕ) (left rest : List ℕ) → at + size ≤ length left →
    number_in order (left ++ rest) at size ≡ number_in order left at size
number_in-append Big at size left rest within = rw (part-append at size left rest within) refl
number_in-append Little at size left rest within = rw (part-append at size left rest within) refl

-- the header says the same, whatever stands after it
pub captured_in-append : (state : CaptureState) (left rest : List ℕ) → record_header_len ≤ length left →
    captured_in state (left ++ rest) ≡ captured_in state left
captured_in-append state left rest header = number_in-append state.start.order 8 4 left rest (omega arith)

-- what decides is there: more bytes change nothing but what stands after a record
abbrev pub IsDecided : Next → Type 0
IsDecided End = ⊥
IsDecided (Record captured after) = Unit {0}
IsDecided (Fault (RecordCut number)) = ⊥
IsDecided (Fault fault) = Unit {0}

-- what stands next, with more bytes after it
abbrev pub with_more : Next → List ℕ → Next
with_more End rest = End
with_more (Record captured after) rest = Record captured (after ++ rest)
with_more (Fault fault) rest = Fault fault

-- a whole record stands in front of more bytes as it stands alone
record-append : (state : CaptureState) (left rest : List ℕ) → IsOpen state left → record_header_len ≤ length left →
    captured_in state left ≤ max_captured → record_header_len + captured_in state left ≤ length left →
    next_of state (left ++ rest) ≡ with_more (next_of state left) rest
record-append state left rest is_open header lawful whole =
    let same = captured_in-append state left rest header in
    let len = captured_in state left in
    let more : IsOpen state (left ++ rest) = record
    { some = omega (arith, is_open.some, length-append left rest); few = is_open.few } in
    next_of-record state (left ++ rest) more (omega (arith, length-append left rest)) (omega (arith, same))
    (omega (arith, same, length-append left rest))
    ∙ ap (λ n. Record (record_of state (take n (drop record_header_len (left ++ rest))))
    (drop (record_header_len + n) (left ++ rest)))
    same
    ∙ ap (λ (l : List ℕ). Record (record_of state l) (drop (record_header_len + len) (left ++ rest)))
    (part-append record_header_len len left rest whole)
    ∙ ap (λ (l : List ℕ). Record (record_of state (take len (drop record_header_len left))) l)
    (drop-append-le (record_header_len + len) left rest whole)
    ∙ sym (ap (λ n. with_more n rest) (next_of-record state left is_open header lawful whole))

-- where what decides is there, more bytes after it change nothing
pub next_of-append : (state : CaptureState) (left rest : List ℕ) → IsDecided (next_of state left) →
    next_of state (left ++ rest) ≡ with_more (next_of state left) rest
next_of-append state left rest decided =
    elim (cases_eq (length left) 0) [
      | inl none ↦
          let ends : next_of state left ≡ End = rw (eq-eqb (length left) 0 none) refl in
          absurd (subst IsDecided ends decided)
      | inr some ↦ elim (cases_lt state.count max_records) [
        | inr many ↦
            let alone = next_of-too_many state left (omega arith) many in
            next_of-too_many state (left ++ rest) (omega (arith, length-append left rest)) many
            ∙ sym (ap (λ n. with_more n rest) alone)
        | inl few ↦ elim (cases_lt (length left) record_header_len) [
          | inl cut ↦ absurd (subst IsDecided (next_of-cut state left
              (record { some = omega arith; few = few }) cut) decided)
          | inr header ↦
              let is_open : IsOpen state left = record { some = omega arith; few = few } in
              let more : IsOpen state (left ++ rest) =
              record { some = omega (arith, length-append left rest); few = few } in
              let same = captured_in-append state left rest header in
              elim (cases_lt max_captured (captured_in state left)) [
                | inl long ↦
                    next_of-too_long state (left ++ rest) more (omega (arith, length-append left rest))
                    (omega (arith, same))
                    ∙ sym (ap (λ n. with_more n rest) (next_of-too_long state left is_open header long))
                | inr lawful ↦ elim (cases_lt (length left) (record_header_len + captured_in state left)) [
                  | inl short ↦ absurd (subst IsDecided
                      (next_of-short state left is_open header lawful short) decided)
                  | inr whole ↦ record-append state left rest is_open header lawful whole
                ]
              ]
        ]
      ]
    ]

-- a header and as many bytes as it says are a record, and nothing is after it
pub next_of-whole : (state : CaptureState) (header captured : List ℕ) → state.count < max_records →
    length header ≡ record_header_len →
    length captured ≡ captured_in state header → captured_in state header ≤ max_captured →
    next_of state (header ++ captured) ≡ Record (record_of state captured) []
next_of-whole state header captured few front fits lawful =
    let same = captured_in-append state header captured (omega (arith, front)) in
    let len = captured_in state header in
    let both : length (header ++ captured) ≡ record_header_len + len = length-append header captured
    ∙ omega (arith, front, fits) in
    let is_open : IsOpen state (header ++ captured) = record { some = omega (arith, both); few = few } in
    next_of-record state (header ++ captured) is_open (omega (arith, both)) (omega (arith, same))
    (omega (arith, same, both))
    ∙ ap (λ n. Record (record_of state (take n (drop record_header_len (header ++ captured))))
    (drop (record_header_len + n) (header ++ captured))) same
    ∙ ap (λ (l : List ℕ). Record (record_of state (take len l)) (drop (record_header_len + len) (header ++ captured)))
    (drop_at header captured record_header_len front)
    ∙ ap (λ (l : List ℕ). Record (record_of state l) (drop (record_header_len + len) (header ++ captured)))
    (take_all len captured (omega (arith, fits)))
    ∙ ap (λ (l : List ℕ). Record (record_of state captured) l) (drop_all (record_header_len + len) (header ++ captured)
    (omega (arith, both)))

-- a header and fewer bytes than it says are a cut record
pub next_of-part : (state : CaptureState) (header part : List ℕ) → state.count < max_records →
    length header ≡ record_header_len →
    length part < captured_in state header → captured_in state header ≤ max_captured →
    next_of state (header ++ part) ≡ Fault (RecordCut (state.count + 1))
next_of-part state header part few front less lawful =
    let same = captured_in-append state header part (omega (arith, front)) in
    let is_open : IsOpen state (header ++ part) =
    record { some = omega (arith, front, length-append header part); few = few } in
    next_of-short state (header ++ part) is_open (omega (arith, front, length-append header part))
    (omega (arith, same))
    (omega (arith, same, front, length-append header part))
