-- What all answers of a reader come to.
use Rattle.std.proofs.Common.{◌≡◌, ℕ, List, [], ◌∷◌, ◌++◌, All, length, drop, true, Some, None, Ok, Err, inl, inr, refl, sym, subst, ap, ◌∙◌, append-nil, arith, length-drop}
use Rattle.std.specs.List.{concat}
use Rattle.std.proofs.lemmas.Bool.{cases_lt, lt-leb, false≢true}
use Rattle.std.proofs.lemmas.List.{drop_at}
use Rattle.std.proofs.lemmas.List.Elements.{All-nil, All-cons}
use Rattle.pcap_reader.specs.declared.capture_fault.CaptureFault.{CaptureFault}
use Rattle.pcap_reader.specs.declared.capture_fault.CaptureFault.TheVariants.{HeaderCut, ReadFault}
use Rattle.pcap_reader.specs.declared.link.Link.{Link}
use Rattle.pcap_reader.specs.declared.start.Start.{Start}
use Rattle.pcap_reader.specs.Start.{start_of, start_in, file_header_len}
use Rattle.pcap_reader.specs.declared.state.CaptureState.{CaptureState}
use Rattle.pcap_reader.specs.State.{Answer, CaptureRecord, begun, state_after}
use Rattle.pcap_reader.specs.Capture.{Record, next_of, followed_by, records_from, capture_of, whole_records}
use Rattle.pcap_reader.specs.Reader.{HasNoRecord, IsNext, IsStart}
use Rattle.pcap_reader.specs.Answers.{AreAnswersTo, AreAnswersOn, onto_given, records_given, have_ending, recorded_by}
use Rattle.pcap_reader.proofs.NextLaws.{next_of-append, with_more, IsDecided}
use Rattle.pcap_reader.proofs.CaptureLaws.{state_next, next_cases, next_of-link, HasLink, records_from-record, records_from-end, records_from-fault}
use Rattle.pcap_reader.proofs.StartLaws.{start_of-append}

-- where what stands next has no record, the bytes have none
pub no_records : (state : CaptureState) (left : List ℕ) → HasNoRecord (next_of state left) →
    (records_from state left).records ≡ []
no_records state left none =
    elim (next_cases (next_of state left)) [
      | inl ends ↦ rw (records_from-end state left ends) refl
      | inr (inl whole) ↦ absurd (subst HasNoRecord whole.2 none)
      | inr (inr fails) ↦ rw (records_from-fault state left fails.0 fails.1) refl
    ]

-- A record in front of what the later answers come to.
pub with_record : (state : CaptureState) (given : List ℕ) (captured : CaptureRecord) (rest : List ℕ) →
    next_of state given ≡ Record captured [] →
    records_from state (given ++ rest) ≡ followed_by (captured ∷ []) (records_from (state_next state captured) rest)
with_record state given captured rest next =
    let more = next_of-append state given rest (subst IsDecided (sym next) tt)
    ∙ ap (λ n. with_more n rest) next in
    records_from-record state (given ++ rest) captured rest more

-- without a later answer no byte is in the pieces that are left
last_piece : (pieces : List (List ℕ)) (later : List Answer) (state : CaptureState) → later ≡ [] →
    AreAnswersTo state pieces later → concat pieces ≡ []
last_piece [] later state none answers = refl
last_piece (given ∷ pieces) [] state none answers = absurd answers
last_piece (given ∷ pieces) (answer ∷ later) state none answers = absurd (cc)

-- after the last answer nothing was given
only_piece : (given : List ℕ) (pieces : List (List ℕ)) (later : List Answer) (state : CaptureState) → later ≡ [] →
    AreAnswersTo state pieces later → given ++ concat pieces ≡ given
only_piece given pieces later state none answers =
    ap (λ (l : List ℕ). given ++ l) (last_piece pieces later state none answers) ∙ append-nil given

-- a fault is the answer to bytes with no record
pub unanswered : (state : CaptureState) (given : List ℕ) (fault : CaptureFault) →
    IsNext state given [] (Err fault) → HasNoRecord (next_of state given)
unanswered state given ReadFault breaks =
    subst (λ l. HasNoRecord (next_of state l)) (sym (breaks.parts ∙ append-nil breaks.front)) breaks.no_whole
unanswered state given fault fails = subst HasNoRecord (sym fails) tt

-- the records of the answers are those of the bytes
pub records_of_answers : (state : CaptureState) (pieces : List (List ℕ)) (answers : List Answer) →
    AreAnswersTo state pieces answers →
    (records_from state (concat pieces)).records ≡ records_given answers
records_of_answers state [] [] answers = refl
records_of_answers state [] (answer ∷ later) answers = absurd answers
records_of_answers state (given ∷ pieces) [] answers = absurd answers
records_of_answers state (given ∷ pieces) (Ok (Some captured) ∷ later) answers =
    rw (with_record state given captured (concat pieces) answers.0)
    (ap (λ rest. onto_given (Ok (Some captured)) rest)
    (records_of_answers (state_next state captured) pieces later answers.2))
records_of_answers state (given ∷ pieces) (Ok None ∷ later) answers =
    rw (only_piece given pieces later (state_after state (Ok None)) answers.1 answers.2)
    (rw (records_from-end state given answers.0.0) refl)
records_of_answers state (given ∷ pieces) (Err fault ∷ later) answers =
    rw (only_piece given pieces later (state_after state (Err fault)) answers.1 answers.2)
    (no_records state given (unanswered state given fault answers.0))

-- a file header that was read as a whole, and nothing more, has its length
header_len : (header : List ℕ) (start : Start) → IsStart header [] (Ok start) → length header ≡ file_header_len
header_len header start is =
    elim (cases_lt (length header) file_header_len) [
      | inl short ↦
          let cut : start_of header ≡ Err HeaderCut = rw (lt-leb file_header_len (length header) short) refl in
          absurd (cc)
      | inr long ↦ omega (arith, ap length is.1, length-drop file_header_len header)
    ]

-- what a capture is whose header was read
pub capture_of-read : (header rest : List ℕ) (start : Start) → IsStart header [] (Ok start) →
    capture_of (header ++ rest) ≡ Ok (records_from (begun start) rest)
capture_of-read header rest start is =
    let len = header_len header start is in
    let alone : start_of header ≡ start_in header = ap start_of (sym (append-nil header))
    ∙ start_of-append header [] len in
    let says : start_of (header ++ rest) ≡ Ok start = start_of-append header rest len ∙ sym alone ∙ is.0 in
    rw says (ap (λ l. Ok (records_from (begun start) l)) (drop_at header rest file_header_len len))

-- the whole records of a header and what was given after it
pub whole_records-answers : (header : List ℕ) (start : Start) (pieces : List (List ℕ)) (answers : List Answer) →
    IsStart header [] (Ok start) →
    AreAnswersTo (begun start) pieces answers →
    whole_records (header ++ concat pieces) ≡ records_given answers
whole_records-answers header start pieces answers is to =
    rw (capture_of-read header (concat pieces) start is) (records_of_answers (begun start) pieces answers to)

-- the answers that end are the whole capture
pub recorded_by_answers : (state : CaptureState) (pieces : List (List ℕ)) (answers : List Answer) →
    AreAnswersTo state pieces answers →
    have_ending answers ≡ true → records_from state (concat pieces) ≡ recorded_by answers
recorded_by_answers state [] [] answers ends = absurd (false≢true ends)
recorded_by_answers state [] (answer ∷ later) answers ends = absurd answers
recorded_by_answers state (given ∷ pieces) [] answers ends = absurd answers
recorded_by_answers state (given ∷ pieces) (Ok (Some captured) ∷ []) answers ends = absurd (false≢true ends)
recorded_by_answers state (given ∷ pieces) (Ok (Some captured) ∷ next ∷ later) answers ends =
    rw (with_record state given captured (concat pieces) answers.0)
    (ap (followed_by (captured ∷ []))
    (recorded_by_answers (state_next state captured) pieces (next ∷ later) answers.2 ends))
recorded_by_answers state (given ∷ pieces) (Ok None ∷ later) answers ends =
    let none = answers.1 in
    let alone = only_piece given pieces later (state_after state (Ok None)) none answers.2 in
    rw (alone, none) (records_from-end state given answers.0.0)
recorded_by_answers state (given ∷ pieces) (Err ReadFault ∷ later) answers ends =
    absurd (false≢true (rw answers.1 at ends))
recorded_by_answers state (given ∷ pieces) (Err fault ∷ later) answers ends =
    let alone = only_piece given pieces later (state_after state (Err fault)) answers.1 answers.2 in
    rw (alone, answers.1) (records_from-fault state given fault answers.0)

-- what a capture is that was answered to its ending
pub capture_of-answers : (header : List ℕ) (start : Start) (pieces : List (List ℕ)) (answers : List Answer) →
    IsStart header [] (Ok start) →
    AreAnswersTo (begun start) pieces answers → have_ending answers ≡ true →
    capture_of (header ++ concat pieces) ≡ Ok (recorded_by answers)
capture_of-answers header start pieces answers is to ends =
    capture_of-read header (concat pieces) start is
    ∙ ap (λ r. Ok r) (recorded_by_answers (begun start) pieces answers to ends)

-- what was left is what the answers on it come to, where they end
recorded_by_answers_on : (state : CaptureState) (left : List ℕ) (answers : List Answer) →
    AreAnswersOn state left answers →
    have_ending answers ≡ true → records_from state left ≡ recorded_by answers
recorded_by_answers_on state left [] on ends = absurd (false≢true ends)
recorded_by_answers_on state left (Ok (Some captured) ∷ []) on ends = absurd (false≢true ends)
recorded_by_answers_on state left (Ok (Some captured) ∷ next ∷ later) on ends =
    records_from-record state left captured on.0 on.1
    ∙ ap (followed_by (captured ∷ []))
    (recorded_by_answers_on (state_next state captured) on.0 (next ∷ later) on.3 ends)
recorded_by_answers_on state left (Ok None ∷ later) on ends = rw on.2 (records_from-end state left on.1.0)
recorded_by_answers_on state left (Err ReadFault ∷ later) on ends = absurd (false≢true (rw on.2 at ends))
recorded_by_answers_on state left (Err fault ∷ later) on ends =
    rw on.2 (records_from-fault state left fault on.1)

-- what a told file is that was answered to its ending
pub capture_of-answers_on : (file : List ℕ) (start : Start) (answers : List Answer) → start_of file ≡ Ok start →
    AreAnswersOn (begun start) (drop file_header_len file) answers → have_ending answers ≡ true →
    capture_of file ≡ Ok (recorded_by answers)
capture_of-answers_on file start answers says on ends =
    rw says (ap (λ r. Ok r) (recorded_by_answers_on (begun start) (drop file_header_len file) answers on ends))

-- a file header with a fault has no records after it
pub whole_records-none : (header : List ℕ) (fault : CaptureFault) → IsStart header [] (Err fault) →
    whole_records header ≡ []
whole_records-none header ReadFault breaks =
    let front : header ≡ breaks.front = breaks.parts ∙ append-nil breaks.front in
    rw (ap start_of front ∙ breaks.no_whole) refl
whole_records-none header fault says = rw says refl

-- each record that is an answer has the link type of the file header
pub records_given-link : (state : CaptureState) (link : Link) (pieces : List (List ℕ)) (answers : List Answer) →
    state.start.link ≡ link → AreAnswersTo state pieces answers →
    All (λ captured. captured.link ≡ link) (records_given answers)
records_given-link state link [] [] is answers = All-nil (λ captured. captured.link ≡ link)
records_given-link state link [] (answer ∷ later) is answers = absurd answers
records_given-link state link (given ∷ pieces) [] is answers = absurd answers
records_given-link state link (given ∷ pieces) (Ok (Some captured) ∷ later) is answers =
    All-cons (λ r. r.link ≡ link) captured (records_given later)
    (subst (HasLink state.start.link) answers.0 (next_of-link state given) ∙ is)
    (records_given-link (state_next state captured) link pieces later is answers.2)
records_given-link state link (given ∷ pieces) (Ok None ∷ later) is answers =
    All-nil (λ captured. captured.link ≡ link)
records_given-link state link (given ∷ pieces) (Err fault ∷ later) is answers =
    All-nil (λ captured. captured.link ≡ link)
