-- What all answers of a reader come to.
use Rattle.std.proofs.Common.{◌≡◌, ℕ, ◌<◌, List, [], ◌∷◌, ◌++◌, length, true, Some, None, Ok, Err}
use Rattle.std.proofs.Common.{refl, sym, subst, ap, ◌∙◌, append-nil, drop, arith}
use Rattle.std.specs.List.{concat}
use Rattle.std.proofs.lemmas.Bool.{false≢true}
use Rattle.pcap_reader.specs.declared.capture_fault.CaptureFault.{CaptureFault}
use Rattle.pcap_reader.specs.declared.capture_fault.CaptureFault.TheVariants.{ReadFault}
use Rattle.pcap_reader.specs.Answers.{onto_given, records_given, have_ending, recorded_by}
use Rattle.pcap_reader.specs.State.{Answer, CaptureRecord}
use Rattle.pcapng_reader.specs.Answers.{AreAnswersTo, AreAnswersOn}
use Rattle.pcapng_reader.specs.Capture.{AnyState, Next, End, Record, Fault, next_of, followed_by, records_from}
use Rattle.pcapng_reader.specs.Capture.{Savefile, Blocks, capture_of, first_of, records_in, whole_records}
use Rattle.pcapng_reader.specs.Reader.{HasNoRecord, IsEnd, IsNext, IsStart, start_of, start_len}
use Rattle.pcapng_reader.proofs.NextLaws.{IsDecidedNext, next_more, next-append, FirstNone, next-first, short_next}
use Rattle.pcapng_reader.proofs.StartLaws.{start-first}
use Rattle.pcapng_reader.proofs.CaptureLaws.{records-record, records-end, records-fault, records-none}
use Rattle.pcapng_reader.proofs.BeginLaws.{capture-read, capture-start}

-- a record in front of what the later answers come to
with_record : (state : AnyState) (given : List ℕ) (captured : CaptureRecord) (now : AnyState) (rest : List ℕ) →
    next_of state given ≡ Record captured now [] →
    records_from state (given ++ rest) ≡ followed_by (captured ∷ []) (records_from now rest)
with_record state given captured now rest next =
    records-record state (given ++ rest) captured now rest
    (next-append state given rest (subst IsDecidedNext (sym next) tt) ∙ ap (λ n. next_more n rest) next)

-- the end has no records
at_end : (state : AnyState) (left : List ℕ) → IsEnd (next_of state left) →
    records_from state left ≡ record { records = []; fault = None }
at_end state left ends = go (next_of state left) refl
  where
    go : (n : Next) → next_of state left ≡ n → records_from state left ≡ record { records = []; fault = None }
    go (End later) is = records-end state left later is
    go (Record captured now after) is = absurd (subst IsEnd is ends)
    go (Fault fault) is = absurd (subst IsEnd is ends)

-- after the last answer nothing was given
last_piece : (pieces : List (List ℕ)) (later : List Answer) (state : AnyState) → later ≡ [] →
    AreAnswersTo state pieces later → concat pieces ≡ []
last_piece [] later state none answers = refl
last_piece (given ∷ pieces) [] state none answers = absurd answers
last_piece (given ∷ pieces) (answer ∷ later) state none answers = absurd (cc)

-- without a later answer no byte comes after those that were given
only_piece : (given : List ℕ) (pieces : List (List ℕ)) (later : List Answer) (state : AnyState) → later ≡ [] →
    AreAnswersTo state pieces later → given ++ concat pieces ≡ given
only_piece given pieces later state none answers =
    ap (λ (l : List ℕ). given ++ l) (last_piece pieces later state none answers) ∙ append-nil given

-- a fault is the answer to bytes with no record
pub unanswered : (state now : AnyState) (given : List ℕ) (fault : CaptureFault) →
    IsNext state now given [] (Err fault) → HasNoRecord (next_of state given)
unanswered state now given ReadFault breaks =
    subst (λ l. HasNoRecord (next_of state l)) (sym (breaks.parts ∙ append-nil breaks.front)) breaks.no_whole
unanswered state now given fault fails = subst HasNoRecord (sym fails) tt

-- a reader that gave a record has read no bytes of the next block
first_none : (state : AnyState) (left : List ℕ) (captured : CaptureRecord) (now : AnyState) (after : List ℕ) →
    next_of state left ≡ Record captured now after → first_of now ≡ []
first_none state left captured now after is = subst FirstNone is (next-first state left)

-- fewer bytes than a block has are no record
pub records-nothing : (state : AnyState) → length (first_of state) < 12 → (records_from state []).records ≡ []
records-nothing (Savefile state) few = ap (λ r. r.records) (records-end (Savefile state) [] (Savefile state) refl)
records-nothing (Blocks state) few = go (next_of (Blocks state) []) refl
  where
    go : (n : Next) → next_of (Blocks state) [] ≡ n → (records_from (Blocks state) []).records ≡ []
    go (End later) is = ap (λ r. r.records) (records-end (Blocks state) [] later is)
    go (Fault fault) is = ap (λ r. r.records) (records-fault (Blocks state) [] fault is)
    go (Record captured now after) is =
        absurd (subst HasNoRecord is (short_next state (omega (arith, few, ap length (append-nil state.first)))))

-- the records of the answers are those of the bytes
pub records_of_answers : (state : AnyState) (pieces : List (List ℕ)) (answers : List Answer) →
    length (first_of state) < 12 → AreAnswersTo state pieces answers →
    (records_from state (concat pieces)).records ≡ records_given answers
records_of_answers state [] [] few answers = records-nothing state few
records_of_answers state [] (answer ∷ later) few answers = absurd answers
records_of_answers state (given ∷ pieces) [] few answers = absurd answers
records_of_answers state (given ∷ pieces) (Ok (Some captured) ∷ later) few answers =
    let first = first_none state given captured answers.0 [] answers.1 in
    ap (λ r. r.records) (with_record state given captured answers.0 (concat pieces) answers.1)
    ∙ ap (λ rest. onto_given (Ok (Some captured)) rest)
    (records_of_answers answers.0 pieces later (omega (arith, ap length first)) answers.3)
records_of_answers state (given ∷ pieces) (Ok None ∷ later) few answers =
    ap (λ l. (records_from state l).records) (only_piece given pieces later answers.0 answers.2 answers.3)
    ∙ ap (λ r. r.records) (at_end state given answers.1.0)
records_of_answers state (given ∷ pieces) (Err fault ∷ later) few answers =
    ap (λ l. (records_from state l).records) (only_piece given pieces later answers.0 answers.2 answers.3)
    ∙ records-none state given (unanswered state answers.0 given fault answers.1)

-- the answers that end are the whole capture
pub recorded_by_answers : (state : AnyState) (pieces : List (List ℕ)) (answers : List Answer) →
    AreAnswersTo state pieces answers → have_ending answers ≡ true →
    records_from state (concat pieces) ≡ recorded_by answers
recorded_by_answers state [] [] answers ends = absurd (false≢true ends)
recorded_by_answers state [] (answer ∷ later) answers ends = absurd answers
recorded_by_answers state (given ∷ pieces) [] answers ends = absurd answers
recorded_by_answers state (given ∷ pieces) (Ok (Some captured) ∷ []) answers ends = absurd (false≢true ends)
recorded_by_answers state (given ∷ pieces) (Ok (Some captured) ∷ next ∷ later) answers ends =
    with_record state given captured answers.0 (concat pieces) answers.1
    ∙ ap (followed_by (captured ∷ [])) (recorded_by_answers answers.0 pieces (next ∷ later) answers.3 ends)
recorded_by_answers state (given ∷ pieces) (Ok None ∷ later) answers ends =
    rw (only_piece given pieces later answers.0 answers.2 answers.3, answers.2) (at_end state given answers.1.0)
recorded_by_answers state (given ∷ pieces) (Err ReadFault ∷ later) answers ends =
    absurd (false≢true (rw answers.2 at ends))
recorded_by_answers state (given ∷ pieces) (Err fault ∷ later) answers ends =
    rw (only_piece given pieces later answers.0 answers.2 answers.3, answers.2)
    (records-fault state given fault answers.1)

-- what was left is what the answers on it come to, where they end
recorded_by_answers_on : (state : AnyState) (left : List ℕ) (answers : List Answer) →
    AreAnswersOn state left answers → have_ending answers ≡ true → records_from state left ≡ recorded_by answers
recorded_by_answers_on state left [] on ends = absurd (false≢true ends)
recorded_by_answers_on state left (Ok (Some captured) ∷ []) on ends = absurd (false≢true ends)
recorded_by_answers_on state left (Ok (Some captured) ∷ next ∷ later) on ends =
    records-record state left captured on.0 on.1 on.2
    ∙ ap (followed_by (captured ∷ [])) (recorded_by_answers_on on.0 on.1 (next ∷ later) on.4 ends)
recorded_by_answers_on state left (Ok None ∷ later) on ends = rw on.3 (at_end state left on.2.0)
recorded_by_answers_on state left (Err ReadFault ∷ later) on ends = absurd (false≢true (rw on.3 at ends))
recorded_by_answers_on state left (Err fault ∷ later) on ends = rw on.3 (records-fault state left fault on.2)

-- a reader that has begun has read four bytes of a block at most
first_few : (header : List ℕ) (state : AnyState) → IsStart header [] (Ok state) → length (first_of state) < 12
first_few header state is = start-first header state is.0

-- the whole records of a header and what was given after it
pub whole_answers : (header : List ℕ) (state : AnyState) (pieces : List (List ℕ)) (answers : List Answer) →
    IsStart header [] (Ok state) → AreAnswersTo state pieces answers →
    whole_records (header ++ concat pieces) ≡ records_given answers
whole_answers header state pieces answers is to =
    ap records_in (capture-read header (concat pieces) state is)
    ∙ records_of_answers state pieces answers (first_few header state is) to

-- what a capture is that was answered to its ending
pub capture_answers : (header : List ℕ) (state : AnyState) (pieces : List (List ℕ)) (answers : List Answer) →
    IsStart header [] (Ok state) → AreAnswersTo state pieces answers → have_ending answers ≡ true →
    capture_of (header ++ concat pieces) ≡ Ok (recorded_by answers)
capture_answers header state pieces answers is to ends =
    capture-read header (concat pieces) state is ∙ ap Ok (recorded_by_answers state pieces answers to ends)

-- what a told file is that was answered to its ending
pub capture_answers_on : (file : List ℕ) (state : AnyState) (answers : List Answer) → start_of file ≡ Ok state →
    AreAnswersOn state (drop (start_len state) file) answers → have_ending answers ≡ true →
    capture_of file ≡ Ok (recorded_by answers)
capture_answers_on file state answers says on ends =
    capture-start file state says
    ∙ ap Ok (recorded_by_answers_on state (drop (start_len state) file) answers on ends)
