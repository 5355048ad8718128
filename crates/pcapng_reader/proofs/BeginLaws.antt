-- What a capture is whose first bytes were read.
use Rattle.std.proofs.Common.{◌≡◌, ℕ, ◌≤◌, List, [], ◌++◌, length, take, drop, Result, Ok, Err, true, false}
use Rattle.std.proofs.Common.{refl, sym, subst, ap, ◌∙◌, append-nil, length-drop, length-take, arith}
use Rattle.std.specs.Prelude.{Bool}
use Rattle.std.proofs.lemmas.List.{drop_all, drop_at, take-append-drop}
use Rattle.pcap_reader.specs.declared.capture_fault.CaptureFault.{CaptureFault}
use Rattle.pcap_reader.specs.declared.capture_fault.CaptureFault.TheVariants.{HeaderCut, ReadFault}
use Rattle.pcap_reader.specs.declared.start.Start.{Start}
use Rattle.pcap_reader.specs.Start.{start_of as savefile_start, file_header_len}
use Rattle.pcap_reader.specs.State.{begun as begun_savefile}
use Rattle.pcap_reader.specs.Reader as savefile_reader
use Rattle.pcap_reader.proofs.Offered.{capture_of-read as savefile-read}
use Rattle.pcapng_reader.specs.Capture.{AnyState, Savefile, Blocks, begun_blocks, capture_of, is_blocks, records_from}
use Rattle.pcapng_reader.specs.Capture.{records_in, section_bytes, whole_records}
use Rattle.pcapng_reader.specs.Reader.{IsStart, start_len, start_of}
use Rattle.pcapng_reader.proofs.CaptureLaws.{savefile-records}
use Rattle.pcapng_reader.proofs.StartLaws.{blocks-append, start_blocks, start_savefile, start-take, len_cases}

-- where the first bytes say a fault, the capture is that fault
pub start-fault : (bytes : List ℕ) (fault : CaptureFault) → start_of bytes ≡ Err fault → capture_of bytes ≡ Err fault
start-fault bytes fault is = by_format (is_blocks bytes) refl
  where
    by_header : is_blocks bytes ≡ false → (r : Result Start CaptureFault) → savefile_start bytes ≡ r →
        capture_of bytes ≡ Err fault
    by_header isnt (Ok start) says = absurd (let e = sym (start_savefile bytes isnt (Ok start) says) ∙ is in cc)
    by_header isnt (Err other) says =
        let same : other ≡ fault = (let e = sym (start_savefile bytes isnt (Err other) says) ∙ is in cc) in
        rw (isnt, says) (ap Err same)

    by_format : (blocks : Bool) → is_blocks bytes ≡ blocks → capture_of bytes ≡ Err fault
    by_format false isnt = by_header isnt (savefile_start bytes) refl
    by_format true is_so = absurd (let e = sym (start_blocks bytes is_so) ∙ is in cc)

-- a capture whose first bytes have a fault has no record
start_none : (bytes : List ℕ) (fault : CaptureFault) → start_of bytes ≡ Err fault → whole_records bytes ≡ []
start_none bytes fault is = ap records_in (start-fault bytes fault is)

-- what a capture is whose header was read, and nothing after it
pub capture-read : (header rest : List ℕ) (state : AnyState) → IsStart header [] (Ok state) →
    capture_of (header ++ rest) ≡ Ok (records_from state rest)
capture-read header rest state is = by_format (is_blocks header) refl
  where
    there : start_len state ≤ length header
    there = len_cases state header is.0

    len : length header ≡ start_len state
    len = omega (arith, there, ap length is.1, length-drop (start_len state) header)

    by_header : is_blocks header ≡ false → (r : Result Start CaptureFault) → savefile_start header ≡ r →
        capture_of (header ++ rest) ≡ Ok (records_from state rest)
    by_header isnt (Err fault) says = absurd (let e = sym (start_savefile header isnt (Err fault) says) ∙ is.0 in cc)
    by_header isnt (Ok start) says =
        let same : Savefile (begun_savefile start) ≡ state =
        (let e = sym (start_savefile header isnt (Ok start) says) ∙ is.0 in cc) in
        let all : length header ≡ file_header_len = subst (λ s. length header ≡ start_len s) (sym same) len in
        let is_start : savefile_reader.IsStart header [] (Ok start) =
        (says, sym (drop_all file_header_len header (omega (arith, all)))) in
        rw (blocks-append header rest (omega (arith, all)) ∙ isnt)
        (savefile-read header rest start is_start
        ∙ ap Ok (sym (savefile-records (begun_savefile start) rest))
        ∙ ap (λ s. Ok (records_from s rest)) same)

    by_format : (blocks : Bool) → is_blocks header ≡ blocks → capture_of (header ++ rest) ≡ Ok (records_from state rest)
    by_format false isnt = by_header isnt (savefile_start header) refl
    by_format true is_so =
        let same : Blocks (begun_blocks section_bytes) ≡ state =
        (let e = sym (start_blocks header is_so) ∙ is.0 in cc) in
        let four : length header ≡ 4 = subst (λ s. length header ≡ start_len s) (sym same) len in
        rw (blocks-append header rest (omega (arith, four)) ∙ is_so)
        (ap (λ (l : List ℕ). Ok (records_from (Blocks (begun_blocks section_bytes)) l)) (drop_at header rest 4 four)
        ∙ ap (λ s. Ok (records_from s rest)) same)

-- bytes whose first say a fault have no records
pub whole-none : (header : List ℕ) (fault : CaptureFault) → IsStart header [] (Err fault) → whole_records header ≡ []
whole-none header ReadFault is =
    let front : header ≡ is.front = is.parts ∙ append-nil is.front in
    start_none header HeaderCut (ap start_of front ∙ is.no_whole)
whole-none header fault is = start_none header fault is

-- what a whole file is whose first bytes say what follows
pub capture-start : (file : List ℕ) (state : AnyState) → start_of file ≡ Ok state →
    capture_of file ≡ Ok (records_from state (drop (start_len state) file))
capture-start file state says =
    let len = start_len state in
    let there = len_cases state file says in
    let front : List ℕ = take len file in
    let has : length front ≡ len = omega (arith, there, length-take len file) in
    let alone : start_of front ≡ Ok state = start-take file state says in
    ap capture_of (sym (take-append-drop len file))
    ∙ capture-read front (drop len file) state (alone, sym (drop_all len front (omega (arith, has))))
