-- What the first bytes of a file say, and that bytes after them change nothing.
use Rattle.std.proofs.Common.{◌≡◌, ◌≢◌, ℕ, ◌<◌, ◌≤◌, List, [], ◌++◌, length, take, drop, Option, Some, None}
use Rattle.std.proofs.Common.{Result, Ok, Err, inl, inr}
use Rattle.std.proofs.Common.{refl, sym, subst, ap, ◌∙◌, append-nil, length-append, length-take}
use Rattle.std.proofs.Common.{length-drop, arith, true, false}
use Rattle.std.specs.Prelude.{Bool}
use Rattle.std.specs.Str.{bytes_eq}
use Rattle.std.proofs.lemmas.Slice.Eq.{bytes_eq-Decides}
use Rattle.std.proofs.lemmas.Bool.{cases_lt, lt-leb, le-leb, false≢true}
use Rattle.std.proofs.lemmas.List.{take_all, drop_at, drop_all, take-append-drop, take-append-le}
use Rattle.acl_outside.specs.Fault.{Rose}
use Rattle.acl_outside.specs.Told.{Changes}
use Rattle.acl_outside.specs.Desk.{Content, DeskView, Gives}
use Rattle.acl_outside.specs.DeskReading.{ReadsOn}
use Rattle.acl_outside.proofs.Offered.{ReadsOn-then}
use Rattle.pcap_reader.specs.declared.capture_fault.CaptureFault.{CaptureFault}
use Rattle.pcap_reader.specs.declared.capture_fault.CaptureFault.TheVariants.{HeaderCut, ReadFault}
use Rattle.pcap_reader.specs.declared.start.Start.{Start}
use Rattle.pcap_reader.specs.Start.{start_of as savefile_start, file_header_len}
use Rattle.pcap_reader.specs.State.{begun as begun_savefile}
use Rattle.pcap_reader.specs.Reader as savefile
use Rattle.pcap_reader.specs.Fill.{KeepsReading, IsAtEnd, Fills}
use Rattle.pcap_reader.proofs.Offered.{KeepsReading-join, Rose-later, reads-full, reads-short}
use Rattle.pcapng_reader.specs.Capture.{AnyState, Savefile, Blocks, begun_blocks, first_of, is_blocks, section_bytes}
use Rattle.pcap_reader.specs.declared.state.Progress.TheVariants as progress
use Rattle.pcapng_reader.specs.Reader.{IsStart, ReadsStart, after_start, is_cut_start, start_len, start_of}
use Rattle.pcapng_reader.specs.Reader.{count_of, progress_of}

-- what the header of a savefile says, as a state of the reader
abbrev pub savefile_says : Result Start CaptureFault → Result AnyState CaptureFault
savefile_says (Ok start) = Ok (Savefile (begun_savefile start))
savefile_says (Err fault) = Err fault

-- the first four bytes tell the format
pub start_blocks : (bytes : List ℕ) → is_blocks bytes ≡ true → start_of bytes ≡ Ok (Blocks (begun_blocks section_bytes))
start_blocks bytes is = rw is refl

-- a file that isn't of blocks begins as a savefile
pub start_savefile : (bytes : List ℕ) → is_blocks bytes ≡ false → (r : Result Start CaptureFault) →
    savefile_start bytes ≡ r → start_of bytes ≡ savefile_says r
start_savefile bytes isnt (Ok start) says = rw (isnt, says) refl
start_savefile bytes isnt (Err fault) says = rw (isnt, says) refl

-- and they stay whatever stands after them
pub blocks-append : (bytes more : List ℕ) → 4 ≤ length bytes → is_blocks (bytes ++ more) ≡ is_blocks bytes
blocks-append bytes more there = ap (λ l. bytes_eq l section_bytes) (take-append-le 4 bytes more there)

-- fewer bytes are no blocks
short_blocks : (bytes : List ℕ) → length bytes < 4 → is_blocks bytes ≡ false
short_blocks bytes short = go (is_blocks bytes) refl
  where
    go : (b : Bool) → is_blocks bytes ≡ b → b ≡ false
    go true is =
        let all : take 4 bytes ≡ section_bytes = (bytes_eq-Decides (take 4 bytes) section_bytes).0 is in
        absurd (omega (arith, short, ap length all, length-take 4 bytes))
    go false is = refl

-- the first four bytes are the type of a section
blocks_are : (bytes : List ℕ) → bytes ≡ section_bytes → is_blocks bytes ≡ true
blocks_are bytes is =
    (bytes_eq-Decides (take 4 bytes) section_bytes).1
    (take_all 4 bytes (omega (arith, ap length is)) ∙ is)

-- four other bytes than those of a section don't begin a file of blocks
blocks_arent : (bytes : List ℕ) → length bytes ≡ 4 → bytes ≢ section_bytes → is_blocks bytes ≡ false
blocks_arent bytes four isnt = go (is_blocks bytes) refl
  where
    go : (b : Bool) → is_blocks bytes ≡ b → b ≡ false
    go true is =
        absurd (isnt (sym (take_all 4 bytes (omega (arith, four)))
        ∙ (bytes_eq-Decides (take 4 bytes) section_bytes).0 is))
    go false is = refl

-- what a whole file header says is said by its own bytes
header-append : (bytes more : List ℕ) → file_header_len ≤ length bytes →
    savefile_start (bytes ++ more) ≡ savefile_start bytes
header-append bytes more there =
    rw (
      le-leb file_header_len (length (bytes ++ more)) (omega (arith, there, length-append bytes more)),
      le-leb file_header_len (length bytes) there,
      take-append-le file_header_len bytes more there,
    ) refl

-- a header of a savefile is cut if there are fewer bytes than it has
header-cut : (bytes : List ℕ) → length bytes < file_header_len → savefile_start bytes ≡ Err HeaderCut
header-cut bytes cut = rw (lt-leb file_header_len (length bytes) cut) refl

-- bytes that are no cut header say the same with more after them
pub start-append : (bytes more : List ℕ) → start_of bytes ≢ Err HeaderCut → start_of (bytes ++ more) ≡ start_of bytes
start-append bytes more isnt = by_format (is_blocks bytes) refl
  where
    by_header : is_blocks bytes ≡ false → file_header_len ≤ length bytes → start_of (bytes ++ more) ≡ start_of bytes
    by_header isnt there =
        start_savefile (bytes ++ more) (blocks-append bytes more (omega (arith, there)) ∙ isnt) (savefile_start bytes)
        (header-append bytes more there)
        ∙ sym (start_savefile bytes isnt (savefile_start bytes) refl)

    by_format : (blocks : Bool) → is_blocks bytes ≡ blocks → start_of (bytes ++ more) ≡ start_of bytes
    by_format true is_so = elim (cases_lt (length bytes) 4) [
      | inl short ↦ absurd (false≢true (sym (short_blocks bytes short) ∙ is_so))
      | inr long ↦ start_blocks (bytes ++ more) (blocks-append bytes more long ∙ is_so) ∙ sym (start_blocks bytes is_so)
    ]
    by_format false apart = elim (cases_lt (length bytes) file_header_len) [
      | inl cut ↦ absurd (isnt (start_savefile bytes apart (Err HeaderCut) (header-cut bytes cut)))
      | inr there ↦ by_header apart there
    ]

-- what is left after what says so, where nothing was read after it
pub len_cases : (state : AnyState) (bytes : List ℕ) → start_of bytes ≡ Ok state → start_len state ≤ length bytes
len_cases state bytes says = by_format (is_blocks bytes) refl
  where
    by_header : is_blocks bytes ≡ false → (r : Result Start CaptureFault) → savefile_start bytes ≡ r →
        start_len state ≤ length bytes
    by_header isnt (Err fault) is = absurd (let e = sym (start_savefile bytes isnt (Err fault) is) ∙ says in cc)
    by_header isnt (Ok start) is = elim (cases_lt (length bytes) file_header_len) [
      | inl cut ↦ absurd (let e = sym (header-cut bytes cut) ∙ is in cc)
      | inr there ↦
          let same : Savefile (begun_savefile start) ≡ state = (let e = sym (start_savefile bytes isnt (Ok start) is)
          ∙ says in cc) in
          subst (λ s. start_len s ≤ length bytes) same there
    ]

    by_format : (blocks : Bool) → is_blocks bytes ≡ blocks → start_len state ≤ length bytes
    by_format false isnt = by_header isnt (savefile_start bytes) refl
    by_format true is_so = elim (cases_lt (length bytes) 4) [
      | inl short ↦ absurd (false≢true (sym (short_blocks bytes short) ∙ is_so))
      | inr long ↦
          let same : Blocks (begun_blocks section_bytes) ≡ state = (let e = sym (start_blocks bytes is_so) ∙ says in
          cc) in
          subst (λ s. start_len s ≤ length bytes) same long
    ]

-- a reader that has begun has read four bytes of a block at most
pub start-first : (bytes : List ℕ) (state : AnyState) → start_of bytes ≡ Ok state → length (first_of state) < 12
start-first bytes state says = by_format (is_blocks bytes) refl
  where
    by_header : is_blocks bytes ≡ false → (r : Result Start CaptureFault) → savefile_start bytes ≡ r →
        length (first_of state) < 12
    by_header isnt (Err fault) is = absurd (let e = sym (start_savefile bytes isnt (Err fault) is) ∙ says in cc)
    by_header isnt (Ok start) is =
        let same : Savefile (begun_savefile start) ≡ state =
        (let e = sym (start_savefile bytes isnt (Ok start) is) ∙ says in cc) in
        subst (λ s. length (first_of s) < 12) same (omega arith)

    by_format : (blocks : Bool) → is_blocks bytes ≡ blocks → length (first_of state) < 12
    by_format false isnt = by_header isnt (savefile_start bytes) refl
    by_format true is_so =
        let same : Blocks (begun_blocks section_bytes) ≡ state = (let e = sym (start_blocks bytes is_so) ∙ says in cc)
        in
        subst (λ s. length (first_of s) < 12) same (omega arith)

-- and it has given no record, and no call of it has ended or failed
pub start-begun : (bytes : List ℕ) (state : AnyState) → start_of bytes ≡ Ok state →
    (count_of state ≡ 0) × (progress_of state ≡ progress.Reading)
start-begun bytes state says = by_format (is_blocks bytes) refl
  where
    by_header : is_blocks bytes ≡ false → (r : Result Start CaptureFault) → savefile_start bytes ≡ r →
        (count_of state ≡ 0) × (progress_of state ≡ progress.Reading)
    by_header isnt (Err fault) is = absurd (let e = sym (start_savefile bytes isnt (Err fault) is) ∙ says in cc)
    by_header isnt (Ok start) is =
        let same : Savefile (begun_savefile start) ≡ state =
        (let e = sym (start_savefile bytes isnt (Ok start) is) ∙ says in cc) in
        subst (λ s. (count_of s ≡ 0) × (progress_of s ≡ progress.Reading)) same (refl, refl)

    by_format : (blocks : Bool) → is_blocks bytes ≡ blocks →
        (count_of state ≡ 0) × (progress_of state ≡ progress.Reading)
    by_format false isnt = by_header isnt (savefile_start bytes) refl
    by_format true is_so =
        let same : Blocks (begun_blocks section_bytes) ≡ state = (let e = sym (start_blocks bytes is_so) ∙ says in cc)
        in
        subst (λ s. (count_of s ≡ 0) × (progress_of s ≡ progress.Reading)) same (refl, refl)

-- the bytes that it has read ahead, and then what is left, are the end of the file
pub start-left : (bytes : List ℕ) (state : AnyState) → start_of bytes ≡ Ok state →
    (n : ℕ) × (first_of state ++ drop (start_len state) bytes ≡ drop n bytes)
start-left bytes state says = by_format (is_blocks bytes) refl
  where
    by_header : is_blocks bytes ≡ false → (r : Result Start CaptureFault) → savefile_start bytes ≡ r →
        (n : ℕ) × (first_of state ++ drop (start_len state) bytes ≡ drop n bytes)
    by_header isnt (Err fault) is = absurd (let e = sym (start_savefile bytes isnt (Err fault) is) ∙ says in cc)
    by_header isnt (Ok start) is =
        let same : Savefile (begun_savefile start) ≡ state =
        (let e = sym (start_savefile bytes isnt (Ok start) is) ∙ says in cc) in (
          file_header_len,
          subst (λ s. first_of s ++ drop (start_len s) bytes ≡ drop file_header_len bytes) same refl,
        )

    by_format : (blocks : Bool) → is_blocks bytes ≡ blocks →
        (n : ℕ) × (first_of state ++ drop (start_len state) bytes ≡ drop n bytes)
    by_format false isnt = by_header isnt (savefile_start bytes) refl
    by_format true is_so =
        let same : Blocks (begun_blocks section_bytes) ≡ state = (let e = sym (start_blocks bytes is_so) ∙ says in cc)
        in
        let all : take 4 bytes ≡ section_bytes = (bytes_eq-Decides (take 4 bytes) section_bytes).0 is_so in (
          0,
          subst (λ s. first_of s ++ drop (start_len s) bytes ≡ bytes) same
              (ap (λ (l : List ℕ). l ++ drop 4 bytes) (sym all) ∙ take-append-drop 4 bytes),
        )

-- what is said by a file is said by the first bytes alone
pub start-take : (bytes : List ℕ) (state : AnyState) → start_of bytes ≡ Ok state →
    start_of (take (start_len state) bytes) ≡ Ok state
start-take bytes state says = by_format (is_blocks bytes) refl
  where
    by_header : is_blocks bytes ≡ false → (r : Result Start CaptureFault) → savefile_start bytes ≡ r →
        start_of (take (start_len state) bytes) ≡ Ok state
    by_header isnt (Err fault) is = absurd (let e = sym (start_savefile bytes isnt (Err fault) is) ∙ says in cc)
    by_header isnt (Ok start) is = elim (cases_lt (length bytes) file_header_len) [
      | inl cut ↦ absurd (let e = sym (header-cut bytes cut) ∙ is in cc)
      | inr there ↦
          let same : Savefile (begun_savefile start) ≡ state =
          (let e = sym (start_savefile bytes isnt (Ok start) is) ∙ says in cc) in
          let front : List ℕ = take file_header_len bytes in
          let len : length front ≡ file_header_len = omega (arith, there, length-take file_header_len bytes) in
          let parts : front ++ drop file_header_len bytes ≡ bytes = take-append-drop file_header_len bytes in
          let fronted : is_blocks front ≡ false =
          sym (blocks-append front (drop file_header_len bytes) (omega (arith, len)))
          ∙ ap is_blocks parts ∙ isnt in
          let header : savefile_start front ≡ Ok start =
          sym (header-append front (drop file_header_len bytes) (omega (arith, len)))
          ∙ ap savefile_start parts ∙ is in
          subst (λ s. start_of (take (start_len s) bytes) ≡ Ok s) same (start_savefile front fronted (Ok start) header)
    ]

    by_format : (blocks : Bool) → is_blocks bytes ≡ blocks → start_of (take (start_len state) bytes) ≡ Ok state
    by_format false isnt = by_header isnt (savefile_start bytes) refl
    by_format true is_so =
        let same : Blocks (begun_blocks section_bytes) ≡ state = (let e = sym (start_blocks bytes is_so) ∙ says in cc)
        in
        let all : take 4 bytes ≡ section_bytes = (bytes_eq-Decides (take 4 bytes) section_bytes).0 is_so in
        subst (λ s. start_of (take (start_len s) bytes) ≡ Ok s) same (start_blocks (take 4 bytes) (blocks_are (take 4
        bytes) all))

-- what was left began with what was given
told_start : (result : Result AnyState CaptureFault) (given : List ℕ) (old new : Option Content) →
    IsStart given [] result → (result ≡ Err HeaderCut → (content : Content) → new ≡ Some content → content.left ≡ []) →
    Changes (Gives given) old new → Changes (λ was is. IsStart was.left is.left result) old new
told_start result given None None is end step = tt
told_start result given None (Some now) is end step = absurd step
told_start result given (Some was) None is end step = absurd step
told_start (Ok state) given (Some was) (Some now) is end step =
    let none : drop (start_len state) given ≡ [] = sym is.1 in
    let there = len_cases state given is.0 in
    let all : length given ≡ start_len state =
    omega (arith, there, ap length none, length-drop (start_len state) given) in (
      ap start_of step.left ∙ start-append given now.left (λ e. absurd (let f = sym e ∙ is.0 in cc)) ∙ is.0,
      sym (ap (drop (start_len state)) step.left ∙ drop_at given now.left (start_len state) all),
    )
told_start (Err ReadFault) given (Some was) (Some now) is end step = record {
  front = given;
  parts = step.left;
  no_whole = ap start_of (is.parts ∙ append-nil is.front) ∙ is.no_whole;
}
told_start (Err HeaderCut) given (Some was) (Some now) is end step =
    ap start_of (step.left ∙ ap (λ (l : List ℕ). given ++ l) (end refl now refl) ∙ append-nil given) ∙ is
told_start (Err fault) given (Some was) (Some now) is end step =
    ap start_of step.left ∙ start-append given now.left (λ e. absurd (let f = sym e ∙ is in cc)) ∙ is

-- the first bytes, and what they say
ReadsStart-is : (result : Result AnyState CaptureFault) (given : List ℕ) (old new : DeskView) →
    ReadsOn (after_start result) given old new → IsStart given [] result → (is_cut_start result ≡ true → IsAtEnd new) →
    (result ≡ Err ReadFault → Rose old.read_faults new.read_faults) → KeepsReading old new →
    ReadsStart old new result
ReadsStart-is result given old new reads is end rose keeps = record {
  given = given;
  reads = reads;
  answer = is;
  told = told_start result given old.content new.content is (λ e. end (ap is_cut_start e)) reads.told;
  end = end;
  read_fault = rose;
  keeps = keeps;
}

-- fewer than four bytes are a cut header
pub ReadsStart-short : {E : Type 0} (before part : List ℕ) (count : ℕ) (old new : DeskView) → length before ≡ 4 →
    count < 4 → Fills {E = E} before part old new (Ok count) → ReadsStart old new (Err HeaderCut)
ReadsStart-short before part count old new room less filled =
    let given : List ℕ = take count part in
    let short : length given < 4 = omega (arith, less, length-take count part) in
    let fewer : count < length before = omega (arith, less, room) in
    ReadsStart-is (Err HeaderCut) given old new (reads-short (length before) count given old new fewer filled.reads)
    (start_savefile given (short_blocks given short) (Err HeaderCut) (header-cut given (omega (arith, short))))
    (λ e. filled.end fewer) (λ e. absurd (cc)) filled.keeps

-- nor are those before a read that failed
pub ReadsStart-failed : {E : Type 0} (fault : E) (before part : List ℕ) (old new : DeskView) → length before ≡ 4 →
    Fills before part old new (Err fault) → ReadsStart old new (Err ReadFault)
ReadsStart-failed fault before part old new room filled =
    let broken = filled.breaks_off in
    let short : length broken.bytes < 4 = omega (arith, broken.few, room) in
    ReadsStart-is (Err ReadFault) broken.bytes old new broken.reads
    record {
      front = broken.bytes;
      parts = sym (append-nil broken.bytes);
      no_whole = start_savefile broken.bytes (short_blocks broken.bytes short) (Err HeaderCut)
          (header-cut broken.bytes (omega (arith, short)));
    }
    (λ e. absurd (false≢true e)) (λ e. filled.cause) filled.keeps

-- four bytes, which are the type of a section
pub ReadsStart-blocks : {E : Type 0} (before part : List ℕ) (old new : DeskView) → length before ≡ 4 →
    length part ≡ 4 → Fills {E = E} before part old new (Ok 4) → part ≡ section_bytes →
    ReadsStart old new (Ok (Blocks (begun_blocks section_bytes)))
ReadsStart-blocks before part old new room fits filled is =
    ReadsStart-is (Ok (Blocks (begun_blocks section_bytes))) part old new
    (rw (take_all 4 part (omega (arith, fits))) at
    (reads-full (length before) 4 (take 4 part) old new (omega (arith, room)) filled.reads))
    (start_blocks part (blocks_are part is), sym (drop_all 4 part (omega (arith, fits))))
    (λ e. absurd (false≢true e)) (λ e. absurd (cc)) filled.keeps

-- or aren't, and then what the rest of the header of a savefile says
pub ReadsStart-savefile : {E : Type 0} (before part : List ℕ) (result : Result Start CaptureFault)
    (old mid new : DeskView) → length before ≡ 4 → length part ≡ 4 → Fills {E = E} before part old mid (Ok 4) →
    part ≢ section_bytes → savefile.ReadsStart part mid new result → ReadsStart old new (savefile_says result)
ReadsStart-savefile before part result old mid new room fits filled isnt read =
    ReadsStart-is (savefile_says result) (part ++ read.given) old new
    (change result (ReadsOn-then (savefile.after_start result) part read.given old mid new
    (rw (take_all 4 part (omega (arith, fits))) at
    (reads-full (length before) 4 (take 4 part) old mid (omega (arith, room)) filled.reads)) read.reads))
    (is_start result read.answer) (cut result read.end)
    (λ e. Rose-later old mid new filled.keeps (read.read_fault (fault_is result e)))
    (KeepsReading-join old mid new filled.keeps read.keeps)
  where
    given : List ℕ
    given = part ++ read.given

    no_blocks : (more : List ℕ) → is_blocks (part ++ more) ≡ false
    no_blocks more = blocks-append part more (omega (arith, fits)) ∙ blocks_arent part fits isnt

    change : (r : Result Start CaptureFault) → ReadsOn (savefile.after_start r) (part ++ read.given) old new →
        ReadsOn (after_start (savefile_says r)) (part ++ read.given) old new
    change (Ok start) reads = reads
    change (Err fault) reads = reads

    is_start : (r : Result Start CaptureFault) → savefile.IsStart (part ++ read.given) [] r →
        IsStart (part ++ read.given) [] (savefile_says r)
    is_start (Ok start) is = (start_savefile (part ++ read.given) (no_blocks read.given) (Ok start) is.0, is.1)
    is_start (Err ReadFault) is =
        let front : part ++ read.given ≡ is.front = is.parts ∙ append-nil is.front in
        record {
          front = is.front;
          parts = is.parts;
          no_whole = start_savefile is.front (ap is_blocks (sym front) ∙ no_blocks read.given) (Err HeaderCut)
              is.no_whole;
        }
    is_start (Err fault) is = start_savefile (part ++ read.given) (no_blocks read.given) (Err fault) is

    cut : (r : Result Start CaptureFault) → (savefile.is_cut_start r ≡ true → IsAtEnd new) →
        is_cut_start (savefile_says r) ≡ true → IsAtEnd new
    cut (Ok start) end e = end e
    cut (Err fault) end e = end e

    fault_is : (r : Result Start CaptureFault) → savefile_says r ≡ Err ReadFault → r ≡ Err ReadFault
    fault_is (Ok start) e = absurd (cc)
    fault_is (Err fault) e = (let same : fault ≡ ReadFault = cc in ap Err same)
