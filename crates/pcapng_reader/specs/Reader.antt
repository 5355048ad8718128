-- What the calls of a reader of captures promise of the opened file.
use Rattle.std.specs.Prelude.{◌≡◌, ℕ, ◌+◌, List, [], drop, Bool, true, false, Option, Some, None, ⊤}
use Rattle.std.specs.Prelude.{Result, Ok, Err, if◌then◌else◌}
use Rattle.std.specs.Borrow.{Bor}
use Rattle.acl_outside.specs.Fault.{Rose}
use Rattle.acl_outside.specs.Told.{Changes}
use Rattle.acl_outside.specs.Desk.{DeskView}
use Rattle.acl_outside.specs.Heard.{Heard, Ending, GoesOn, Ended}
use Rattle.acl_outside.specs.DeskReading.{ReadsOn, and_goes_on}
use Rattle.pcap_reader.specs.declared.capture_fault.BeginFault.{BeginFault}
use Rattle.pcap_reader.specs.declared.capture_fault.BeginFault.TheVariants as begin_faults
use Rattle.pcap_reader.specs.declared.capture_fault.CaptureFault.{CaptureFault}
use Rattle.pcap_reader.specs.declared.capture_fault.CaptureFault.TheVariants.{HeaderCut, ReadFault}
use Rattle.pcap_reader.specs.declared.link.Link.{Link}
use Rattle.pcap_reader.specs.declared.state.Progress.{Progress}
use Rattle.pcap_reader.specs.declared.state.Progress.TheVariants as progress
use Rattle.pcap_reader.specs.Fill.{KeepsReading, IsAtEnd}
use Rattle.pcap_reader.specs.Reader.{BreaksOffAt, after_fault, is_cut}
use Rattle.pcap_reader.specs.Start.{◌>>=◌, start_of as savefile_start, file_header_len}
use Rattle.pcap_reader.specs.State.{Answer, begun as begun_savefile}
use Rattle.pcap_reader.specs.ReaderStates.{has_ended}
use Rattle.pcapng_reader.specs.Capture.{AnyState, Savefile, Blocks, Next, End, Record, Fault}
use Rattle.pcapng_reader.specs.BlockReading.{FaultStands, stands}
use Rattle.pcapng_reader.specs.Capture.{begun_blocks, is_blocks, next_of, section_bytes}

-- how many records were given
abbrev pub count_of : AnyState → ℕ
count_of (Savefile state) = state.count
count_of (Blocks state) = state.count

-- whether more records are to come
abbrev pub progress_of : AnyState → Progress
progress_of (Savefile state) = state.progress
progress_of (Blocks state) = state.progress

-- Nothing stands next.
abbrev pub IsEnd : Next → Type 0
IsEnd (End state) = ⊤
IsEnd (Record captured state after) = ⊥
IsEnd (Fault fault) = ⊥

-- These bytes begin with no whole record.
abbrev pub HasNoRecord : Next → Type 0
HasNoRecord (End state) = ⊤
HasNoRecord (Record captured state after) = ⊥
HasNoRecord (Fault fault) = ⊤

-- An answer to what stands next in a state of the reader, which leads to another, where `left` was
-- left before it and `after` after it.
abbrev pub IsNext : AnyState → AnyState → List ℕ → List ℕ → Answer → Type 0
IsNext before now left after (Ok None) = IsEnd (next_of before left) × (after ≡ [])
IsNext before now left after (Ok (Some captured)) =
    next_of before left ≡ Record captured now after
IsNext before now left after (Err ReadFault) =
    BreaksOffAt (λ front. HasNoRecord (next_of before front)) left after
IsNext before now left after (Err fault) = next_of before left ≡ Fault fault

-- The reader has ended or has failed, as the answer says, or goes on.
abbrev pub GoesTo : AnyState → AnyState → Answer → Type 0
GoesTo before now (Ok None) =
    (progress_of now ≡ progress.Ended) × (count_of now ≡ count_of before)
GoesTo before now (Ok (Some captured)) =
    (progress_of now ≡ progress_of before) × (count_of now ≡ count_of before + 1)
GoesTo before now (Err fault) =
    (progress_of now ≡ progress.Failed) × (count_of now ≡ count_of before)

-- The reading of the file stands so after an answer.
abbrev pub AnswerStands : Answer → Ending → Type 0
AnswerStands (Ok None) ending = ending ≡ Ended
AnswerStands (Ok (Some captured)) ending = ending ≡ GoesOn
AnswerStands (Err fault) ending = FaultStands fault ending

-- All that a call of `next` promises of the opened file where records are still to come. The answer
-- is that of the bytes which the desk gave in this call, and of all that was left, where that is
-- told.
pub record ReadsNext (before now : AnyState) (old new : DeskView) (answer : Answer) : Type 0 where
  pub given : List ℕ
  pub ending : Ending
  pub stood : AnswerStands answer ending
  pub reads : ReadsOn (stands ending) given old new
  pub next : IsNext before now given [] answer
  pub state : GoesTo before now answer
  pub told : Changes (λ was is. IsNext before now was.left is.left answer) old.content new.content
  pub end : ending ≡ Ended → IsAtEnd new
  pub read_fault : answer ≡ Err ReadFault → Rose old.read_faults new.read_faults
  pub keeps : KeepsReading old new

-- A call of `next`: at the end it asks for nothing.
abbrev pub TakesNext : AnyState → AnyState → DeskView → DeskView → Answer → Type 0
TakesNext before now old new answer =
    (has_ended (progress_of before) ≡ true → (answer ≡ Ok None) × (new ≡ old) × (now ≡ before))
    × (has_ended (progress_of before) ≡ false → ReadsNext before now old new answer)

-- an answer of the code: a link type with a reference to the captured bytes, the end, or a fault
abbrev pub Lent : Type 0
Lent = Result (Option (Link × Bor (List ℕ))) CaptureFault

-- the same with the captured bytes in place of a reference to them
abbrev pub answer_of : Lent → Answer
answer_of (Ok None) = Ok None
answer_of (Ok (Some lent)) = Ok (Some (record { link = lent.0; bytes = lent.1.now }))
answer_of (Err fault) = Err fault

-- what the first bytes of a file say: that blocks follow, or what its file header says
abbrev pub start_of : List ℕ → Result AnyState CaptureFault
start_of bytes =
    if is_blocks bytes then Ok (Blocks (begun_blocks section_bytes))
    else (savefile_start bytes >>= λ start. Ok (Savefile (begun_savefile start)))

-- how many bytes say so
abbrev pub start_len : AnyState → ℕ
start_len (Savefile state) = file_header_len
start_len (Blocks state) = 4

-- an answer to "what do the first bytes of the file say"
abbrev pub IsStart : List ℕ → List ℕ → Result AnyState CaptureFault → Type 0
IsStart left after (Ok state) =
    (start_of left ≡ Ok state) × (after ≡ drop (start_len state) left)
IsStart left after (Err ReadFault) =
    BreaksOffAt (λ front. start_of front ≡ Err HeaderCut) left after
IsStart left after (Err fault) = start_of left ≡ Err fault

-- how the reading of the file stands after an answer
abbrev pub after_start : Result AnyState CaptureFault → Heard → Heard
after_start (Ok state) = and_goes_on
after_start (Err fault) = after_fault fault

-- the answer is a file header that the end of the file cuts
abbrev pub is_cut_start : Result AnyState CaptureFault → Bool
is_cut_start (Ok state) = false
is_cut_start (Err fault) = is_cut fault

-- All that the reading of a file's first bytes promises of the opened file, in the same way.
pub record ReadsStart (old new : DeskView) (result : Result AnyState CaptureFault) : Type 0 where
  pub given : List ℕ
  pub reads : ReadsOn (after_start result) given old new
  pub answer : IsStart given [] result
  pub told : Changes (λ was is. IsStart was.left is.left result) old.content new.content
  pub end : is_cut_start result ≡ true → IsAtEnd new
  pub read_fault : result ≡ Err ReadFault → Rose old.read_faults new.read_faults
  pub keeps : KeepsReading old new

-- All that `begin` promises: it asks for nothing where there is no memory, and else it is what the
-- first bytes say.
abbrev pub Begins : DeskView → DeskView → Result AnyState BeginFault → Type 0
Begins old new (Ok state) = ReadsStart old new (Ok state)
Begins old new (Err (begin_faults.Capture fault)) = ReadsStart old new (Err fault)
Begins old new (Err begin_faults.OutOfMemory) = new ≡ old
