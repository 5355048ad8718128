-- What the calls of a reader promise, from what was read.
use Rattle.std.proofs.Common.{◌≡◌, ℕ, List, [], ◌++◌, Option, Some, None, Ok, Err, inl, true}
use Rattle.std.proofs.Common.{false}
use Rattle.std.proofs.Common.{refl, sym, subst, ap, ◌∙◌, append-nil}
use Rattle.std.proofs.lemmas.Bool.{false≢true}
use Rattle.acl_outside.specs.Told.{Changes}
use Rattle.acl_outside.specs.Desk.{Content, DeskView, Gives}
use Rattle.acl_outside.specs.Heard.{Ending, GoesOn, Ended, BrokenOff}
use Rattle.acl_outside.specs.DeskReading.{ReadsOn}
use Rattle.pcap_reader.specs.declared.capture_fault.CaptureFault.TheVariants.{HeaderCut, RecordCut, PngCut, ReadFault}
use Rattle.pcap_reader.specs.declared.state.CaptureState.{CaptureState}
use Rattle.pcap_reader.specs.declared.state.Progress.{Progress}
use Rattle.pcap_reader.specs.declared.state.Progress.TheVariants as progress
use Rattle.pcap_reader.specs.Capture as savefile
use Rattle.pcap_reader.specs.Reader as savefile_reader
use Rattle.pcap_reader.specs.State.{Answer, state_after}
use Rattle.pcap_reader.specs.ReaderStates.{has_ended}
use Rattle.pcapng_reader.specs.Block.{BlockState}
use Rattle.pcapng_reader.specs.Capture.{AnyState, Savefile, Blocks, Record, next_of, with_state}
use Rattle.pcapng_reader.specs.Packets.{Finds, Counts}
use Rattle.pcapng_reader.specs.Reader.{AnswerStands, GoesTo, HasNoRecord, IsEnd, IsNext, TakesNext}
use Rattle.pcapng_reader.specs.Reader.{progress_of}
use Rattle.pcapng_reader.specs.BlockReading.{stands}
use Rattle.pcapng_reader.proofs.NextLaws.{IsDecidedNext, next_more, next-append}

-- all that was left was given
all_given : (given : List ℕ) (was now : Content) → Gives given was now → now.left ≡ [] → was.left ≡ given
all_given given was now gives none =
    gives.left ∙ ap (λ (l : List ℕ). given ++ l) none ∙ append-nil given

-- what was left began with what was given
pub told_next : (answer : Answer) (before now : AnyState) (given : List ℕ) (ending : Ending) (old new : Option
    Content) →
    IsNext before now given [] answer → AnswerStands answer ending →
    (ending ≡ Ended → (content : Content) → new ≡ Some content → content.left ≡ []) → Changes (Gives given) old new →
    Changes (λ was is. IsNext before now was.left is.left answer) old new
told_next answer before now given ending None None is stood end step = tt
told_next answer before now given ending None (Some later) is stood end step = absurd step
told_next answer before now given ending (Some was) None is stood end step = absurd step
told_next (Ok None) before now given ending (Some was) (Some later) is stood end step =
    let none = end stood later refl in
    (subst (λ l. IsEnd (next_of before l)) (sym (all_given given was later step none)) is.0, none)
told_next (Ok (Some captured)) before now given ending (Some was) (Some later) is stood end step =
    ap (next_of before) step.left
    ∙ next-append before given later.left (subst IsDecidedNext (sym is) tt)
    ∙ ap (λ n. next_more n later.left) is
told_next (Err ReadFault) before now given ending (Some was) (Some later) is stood end step = record {
  front = given;
  parts = step.left;
  no_whole = subst (λ l. HasNoRecord (next_of before l)) (sym (is.parts ∙ append-nil is.front)) is.no_whole;
}
told_next (Err HeaderCut) before now given ending (Some was) (Some later) is stood end step =
    ap (next_of before) (all_given given was later step (end stood later refl)) ∙ is
told_next (Err (RecordCut n)) before now given ending (Some was) (Some later) is stood end step =
    ap (next_of before) (all_given given was later step (end stood later refl)) ∙ is
told_next (Err (PngCut n)) before now given ending (Some was) (Some later) is stood end step =
    ap (next_of before) (all_given given was later step (end stood later refl)) ∙ is
told_next (Err fault) before now given ending (Some was) (Some later) is stood end step =
    ap (next_of before) step.left
    ∙ next-append before given later.left (subst IsDecidedNext (sym is) tt)
    ∙ ap (λ n. next_more n later.left) is

-- What a reader of blocks shows after it found a packet or none.
abbrev pub ShowsAfter : BlockState → BlockState → Answer → Type 0
ShowsAfter found now (Ok None) = now ≡ record found { progress = progress.Ended }
ShowsAfter found now (Ok (Some captured)) = now ≡ found
ShowsAfter found now (Err fault) = now ≡ record found { progress = progress.Failed }

-- the state counts only where there is a record
is_next_by : (answer : Answer) (before : AnyState) (found now : BlockState) (given : List ℕ) →
    ShowsAfter found now answer → IsNext before (Blocks found) given [] answer → IsNext before (Blocks now) given []
    answer
is_next_by (Ok None) before found now given shows is = is
is_next_by (Ok (Some captured)) before found now given shows is =
    is ∙ ap (λ s. Record captured (Blocks s) []) (sym shows)
is_next_by (Err ReadFault) before found now given shows is = is
is_next_by (Err fault) before found now given shows is = is

-- a reader of blocks that shows so, and counted so, goes to that state
goes_to_by : (answer : Answer) (before found now : BlockState) → ShowsAfter found now answer → Counts before found
    answer →
    GoesTo (Blocks before) (Blocks now) answer
goes_to_by (Ok None) before found now shows counts =
    (ap (λ s. s.progress) shows, ap (λ s. s.count) shows ∙ counts.0)
goes_to_by (Ok (Some captured)) before found now shows counts =
    (ap (λ s. s.progress) shows ∙ counts.1, ap (λ s. s.count) shows ∙ counts.0)
goes_to_by (Err fault) before found now shows counts =
    (ap (λ s. s.progress) shows, ap (λ s. s.count) shows ∙ counts.0)

-- the next packet was found, or none
pub TakesNext-found : (before found now : BlockState) (old new : DeskView) (answer : Answer) →
    has_ended before.progress ≡ false → Finds before found old new answer → ShowsAfter found now answer →
    TakesNext (Blocks before) (Blocks now) old new answer
TakesNext-found before found now old new answer unended finds shows = (
  (λ ended. absurd (false≢true (sym unended ∙ ended))),
  λ e.
      let next = is_next_by answer (Blocks before) found now finds.given shows finds.next in
      record {
        given = finds.given;
        ending = finds.ending;
        stood = finds.stood;
        reads = finds.reads;
        next = next;
        state = goes_to_by answer before found now shows finds.counts;
        told = told_next answer (Blocks before) (Blocks now) finds.given finds.ending old.content new.content next
            finds.stood finds.end finds.reads.told;
        end = finds.end;
        read_fault = finds.read_fault;
        keeps = finds.keeps;
      },
)

-- all packets were given before
pub TakesNext-ended : (state : AnyState) (view : DeskView) → has_ended (progress_of state) ≡ true →
    TakesNext state state view view (Ok None)
TakesNext-ended state view ended = ((λ e. (refl, refl, refl)), λ e. absurd (false≢true (sym e ∙ ended)))

-- how the reading stands after an answer of a savefile
abbrev ending_by : Answer → Ending
ending_by (Ok None) = Ended
ending_by (Ok (Some captured)) = GoesOn
ending_by (Err HeaderCut) = Ended
ending_by (Err (RecordCut n)) = Ended
ending_by (Err (PngCut n)) = Ended
ending_by (Err ReadFault) = BrokenOff
ending_by (Err fault) = GoesOn

-- the reading stands so after the answer
stands_by : (answer : Answer) → AnswerStands answer (ending_by answer)
stands_by (Ok None) = refl
stands_by (Ok (Some captured)) = refl
stands_by (Err HeaderCut) = refl
stands_by (Err (RecordCut n)) = refl
stands_by (Err (PngCut n)) = refl
stands_by (Err ReadFault) = refl
stands_by (Err fault) = inl refl

-- a reading that stands by the answer of a savefile stands so
reads_by : (answer : Answer) (given : List ℕ) (old new : DeskView) →
    ReadsOn (savefile_reader.after_next answer) given old new → ReadsOn (stands (ending_by answer)) given old new
reads_by (Ok None) given old new reads = reads
reads_by (Ok (Some captured)) given old new reads = reads
reads_by (Err HeaderCut) given old new reads = reads
reads_by (Err (RecordCut n)) given old new reads = reads
reads_by (Err (PngCut n)) given old new reads = reads
reads_by (Err ReadFault) given old new reads = reads
reads_by (Err fault) given old new reads = reads

-- if the reading has ended, the answer met the end
meets_by : (answer : Answer) → ending_by answer ≡ Ended → savefile_reader.meets_end answer ≡ true
meets_by (Ok None) e = refl
meets_by (Ok (Some captured)) e = absurd (cc)
meets_by (Err HeaderCut) e = refl
meets_by (Err (RecordCut n)) e = refl
meets_by (Err (PngCut n)) e = refl
meets_by (Err ReadFault) e = absurd (cc)
meets_by (Err fault) e = absurd (cc)

-- what is no record of a savefile is none of a capture
no_record : (next : savefile.Next) (state : CaptureState) → savefile_reader.HasNoRecord next →
    HasNoRecord (with_state state next)
no_record savefile.End state none = tt
no_record (savefile.Record captured after) state none = absurd none
no_record (savefile.Fault fault) state none = tt

-- an answer to what stands next in a savefile is one in a capture
savefile_next : (answer : Answer) (before now : CaptureState) (given : List ℕ) →
    now ≡ state_after before answer → savefile_reader.IsNext before given [] answer →
    IsNext (Savefile before) (Savefile now) given [] answer
savefile_next (Ok None) before now given shows is =
    (subst IsEnd (sym (ap (with_state before) is.0)) tt, refl)
savefile_next (Ok (Some captured)) before now given shows is =
    ap (with_state before) is ∙ ap (λ s. Record captured (Savefile s) []) (sym shows)
savefile_next (Err ReadFault) before now given shows is = record {
  front = is.front;
  parts = is.parts;
  no_whole = no_record (savefile.next_of before is.front) before is.no_whole;
}
savefile_next (Err fault) before now given shows is = ap (with_state before) is

-- the reader of a savefile goes to the state after its answer
savefile_goes : (answer : Answer) (before now : CaptureState) → now ≡ state_after before answer →
    GoesTo (Savefile before) (Savefile now) answer
savefile_goes (Ok None) before now shows = (ap (λ s. s.progress) shows, ap (λ s. s.count) shows)
savefile_goes (Ok (Some captured)) before now shows = (ap (λ s. s.progress) shows, ap (λ s. s.count) shows)
savefile_goes (Err fault) before now shows = (ap (λ s. s.progress) shows, ap (λ s. s.count) shows)

-- a reader that has ended is at the end
ended_is : (p : Progress) → has_ended p ≡ true → p ≡ progress.Ended
ended_is progress.Reading e = absurd (false≢true e)
ended_is progress.Ended e = refl
ended_is progress.Failed e = absurd (false≢true e)

-- the next record of a savefile was taken
pub TakesNext-savefile : (before now : CaptureState) (old new : DeskView) (answer : Answer) →
    savefile_reader.TakesNext before old new answer → now ≡ state_after before answer →
    TakesNext (Savefile before) (Savefile now) old new answer
TakesNext-savefile before now old new answer takes shows = (
  (λ ended.
      let same = takes.0 ended in (
        same.0,
        same.1,
        ap Savefile
            (shows ∙ ap (state_after before) same.0
            ∙ ap (λ (p : Progress). let s : CaptureState = record before { progress = p } in s)
            (sym (ended_is before.progress ended))),
      )),
  λ unended.
      let reads = takes.1 unended in
      let next = savefile_next answer before now reads.given shows reads.next in
      let on = reads_by answer reads.given old new reads.reads in
      record {
        given = reads.given;
        ending = ending_by answer;
        stood = stands_by answer;
        reads = on;
        next = next;
        state = savefile_goes answer before now shows;
        told = told_next answer (Savefile before) (Savefile now) reads.given (ending_by answer) old.content new.content
            next (stands_by answer) (λ e. reads.end (meets_by answer e)) on.told;
        end = λ e. reads.end (meets_by answer e);
        read_fault = reads.read_fault;
        keeps = reads.keeps;
      },
)
