-- How the report of a capture ends, by what was opened, read and put.
use Rattle.std.proofs.Common.{◌≡◌, ◌≢◌, ◌⊎◌, ℕ, ◌+◌, ◌≤◌, List, [], ◌∷◌, ◌++◌, length, true, false, Option, Some}
use Rattle.std.proofs.Common.{None, Result, Ok, Err, inl, inr, refl, sym, subst, ap, ◌∙◌, append_assoc, append-nil, arith}
use Rattle.std.proofs.lemmas.Bool.{false≢true}
use Rattle.std.specs.Option.{option_map_or}
use Rattle.acl_outside.specs.Fault.{Rose}
use Rattle.acl_outside.specs.Desk.{DeskView, OpensFile}
use Rattle.acl_outside.specs.Heard.{Ending, NotOpened, GoesOn, Ended, BrokenOff, heard, opening_of}
use Rattle.acl_outside.specs.Sink.{SinkView, Gains, GainsPrefix}
use Rattle.acl_outside.proofs.Offered.{ReadsOn-none, ReadsOn-then}
use Rattle.pcap_reader.specs.declared.capture_fault.CaptureFault.{CaptureFault}
use Rattle.pcap_reader.specs.declared.capture_fault.CaptureFault.TheVariants as faults
use Rattle.pcap_reader.specs.State.{CaptureRecord}
use Rattle.pcapng_reader.specs.Capture.{AnyState, Recorded, capture_of, records_from, whole_records, records_in}
use Rattle.pcapng_reader.specs.Reader.{ReadsStart}
use Rattle.pcapng_reader.specs.BlockReading.{stands}
use Rattle.pcap_reader.proofs.Offered.{KeepsReading-same, KeepsReading-join}
use Rattle.command_ending.specs.declared.status.Status.{Status}
use Rattle.command_ending.specs.declared.status.Status.TheVariants.{CaptureRefused, ReadFault, WriteFault, OutOfMemory}
use Rattle.capture_report.specs.ReportForm.{ReportForm}
use Rattle.capture_report.specs.Report.{lines_of_records, transitions_of_records}
use Rattle.command_ending.specs.Plan.{Outcome, Plan, Give, silent, found, settled}
use Rattle.command_ending.specs.Follow.{Given, Within, IsEnough, IsOpened, status_within}
use Rattle.command_ending.specs.Endings.{is_decided, is_usage}
use Rattle.capture_report.specs.CaptureOutcome.{refusal, report, report_of_capture, reported, lines_so_far}
use Rattle.capture_report.specs.CaptureOutcome.{text_of_records}
use Rattle.capture_report.specs.Shown.{status_of_fault}
use Rattle.command_ending.specs.StepEffects.{Outside, outside, earlier_of, Ends}
use Rattle.capture_report.specs.PrintsCapture.{KeepsUp, Reports}
use Rattle.capture_report.specs.Streams.{Reading, Whole, Part, records_read, text_of, IsUnbroken, AreRead, IsStatus}
use Rattle.capture_report.specs.Streams.{BreaksOffSoon, Streams}
use Rattle.command_ending.proofs.Offered.{Gains-none}
use Rattle.command_ending.proofs.Offered.{cannot_open}
use Rattle.command_ending.proofs.Offered.{unopened_kept, unopened_told, undecided_within, CannotRead-because}
use Rattle.capture_report.proofs.Hearing.{file_of, HearsFile, HearsFile-read, open_still, said-opened}
use Rattle.capture_report.proofs.Reader.{ReadHeader, RefusedHeader, RefusedHeader-from, BrokenHeader, BrokenHeader-from}

-- Only a part was read.
record PutsPart (lines : List ℕ) (ending : Ending) (old new : Outside) (status : Status) : Type 0 where
  ended : (status ≡ status_within ending) ⊎ ((status ≡ WriteFault) ⊎ (status ≡ OutOfMemory))
  text : status ≢ WriteFault → status ≢ OutOfMemory → Gains lines old.out new.out
  prefix : status ≡ WriteFault → GainsPrefix lines old.out new.out
  full : status ≡ OutOfMemory → Gains [] old.out new.out
  read_fault : status ≡ ReadFault → Rose old.desk.read_faults new.desk.read_faults
  write_fault : status ≡ WriteFault → Rose old.out.faults new.out.faults
  count : old.out.faults ≤ new.out.faults

-- such a status isn't decided
part_undecided : (status : Status) (ending : Ending) →
    (status ≡ status_within ending) ⊎ ((status ≡ WriteFault) ⊎ (status ≡ OutOfMemory)) →
    is_decided status ≡ true → ⊥
part_undecided status ending (inl within) decided =
    false≢true (sym (undecided_within ending) ∙ sym (ap is_decided within) ∙ decided)
part_undecided status ending (inr (inl write)) decided = false≢true (sym (ap is_decided write) ∙ decided)
part_undecided status ending (inr (inr full)) decided = false≢true (sym (ap is_decided full) ∙ decided)

-- a report of which a part was put ends by its plan
Ends-part : (form : ReportForm) (name given : List ℕ) (ending : Ending) (old new : Outside) (status : Status) →
    HearsFile name given ending old.desk new.desk → IsOpened ending →
    PutsPart (lines_so_far form given) ending old new status →
    Ends (reported form name) old new status
Ends-part form name given ending old new status h opened p = record {
  reached = Within (file_of name given ending) (lines_so_far form given);
  follows = inr (
    file_of name given ending,
    refl,
    h.told,
    inl (
      h.heard,
      ap (Within (file_of name given ending)) (said-opened ending (lines_so_far form given) opened),
    ),
  );
  ended = p.ended;
  text = p.text;
  prefix = p.prefix;
  out_of_memory = p.full;
  steps = λ decided. absurd (part_undecided status ending p.ended decided);
  made = λ decided. absurd (part_undecided status ending p.ended decided);
  broken = λ written. h.kept;
  unmade = λ fault. h.kept;
  read_fault = λ e. inl (p.read_fault e);
  write_fault = p.write_fault;
  absent = λ files told isnt. h.absent files told;
  opened = λ files told. open_still ending name new.desk opened (h.opened files told);
  kept = h.kept;
  count = p.count;
}

-- enough of a file was heard if further bytes change nothing
enough_from : {A : Type 0} (ending : Ending) (next : List ℕ → Plan A) (name given : List ℕ) → IsUnbroken ending →
    ((more : List ℕ) → (ending ≡ Ended → more ≡ []) → next (given ++ more) ≡ next given) →
    IsEnough next (file_of name given ending)
enough_from NotOpened next name given unbroken long = absurd unbroken
enough_from GoesOn next name given unbroken long = inr (refl, λ more. long more (λ e. absurd (cc)))
enough_from Ended next name given unbroken long = inl refl
enough_from BrokenOff next name given unbroken long = absurd unbroken

-- All was read that decides the outcome.
record PutsAll (outcome : Outcome) (old new : SinkView) (status : Status) : Type 0 where
  decided : is_decided outcome.status ≡ true
  lawful : is_usage outcome.status ≡ false
  puts : ((status ≡ outcome.status) × Gains outcome.text old new)
      ⊎ ((status ≡ WriteFault) × GainsPrefix outcome.text old new × Rose old.faults new.faults)
  count : old.faults ≤ new.faults

-- a report of which all was put has the status of its outcome, or a write fault
all_ended : (outcome : Outcome) (old new : SinkView) (status : Status) → PutsAll outcome old new status →
    (status ≡ outcome.status) ⊎ (status ≡ WriteFault)
all_ended outcome old new status p = elim p.puts [ inl done ↦ inl done.0 | inr failed ↦ inr failed.0 ]

-- then the status is decided, or a write fault
all_decided : (outcome : Outcome) (old new : SinkView) (status : Status) → PutsAll outcome old new status →
    status ≢ WriteFault → is_decided status ≡ true
all_decided outcome old new status p other =
    elim (all_ended outcome old new status p) [
      | inl same ↦ ap is_decided same
          ∙ p.decided
      | inr write ↦ absurd (other write)
    ]

-- a report makes no file
report_unmade : (form : ReportForm) (bytes : List ℕ) → (report form bytes).made ≡ None
report_unmade form bytes = go (capture_of bytes)
  where
    go : (capture : Result Recorded CaptureFault) → (report_of_capture form capture).made ≡ None
    go (Ok capture) = refl
    go (Err fault) = refl

-- a report of which all was put ends by its plan
Ends-whole : (form : ReportForm) (name given : List ℕ) (ending : Ending) (old new : Outside) (status : Status) →
    HearsFile name given ending old.desk new.desk → IsUnbroken ending →
    ((more : List ℕ) → (ending ≡ Ended → more ≡ []) → report form (given ++ more) ≡ report form given) →
    PutsAll (report form given) old.out new.out status → new.steps ≡ old.steps + (report form given).transitions →
    Ends (reported form name) old new status
Ends-whole form name given ending old new status h unbroken long p steps =
    let never : (is_decided status ≡ false) → status ≢ WriteFault → ⊥ =
    λ isnt other. false≢true (sym isnt ∙ all_decided (report form given) old.out new.out status p other) in
    record {
      reached = Given (report form given);
      follows = inr (
        file_of name given ending,
        refl,
        h.told,
        inr (
          enough_from ending (λ bytes. Give (report form bytes)) name given unbroken
              (λ more rest. ap Give (long more rest)),
          (h.heard, refl),
        ),
      );
      ended = elim p.puts [ inl done ↦ inl done.0 | inr failed ↦ inr (inl failed.0) ];
      text = λ other full. elim p.puts [ inl done ↦ done.1 | inr failed ↦ absurd (other failed.0) ];
      prefix = λ e. elim p.puts [
        | inl done ↦ absurd (false≢true (ap is_decided (sym e ∙ done.0) ∙ p.decided))
        | inr failed ↦ failed.1
      ];
      out_of_memory = λ e. absurd (never (ap is_decided e) (λ w. absurd (cc)));
      steps = λ decided. steps;
      made = λ decided. rw (report_unmade form given) h.kept;
      broken = λ written. rw (report_unmade form given) h.kept;
      unmade = λ fault. h.kept;
      read_fault = λ e. absurd (never (ap is_decided e) (λ w. absurd (cc)));
      write_fault = λ e. elim p.puts [
        | inl done ↦ absurd (false≢true (ap is_decided (sym e ∙ done.0) ∙ p.decided))
        | inr failed ↦ failed.2
      ];
      absent = λ files told isnt. h.absent files told;
      opened = λ files told. tt;
      kept = h.kept;
      count = p.count;
    }

-- the file can't be opened
pub Reports-unopened : {T E : Type 0} (form : ReportForm) (name : List ℕ) (old new : DeskView) (out : SinkView)
    (steps : ℕ) (e : E) →
    OpensFile {T = T} name old new (Err e) →
    Reports form name (outside old out steps) (outside new out steps) ReadFault
Reports-unopened form name old new out steps e opens = record {
  ends = record {
    reached = Within (opening_of name false) [];
    follows = inr (
      opening_of name false,
      refl,
      (λ files told opened. absurd opened),
      inl
          (ap heard opens.answer, refl),
    );
    ended = inl refl;
    text = λ other full. Gains-none out;
    prefix = λ w. absurd (cc);
    out_of_memory = λ full. absurd (cc);
    steps = λ decided. absurd (false≢true decided);
    made = λ decided. absurd (false≢true decided);
    broken = λ w. absurd (cc);
    unmade = λ fault. unopened_kept name old new e opens;
    read_fault = λ r.
        CannotRead-because _ _ old new
        (λ files told none.
        ap (λ o. (settled (option_map_or (λ bytes. found (Give (report form bytes)) files) o
        (Err ReadFault))).status) none)
        (cannot_open name old new opens.cause opens.there);
    write_fault = λ w. absurd (cc);
    absent = λ files told isnt. absurd (isnt refl);
    opened = λ files told. unopened_told old.content new.content opens.given_up files told;
    kept = unopened_kept name old new e opens;
    count = omega arith;
  };
  lawful = refl;
  opened = λ files told reported. absurd (false≢true reported);
  keeps_up = λ w. absurd (cc);
}

-- there is no memory to read the file
pub Reports-full : {T E : Type 0} (form : ReportForm) (name : List ℕ) (old mid new : DeskView) (out : SinkView)
    (steps : ℕ) (x : T) →
    OpensFile {E = E} name old mid (Ok x) → new ≡ mid →
    Reports form name (outside old out steps) (outside new out steps) OutOfMemory
Reports-full {T} {E} form name old mid new out steps x opens same =
    let h = HearsFile-read {E = E} name [] GoesOn old mid mid x opens (ReadsOn-none mid) (λ e. absurd (cc))
    (KeepsReading-same mid) in
    rw same
    record {
      ends = Ends-part form name [] GoesOn (outside old out steps) (outside mid out steps) OutOfMemory h tt
          record {
            ended = inr (inr refl);
            text = λ other full. absurd (full refl);
            prefix = λ w. absurd (cc);
            full = λ e. Gains-none out;
            read_fault = λ e. absurd (cc);
            write_fault = λ w. absurd (cc);
            count = omega arith;
          };
      lawful = refl;
      opened = λ files told reported. absurd (false≢true reported);
      keeps_up = λ w. absurd (cc);
    }

-- the file header has a fault
header_refused : {T E : Type 0} (form : ReportForm) (name : List ℕ) (fault : CaptureFault) (old mid : DeskView)
    (new : Outside) (x : T) → OpensFile {E = E} name old mid (Ok x) → RefusedHeader fault mid new.desk →
    Reports form name (outside old new.out new.steps) new (CaptureRefused fault)
header_refused {T} {E} form name fault old mid new x opens header =
    let given = header.given in
    let h = HearsFile-read {E = E} name given header.ending old mid new.desk x opens header.reads header.at_end
    header.keeps in
    let is : (more : List ℕ) → (header.ending ≡ Ended → more ≡ []) →
    report form (given ++ more) ≡ silent (CaptureRefused fault) =
    λ more none. ap (report_of_capture form) (header.says more none) in
    let alone : report form given ≡ silent (CaptureRefused fault) =
    ap (report form) (sym (append-nil given)) ∙ is [] (λ e. refl) in
    let puts : PutsAll (silent (CaptureRefused fault)) new.out new.out (CaptureRefused fault) =
    record { decided = refl; lawful = refl; puts = inl (refl, Gains-none new.out); count = omega arith } in
    record {
      ends = Ends-whole form name given header.ending (outside old new.out new.steps) new (CaptureRefused fault) h
          header.unbroken (λ more none. is more none ∙ sym alone)
          (subst (λ (o : Outcome). PutsAll o new.out new.out (CaptureRefused fault)) (sym alone) puts)
          (omega (arith, ap (λ (o : Outcome). o.transitions) alone));
      lawful = refl;
      opened = λ files told reported. h.opened files told;
      keeps_up = λ w. absurd (cc);
    }

-- the reading broke off in the file header
header_broken : {T E : Type 0} (form : ReportForm) (name : List ℕ) (old mid : DeskView) (new : Outside) (x : T) →
    OpensFile {E = E} name old mid (Ok x) → BrokenHeader mid new.desk →
    Reports form name (outside old new.out new.steps) new ReadFault
header_broken {T} {E} form name old mid new x opens header =
    let h = HearsFile-read {E = E} name header.given BrokenOff old mid new.desk x opens header.reads
    (λ e. absurd (cc)) header.keeps in
    let none : lines_so_far form header.given ≡ [] = ap (lines_of_records form) header.none in
    record {
      ends = Ends-part form name header.given BrokenOff (outside old new.out new.steps) new ReadFault h tt
          record {
            ended = inl refl;
            text = λ other full. rw none (Gains-none new.out);
            prefix = λ w. absurd (cc);
            full = λ e. absurd (cc);
            read_fault = λ e. omega (arith, opens.counts.read_faults, header.read_fault);
            write_fault = λ w. absurd (cc);
            count = omega arith;
          };
      lawful = refl;
      opened = λ files told reported. absurd (false≢true reported);
      keeps_up = λ w. absurd (cc);
    }

-- a fault of the file header ends the report
pub Reports-header : {T E : Type 0} (fault : CaptureFault) (form : ReportForm) (name : List ℕ) (old mid : DeskView)
    (new : Outside) (x : T) → OpensFile {E = E} name old mid (Ok x) → ReadsStart mid new.desk (Err fault) →
    Reports form name (outside old new.out new.steps) new (refusal fault)
Reports-header {T} {E} faults.ReadFault form name old mid new x opens reads =
    header_broken {E = E} form name old mid new x opens (BrokenHeader-from mid new.desk reads)
Reports-header {T} {E} fault form name old mid new x opens reads =
    header_refused {E = E} form name fault old mid new x opens
    (RefusedHeader-from fault mid new.desk (λ e. absurd (cc)) reads)

-- a text that breaks off soon keeps up with the records that were heard
keeps_up_from : (name given : List ℕ) (ending : Ending) (text : List ℕ) (records : List CaptureRecord)
    (old new : Outside) →
    HearsFile name given ending old.desk new.desk → whole_records given ≡ records →
    BreaksOffSoon text (length records) old.out new.out →
    KeepsUp name old new
keeps_up_from name given ending text records old new h whole b = record {
  file = file_of name given ending;
  named = refl;
  newest = h.heard ∙ ap (λ l. file_of name given ending ∷ earlier_of l) (sym h.heard);
  put = b.put;
  gains = b.gains;
  few = omega (arith, b.few, ap length whole);
}

-- a text that breaks off soon was put as a prefix
prefix_from : (text : List ℕ) (records : ℕ) (old new : SinkView) → BreaksOffSoon text records old new →
    GainsPrefix text old new
prefix_from text records old new b = record { prefix = b.put; rest = b.rest; parts = b.parts; gains = b.gains }

-- the status of a capture's fault, or of none, is decided and isn't of the words
fault_decided : (fault : Option CaptureFault) →
    (is_decided (status_of_fault fault) ≡ true) × (is_usage (status_of_fault fault) ≡ false)
fault_decided None = (refl, refl)
fault_decided (Some fault) = (refl, refl)

-- What was read and put of a capture, from the opening of its file on.
record Streamed (form : ReportForm) (name : List ℕ) (read : Reading) (old new : Outside) (status : Status)
    : Type 0 where
  given : List ℕ
  ending : Ending
  state : AnyState
  later : List ℕ
  hears : HearsFile name given ending old.desk new.desk
  says : (more : List ℕ) → capture_of (given ++ more) ≡ Ok (records_from state (later ++ more))
  bytes : AreRead state later ending read
  answer : (IsStatus ending read status × Gains (text_of form read) old.out new.out)
      ⊎ ((status ≡ WriteFault) × BreaksOffSoon (text_of form read) (length (records_read read)) old.out new.out)
  read_fault : status ≡ ReadFault → Rose old.desk.read_faults new.desk.read_faults
  count : old.out.faults ≤ new.out.faults
  opened : IsOpened ending
  steps : new.steps ≡ old.steps + transitions_of_records form.tables (records_read read)

-- the report of what was streamed
streamed : (read : Reading) (form : ReportForm) (name : List ℕ) (old new : Outside) (status : Status) →
    Streamed form name read old new status → Reports form name old new status
streamed (Whole records fault) form name old new status s =
    let all : (more : List ℕ) → (s.ending ≡ Ended → more ≡ []) →
    capture_of (s.given ++ more) ≡ Ok (record { records = records; fault = fault }) =
    λ more rest. s.says more ∙ ap Ok (s.bytes.1 more rest) in
    let alone : capture_of s.given ≡ Ok (record { records = records; fault = fault }) =
    ap capture_of (sym (append-nil s.given)) ∙ all [] (λ e. refl) in
    let expected : Outcome =
    report_of_capture form (Ok (record { records = records; fault = fault })) in
    let puts : PutsAll expected old.out new.out status = record {
      decided = (fault_decided fault).0;
      lawful = (fault_decided fault).1;
      puts = elim s.answer [
        | inl done ↦ inl (done.0, done.1)
        | inr failed ↦ inr (
          failed.0,
          prefix_from (text_of_records form records fault)
              (length records) old.out new.out failed.1,
          failed.1.rose,
        )
      ];
      count = s.count;
    } in
    let reported_as : expected ≡ report form s.given = ap (report_of_capture form) (sym alone) in
    record {
      ends = Ends-whole form name s.given s.ending old new status s.hears (s.bytes.0)
          (λ more rest. ap (report_of_capture form) (all more rest ∙ sym alone))
          (subst (λ (o : Outcome). PutsAll o old.out new.out status) reported_as puts)
          (s.steps ∙ ap (λ (o : Outcome). old.steps + o.transitions) reported_as);
      lawful = elim (all_ended expected old.out new.out status puts) [
        | inl same ↦ ap is_usage same ∙ (fault_decided fault).1
        | inr write ↦ ap is_usage write
      ];
      opened = λ files told reported. s.hears.opened files told;
      keeps_up = λ w. elim s.answer [
        | inl done ↦ absurd (false≢true (ap is_decided (sym w ∙ done.0) ∙ (fault_decided fault).0))
        | inr failed ↦
            keeps_up_from name s.given s.ending (text_of_records form records fault) records old new s.hears
            (ap records_in alone) failed.1
      ];
    }
streamed (Part records) form name old new status s =
    let whole : whole_records s.given ≡ records =
    ap (λ l. records_in (capture_of l)) (sym (append-nil s.given)) ∙ ap records_in (s.says [])
    ∙ ap (λ l. (records_from s.state l).records) (append-nil s.later) ∙ s.bytes in
    let lines : lines_so_far form s.given ≡ lines_of_records form records =
    ap (lines_of_records form) whole in
    record {
      ends = Ends-part form name s.given s.ending old new status s.hears s.opened
          record {
            ended = elim s.answer [
              | inl broken ↦ inl (broken.0.0 ∙ ap status_within (sym broken.0.1))
              | inr failed ↦ inr (inl failed.0)
            ];
            text = λ other full. elim s.answer [
              | inl broken ↦ rw lines broken.1
              | inr failed ↦ absurd (other failed.0)
            ];
            prefix = λ w. elim s.answer [
              | inl broken ↦ (let e : ReadFault ≡ WriteFault = sym broken.0.0 ∙ w in absurd (cc))
              | inr failed ↦ rw lines
                  (prefix_from (lines_of_records form records) (length records) old.out new.out failed.1)
            ];
            full = λ e. elim s.answer [
              | inl broken ↦ (let r : ReadFault ≡ OutOfMemory = sym broken.0.0 ∙ e in absurd (cc))
              | inr failed ↦ (let r : WriteFault ≡ OutOfMemory = sym failed.0 ∙ e in absurd (cc))
            ];
            read_fault = s.read_fault;
            write_fault = λ w. elim s.answer [
              | inl broken ↦ (let e : ReadFault ≡ WriteFault = sym broken.0.0 ∙ w in absurd (cc))
              | inr failed ↦ failed.1.rose
            ];
            count = s.count;
          };
      lawful = elim s.answer [ inl broken ↦ ap is_usage broken.0.0 | inr failed ↦ ap is_usage failed.0 ];
      opened = λ files told reported. s.hears.opened files told;
      keeps_up = λ w. elim s.answer [
        | inl broken ↦ (let e : ReadFault ≡ WriteFault = sym broken.0.0 ∙ w in absurd (cc))
        | inr failed ↦ keeps_up_from name s.given s.ending
            (lines_of_records form records) records old new s.hears whole failed.1
      ];
    }

-- the records are read and printed
pub Reports-streamed : {T E : Type 0} (form : ReportForm) (name : List ℕ) (state : AnyState)
    (old opened : DeskView) (mid new : Outside) (x : T) (status : Status) →
    OpensFile {E = E} name old opened (Ok x) → ReadHeader state opened mid.desk → Streams form state mid new status →
    Reports form name (outside old mid.out mid.steps) new status
Reports-streamed {T} {E} form name state old opened mid new x status opens header s =
    let given = header.given ++ s.given in
    let reads = ReadsOn-then (stands s.ending) header.given s.given opened mid.desk new.desk header.reads s.reads in
    streamed s.read form name (outside old mid.out mid.steps) new status
    record {
      given = given;
      ending = s.ending;
      state = state;
      later = s.given;
      hears = HearsFile-read {E = E} name given s.ending old opened new.desk x opens reads s.at_end
          (KeepsReading-join opened mid.desk new.desk header.keeps s.keeps);
      says = λ more. ap capture_of (append_assoc header.given s.given more) ∙ header.says (s.given ++ more);
      bytes = s.bytes;
      answer = s.answer;
      read_fault = λ e.
          omega (arith, opens.counts.read_faults, header.keeps.counts.read_faults, s.read_fault e);
      count = s.count;
      opened = s.opened;
      steps = s.steps;
    }
