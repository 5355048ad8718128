-- Records that were taken, and then more.
use Rattle.std.proofs.Common.{◌≡◌, ℕ, List, [], ◌++◌, Option, Some, None}
use Rattle.std.proofs.Common.{refl, sym, subst, ap, ◌∙◌, append_assoc, append-nil, length-append, arith}
use Rattle.acl_outside.specs.Desk.{DeskView}
use Rattle.acl_outside.specs.Heard.{Ending, GoesOn}
use Rattle.acl_outside.specs.DeskReading.{ReadsOn}
use Rattle.acl_outside.proofs.Offered.{ReadsOn-none, ReadsOn-then}
use Rattle.pcap_reader.specs.declared.capture_fault.CaptureFault.{CaptureFault}
use Rattle.pcap_reader.specs.declared.capture_fault.CaptureFault.TheVariants.{ReadFault}
use Rattle.pcap_reader.specs.State.{CaptureRecord}
use Rattle.pcapng_reader.specs.Capture.{AnyState, followed_by, records_from}
use Rattle.pcapng_reader.specs.BlockReading.{stands}
use Rattle.pcap_reader.proofs.Offered.{followed_by-then, KeepsReading-same, KeepsReading-join}
use Rattle.capture_report.specs.declared.batch.BatchEnd.{BatchEnd}
use Rattle.capture_report.specs.declared.batch.BatchEnd.TheVariants.{More, End, Fault}
use Rattle.capture_report.specs.NextRecord.{MayGoOn}
use Rattle.capture_report.specs.Taken.{AreRecords, AreAll, AreWhole}
use Rattle.capture_report.specs.Taken.{AreOfBatch, Took}
use Rattle.capture_report.proofs.Reader.{records-of_none}

-- nothing was taken yet
pub Took-none : (state : AnyState) (view : DeskView) → Took state state [] [] view view More
Took-none state view = record {
  ending = GoesOn;
  stood = refl;
  bytes = λ later. refl;
  reads = ReadsOn-none view;
  at_end = λ e. absurd (cc);
  read_fault = λ e. absurd (cc);
  keeps = KeepsReading-same view;
  goes_on = λ full may. may;
  count = omega arith;
  few = λ below. below;
}

module _ (before mid : AnyState) (first : List CaptureRecord) (given : List ℕ)
    (a : AreRecords before mid given first) where
  -- records, and then more bytes
  records_later : (more later : List ℕ) →
      records_from before ((given ++ more) ++ later) ≡ followed_by first (records_from mid (more ++ later))
  records_later more later = ap (records_from before) (append_assoc given more later) ∙ a (more ++ later)

  -- records and all records after them are all records
  AreAll-then : (second : List CaptureRecord) (more : List ℕ) (ending : Ending) (fault : Option CaptureFault) →
      AreAll mid more ending second fault → AreAll before (given ++ more) ending (first ++ second) fault
  AreAll-then second more ending fault b later none = records_later more later ∙ ap (followed_by first) (b later none)

  -- records and those of a batch after them are those of a batch
  AreOfBatch-then : (stop : BatchEnd) (after : AnyState) (second : List CaptureRecord) (more : List ℕ)
      (ending : Ending) → AreOfBatch mid after more ending second stop →
      AreOfBatch before after (given ++ more) ending (first ++ second) stop
  AreOfBatch-then More after second more ending b =
      λ later. records_later more later ∙ ap (followed_by first) (b later)
      ∙ followed_by-then first second (records_from after later)
  AreOfBatch-then End after second more ending b = AreAll-then second more ending None b
  AreOfBatch-then (Fault ReadFault) after second more ending b =
      ap (λ r. r.records) (a more) ∙ ap (λ l. first ++ l) b
  AreOfBatch-then (Fault fault) after second more ending b = AreAll-then second more ending (Some fault) b

-- records, and then more of them
pub Took-then : {before mid after : AnyState} {first second : List CaptureRecord} {given more : List ℕ}
    {old between new : DeskView} {stop : BatchEnd} →
    Took before mid first given old between More → Took mid after second more between new stop →
    Took before after (first ++ second) (given ++ more) old new stop
Took-then {before} {mid} {after} {first} {second} {given} {more} {old} {between} {new} {stop} a b = record {
  ending = b.ending;
  stood = b.stood;
  bytes = AreOfBatch-then before mid first given a.bytes stop after second more b.ending b.bytes;
  reads = ReadsOn-then (stands b.ending) given more old between new
      (subst (λ (e : Ending). ReadsOn (stands e) given old between) a.stood a.reads) b.reads;
  at_end = b.at_end;
  read_fault = λ e. omega (arith, a.keeps.counts.read_faults, b.read_fault e);
  keeps = KeepsReading-join old between new a.keeps b.keeps;
  goes_on = λ full may. b.goes_on full (a.goes_on refl may);
  count = omega (arith, a.count, b.count, length-append first second);
  few = λ below. b.few (a.few below);
}

-- all records that follow, whatever comes after them, are the whole ones of the bytes
AreAll-part : (state : AnyState) (given : List ℕ) (ending : Ending) (records : List CaptureRecord)
    (fault : Option CaptureFault) →
    AreAll state given ending records fault → AreWhole state given records
AreAll-part state given ending records fault all =
    ap (λ l. (records_from state l).records) (sym (append-nil given)) ∙ ap (λ r. r.records) (all [] (λ e. refl))

-- the records are the whole ones of the bytes
pub AreOfBatch-part : (stop : BatchEnd) (before after : AnyState) (given : List ℕ) (ending : Ending)
    (records : List CaptureRecord) → (stop ≡ More → MayGoOn after) →
    AreOfBatch before after given ending records stop → AreWhole before given records
AreOfBatch-part More before after given ending records may are =
    ap (λ l. (records_from before l).records) (sym (append-nil given)) ∙ ap (λ r. r.records) (are [])
    ∙ ap (λ l. records ++ l) (records-of_none after (may refl)) ∙ append-nil records
AreOfBatch-part End before after given ending records may are = AreAll-part before given ending records None are
AreOfBatch-part (Fault ReadFault) before after given ending records may are = are
AreOfBatch-part (Fault fault) before after given ending records may are =
    AreAll-part before given ending records (Some fault) are
