-- A batch that grows record by record.
use Rattle.std.proofs.Common.{◌≡◌, ℕ, ◌+◌, ◌≤◌, List, [], ◌++◌, length, map, All, Some, None}
use Rattle.std.proofs.Common.{sym, subst, ap, ◌∙◌, arith, length-append}
use Rattle.std.proofs.lemmas.List.{length-map, map-append}
use Rattle.std.proofs.lemmas.List.Elements.{All-nil, All-append}
use Rattle.acl_outside.specs.Desk.{DeskView}
use Rattle.header_extract.specs.Class.{FrameClass}
use Rattle.pcap_reader.specs.State.{CaptureRecord}
use Rattle.pcapng_reader.specs.Capture.{AnyState}
use Rattle.capture_report.specs.declared.batch.BatchEnd.{BatchEnd}
use Rattle.capture_report.specs.declared.batch.BatchEnd.TheVariants.{More}
use Rattle.capture_report.specs.Packet.{IsPacket}
use Rattle.capture_report.specs.Shown.{packet_of}
use Rattle.capture_report.specs.Taken.{Took, TakesBatch, TakesRecord, max_batch}
use Rattle.capture_report.proofs.Taking.{Took-none, Took-then}
use Rattle.capture_report.proofs.Reader.{TookRecord, TookRecord-from, IsStop, end-is_stop, records_by, records_by-stop}

-- some records were taken, of which these are the packets
pub record IsTaking (before after : AnyState) (packets : List FrameClass) (old new : DeskView) (stop : BatchEnd)
    : Type 0 where
  pub records : List CaptureRecord
  pub given : List ℕ
  pub packets_are : packets ≡ map packet_of records
  pub keys : All IsPacket packets
  pub took : Took before after records given old new stop

-- before the first record no packet is taken
pub IsTaking-none : (state : AnyState) (packets : List FrameClass) (view : DeskView) → packets ≡ [] →
    IsTaking state state packets view view More
IsTaking-none state packets view none = record {
  records = [];
  given = [];
  packets_are = none;
  keys = subst (All IsPacket) (sym none) (All-nil IsPacket);
  took = Took-none state view;
}

-- one answer more
IsTaking-more : (before mid after : AnyState) (packets packets_new : List FrameClass) (old between new : DeskView)
    (stop : BatchEnd) → IsTaking before mid packets old between More →
    TookRecord mid after packets packets_new between new stop →
    IsTaking before after packets_new old new stop × (length packets_new ≡ length packets + records_by stop)
IsTaking-more before mid after packets packets_new old between new stop h one = (
  record {
    records = h.records ++ one.records;
    given = h.given ++ one.given;
    packets_are =
        one.packets_are ∙ ap (λ l. l ++ map packet_of one.records) h.packets_are
        ∙ sym (map-append packet_of h.records one.records);
    keys = subst (All IsPacket) (sym one.packets_are)
        (All-append IsPacket packets (map packet_of one.records) h.keys one.keys);
    took = Took-then h.took one.took;
  },
  omega (
    arith,
    ap length one.packets_are,
    length-append packets (map packet_of one.records),
    length-map one.records packet_of,
    one.number,
  ),
)

-- a record more
pub IsTaking-record : (before mid after : AnyState) (packets packets_new : List FrameClass)
    (old between new : DeskView) → IsTaking before mid packets old between More →
    TakesRecord mid after packets packets_new between new None →
    IsTaking before after packets_new old new More × (length packets_new ≡ length packets + 1)
IsTaking-record before mid after packets packets_new old between new h takes =
    IsTaking-more before mid after packets packets_new old between new More h
    (TookRecord-from mid after packets packets_new between new None takes)

-- as many records as were taken, of which there are some
pub TakesBatch-some : (before after : AnyState) (packets : List FrameClass) (old new : DeskView) →
    IsTaking before after packets old new More → length packets ≤ max_batch → 1 ≤ length packets →
    TakesBatch before after packets old new More
TakesBatch-some before after packets old new h few some = record {
  records = h.records;
  given = h.given;
  packets_are = h.packets_are;
  keys = h.keys;
  took = h.took;
  few = few;
  some = λ e. some;
}

-- no record more
pub TakesBatch-stopped : (before mid after : AnyState) (packets packets_new : List FrameClass)
    (old between new : DeskView) (stop : BatchEnd) → IsTaking before mid packets old between More →
    TakesRecord mid after packets packets_new between new (Some stop) → length packets ≤ max_batch →
    TakesBatch before after packets_new old new stop
TakesBatch-stopped before mid after packets packets_new old between new stop h takes few =
    let stopped = end-is_stop takes.answer stop takes.stop in
    let all = IsTaking-more before mid after packets packets_new old between new stop h
    (TookRecord-from mid after packets packets_new between new (Some stop) takes) in
    record {
      records = all.0.records;
      given = all.0.given;
      packets_are = all.0.packets_are;
      keys = all.0.keys;
      took = all.0.took;
      few = omega (arith, all.1, few, records_by-stop stop stopped);
      some = λ e. absurd (subst IsStop e stopped);
    }
