-- How the next packet is found among blocks.
use Rattle.std.proofs.Common.{◌≡◌, ℕ, ◌+◌, ◌<◌, List, [], ◌++◌, Some, None, Ok, Err}
use Rattle.std.proofs.Common.{inl, inr}
use Rattle.std.proofs.Common.{refl, sym, subst, ap, ◌∙◌, append_assoc, append-nil, arith, false}
use Rattle.std.specs.Prelude.{⊤, nat_lt}
use Rattle.std.proofs.lemmas.Bool.{cases_lt, lt-ltb, false≢true, or_parts}
use Rattle.acl_outside.specs.Desk.{DeskView}
use Rattle.acl_outside.specs.Heard.{Ending, GoesOn, Ended}
use Rattle.acl_outside.specs.DeskReading.{ReadsOn, and_goes_on}
use Rattle.acl_outside.proofs.Offered.{ReadsOn-none, ReadsOn-then}
use Rattle.pcap_reader.specs.declared.capture_fault.CaptureFault.{CaptureFault}
use Rattle.pcap_reader.specs.declared.capture_fault.CaptureFault.TheVariants.{ReadFault}
use Rattle.pcap_reader.specs.Capture.{max_records}
use Rattle.acl_outside.specs.Fault.{Rose}
use Rattle.pcap_reader.specs.Fill.{KeepsReading, IsAtEnd}
use Rattle.pcap_reader.specs.State.{Answer, CaptureRecord}
use Rattle.pcap_reader.proofs.Offered.{KeepsReading-same, KeepsReading-join, Rose-later}
use Rattle.pcapng_reader.specs.Block.{BlockState, Block, block_at, block_of, block_said, is_last, max_blocks}
use Rattle.pcapng_reader.specs.Block.{state_said}
use Rattle.pcapng_reader.specs.Block as block
use Rattle.pcapng_reader.specs.Capture.{Blocks, Next, next_of}
use Rattle.pcapng_reader.specs.declared.front.Front.{Front}
use Rattle.pcapng_reader.specs.declared.said.Said.{Said}
use Rattle.pcapng_reader.specs.declared.said.Said.TheVariants as said
use Rattle.pcapng_reader.specs.Packets.{Finds, Counts}
use Rattle.pcapng_reader.specs.Reader.{AnswerStands, HasNoRecord, IsEnd, IsNext}
use Rattle.pcapng_reader.specs.BlockReading.{HasNoBlock, ReadsBlock, stands}
use Rattle.pcapng_reader.proofs.BlockLaws.{IsDecidedBlock, block_more}
use Rattle.pcapng_reader.proofs.NextLaws.{block_of-append, next-passed, next-given, next-end, next-fault}
use Rattle.pcapng_reader.proofs.BlockEnds.{Came, Empty, Faulty, Whole, came}

-- What a reader knows after a block: it has counted it.
abbrev pub CountsBlock : BlockState → Block → Type 0
CountsBlock state block.End = ⊤
CountsBlock state (block.Passed now after) =
    (now.blocks ≡ state.blocks + 1) × (state.blocks < max_blocks) × (now.count ≡ state.count)
    × (now.progress ≡ state.progress)
CountsBlock state (block.Given captured now after) =
    (state.count < max_records) × (now.count ≡ state.count + 1) × (now.progress ≡ state.progress)
CountsBlock state (block.Fault fault) = ⊤

-- a count that isn't refused is below its limit
below : (limit count : ℕ) → nat_lt limit (count + 1) ≡ false → count < limit
below limit count is = elim (cases_lt limit (count + 1)) [
  | inl less ↦ absurd (false≢true (sym is ∙ lt-ltb limit (count + 1) less))
  | inr more ↦ omega (arith, more)
]

-- a block is counted, whatever it says
said_counts : (x : Said) (state : BlockState) (front : Front) (bytes : List ℕ) → is_last state ≡ false →
    CountsBlock state (block_said state front x bytes)
said_counts said.Section state front bytes few =
    (refl, below max_blocks state.blocks (or_parts (nat_lt max_records (state.count + 1)) _ few).1, refl, refl)
said_counts (said.Interface link) state front bytes few =
    (refl, below max_blocks state.blocks (or_parts (nat_lt max_records (state.count + 1)) _ few).1, refl, refl)
said_counts (said.Packet link captured) state front bytes few =
    (below max_records state.count (or_parts (nat_lt max_records (state.count + 1)) _ few).0, refl, refl)
said_counts said.Other state front bytes few =
    (refl, below max_blocks state.blocks (or_parts (nat_lt max_records (state.count + 1)) _ few).1, refl, refl)

-- each block is counted
pub block-counts : (state : BlockState) (bytes : List ℕ) → CountsBlock state (block_at state bytes)
block-counts state bytes = go (came state bytes)
  where
    go : Came state bytes → CountsBlock state (block_at state bytes)
    go (Empty none is) = subst (CountsBlock state) (sym is) tt
    go (Faulty fault some is) = subst (CountsBlock state) (sym is) tt
    go (Whole front x is facts room whole says) =
        subst (CountsBlock state) (sym says) (said_counts x state front bytes facts.few)

-- Blocks without a record were read, from one state of the reader to another.
pub record Passing (before now : BlockState) (old new : DeskView) : Type 0 where
  pub given : List ℕ
  pub reads : ReadsOn and_goes_on given old new
  pub keeps : KeepsReading old new
  pub leads : (later : List ℕ) → next_of (Blocks before) (given ++ later) ≡ next_of (Blocks now) later
  pub count : now.count ≡ before.count
  pub progress : now.progress ≡ before.progress

-- none yet
pub Passing-none : (state : BlockState) (view : DeskView) → Passing state state view view
Passing-none state view = record {
  given = [];
  reads = ReadsOn-none view;
  keeps = KeepsReading-same view;
  leads = λ later. refl;
  count = refl;
  progress = refl;
}

-- a reading that goes on stands as it stood
stood_on : (ending : Ending) (given : List ℕ) (old new : DeskView) → ending ≡ GoesOn →
    ReadsOn (stands ending) given old new → ReadsOn and_goes_on given old new
stood_on ending given old new is reads = rw is at reads

-- Some were passed, and then one block was read.
module _ (before state : BlockState) (old mid : DeskView) (passed : Passing before state old mid) where
  -- another without a record
  pub Passing-more : (now : BlockState) (new : DeskView) → ReadsBlock state mid new (block.Passed now []) →
      Passing before now old new
  Passing-more now new read =
      let counts = subst (CountsBlock state) read.is (block-counts state (state.first ++ read.given)) in
      record {
        given = passed.given ++ read.given;
        reads = ReadsOn-then and_goes_on passed.given read.given old mid new passed.reads
            (stood_on read.ending read.given mid new read.stood read.reads);
        keeps = KeepsReading-join old mid new passed.keeps read.keeps;
        leads = λ later.
            ap (next_of (Blocks before)) (append_assoc passed.given read.given later)
            ∙ passed.leads (read.given ++ later)
            ∙ next-passed state (read.given ++ later) now later
            (block_of-append state read.given later (subst IsDecidedBlock (sym read.is) tt)
            ∙ ap (λ b. block_more b later) read.is);
        count = counts.2 ∙ passed.count;
        progress = counts.3 ∙ passed.progress;
      }

  -- and it took one of the blocks that there may be
  pub passed-fewer : (now : BlockState) (new : DeskView) → ReadsBlock state mid new (block.Passed now []) →
      (now.blocks ≡ state.blocks + 1) × (state.blocks < max_blocks)
  passed-fewer now new read =
      let counts = subst (CountsBlock state) read.is (block-counts state (state.first ++ read.given)) in
      (counts.0, counts.1)

  -- what stands next is what this block says
  leads_to : (given : List ℕ) (next : Next) → next_of (Blocks state) given ≡ next →
      next_of (Blocks before) (passed.given ++ given) ≡ next
  leads_to given next is = passed.leads given ∙ is

  -- an answer by the block that was read is what is found
  found : (now : BlockState) (new : DeskView) (answer : Answer) (given : List ℕ) (ending : Ending) →
      AnswerStands answer ending → ReadsOn (stands ending) given mid new → (ending ≡ Ended → IsAtEnd new) →
      KeepsReading mid new → IsNext (Blocks before) (Blocks now) (passed.given ++ given) [] answer →
      Counts before now answer → (answer ≡ Err ReadFault → Rose mid.read_faults new.read_faults) →
      Finds before now old new answer
  found now new answer given ending stood reads end keeps next counts rose = record {
    given = passed.given ++ given;
    ending = ending;
    stood = stood;
    reads = ReadsOn-then (stands ending) passed.given given old mid new passed.reads reads;
    next = next;
    counts = counts;
    end = end;
    read_fault = λ e. Rose-later old mid new passed.keeps (rose e);
    keeps = KeepsReading-join old mid new passed.keeps keeps;
  }

  -- a packet
  pub Finds-given : (now : BlockState) (new : DeskView) (captured : CaptureRecord) →
      ReadsBlock state mid new (block.Given captured now []) → Finds before now old new (Ok (Some captured))
  Finds-given now new captured read =
      let counts = subst (CountsBlock state) read.is (block-counts state (state.first ++ read.given)) in
      found now new (Ok (Some captured)) read.given read.ending read.stood read.reads read.end read.keeps
      (leads_to read.given _ (next-given state read.given captured now [] read.is))
      (counts.1 ∙ ap (λ n. n + 1) passed.count, counts.2 ∙ passed.progress)
      (λ e. absurd (cc))

  -- no block
  pub Finds-end : (new : DeskView) → ReadsBlock state mid new block.End → Finds before state old new (Ok None)
  Finds-end new read =
      found state new (Ok None) read.given read.ending read.stood read.reads read.end read.keeps
      (subst IsEnd (sym (leads_to read.given _ (next-end state read.given read.is))) tt, refl)
      (passed.count, passed.progress) (λ e. absurd (cc))

  -- bytes before a block that isn't there have no record
  no_record : (given : List ℕ) → HasNoBlock (block_of state given) →
      HasNoRecord (next_of (Blocks before) (passed.given ++ given))
  no_record given none = go (block_of state given) refl
    where
      go : (b : Block) → block_of state given ≡ b → HasNoRecord (next_of (Blocks before) (passed.given ++ given))
      go block.End is = subst HasNoRecord (sym (leads_to given _ (next-end state given is))) tt
      go (block.Fault fault) is = subst HasNoRecord (sym (leads_to given _ (next-fault state given fault is))) tt
      go (block.Passed now after) is = absurd (subst HasNoBlock is none)
      go (block.Given captured now after) is = absurd (subst HasNoBlock is none)

  -- a fault
  pub Finds-fault : (fault : CaptureFault) (new : DeskView) → ReadsBlock state mid new (block.Fault fault) →
      Finds before state old new (Err fault)
  Finds-fault ReadFault new read =
      found state new (Err ReadFault) read.given read.ending read.stood read.reads read.end read.keeps
      (record {
        front = passed.given ++ read.given;
        parts = sym (append-nil (passed.given ++ read.given));
        no_whole = no_record read.given read.is;
      })
      (passed.count, passed.progress) (λ e. read.read_fault refl)
  Finds-fault fault new read =
      found state new (Err fault) read.given read.ending read.stood read.reads read.end read.keeps
      (leads_to read.given _ (next-fault state read.given fault read.is))
      (passed.count, passed.progress) (λ e. absurd (cc))
