-- What stands next among blocks and in savefiles, and that bytes after what decides change nothing.
use Rattle.std.proofs.Common.{◌≡◌, ℕ, zero, suc, ◌<◌, ◌≤◌, List, [], ◌++◌, length}
use Rattle.std.proofs.Common.{inl, inr, refl, sym, subst, ap, ◌∙◌, append_assoc, arith}
use Rattle.std.specs.Prelude.{◌⊎◌, ⊤}
use Rattle.pcap_reader.specs.declared.capture_fault.CaptureFault.{CaptureFault}
use Rattle.pcap_reader.specs.declared.capture_fault.CaptureFault.TheVariants.{RecordCut, PngCut}
use Rattle.pcap_reader.specs.State.{CaptureRecord}
use Rattle.pcap_reader.specs.Capture as savefile
use Rattle.pcap_reader.proofs.Offered.{IsDecided, next_of-append as savefile-append, IsShorter}
use Rattle.pcap_reader.proofs.Offered.{next_of-shorter as savefile-shorter}
use Rattle.pcap_reader.proofs.Offered.{with_more, next_cases as savefile_cases}
use Rattle.pcapng_reader.specs.Block.{BlockState, Block, block_at, block_of, block_said, front_len}
use Rattle.pcapng_reader.specs.declared.front.Front.{Front}
use Rattle.pcapng_reader.specs.declared.said.Said.{Said}
use Rattle.pcapng_reader.specs.declared.said.Said.TheVariants as said
use Rattle.pcapng_reader.specs.Reader.{HasNoRecord}
use Rattle.pcapng_reader.specs.BlockReading.{HasNoBlock}
use Rattle.pcapng_reader.proofs.BlockLaws.{HasFront-from, front_least}
use Rattle.pcapng_reader.specs.Block as block
use Rattle.pcapng_reader.specs.Capture.{AnyState, Savefile, Blocks, Next, End, Record, Fault, with_state, past_block}
use Rattle.pcapng_reader.specs.Capture.{first_of, next_within, next_of, size_of}
use Rattle.pcapng_reader.proofs.BlockLaws.{IsDecidedFault, IsDecidedBlock, block_more, block-append}
use Rattle.pcapng_reader.proofs.BlockEnds.{Came, Empty, Faulty, Whole, came, short-stuck, IsShorterBlock, block-shorter}

-- the next block is one of four
pub block_cases : (b : Block) → (b ≡ block.End) ⊎ (((now : BlockState) × (after : List ℕ) × (b ≡ block.Passed now
    after))
    ⊎ (((captured : CaptureRecord) × (now : BlockState) × (after : List ℕ) × (b ≡ block.Given captured now after))
    ⊎ ((fault : CaptureFault) × (b ≡ block.Fault fault))))
block_cases block.End = inl refl
block_cases (block.Passed now after) = inr (inl (now, after, refl))
block_cases (block.Given captured now after) = inr (inr (inl (captured, now, after, refl)))
block_cases (block.Fault fault) = inr (inr (inr (fault, refl)))

-- what stands next is one of three
pub next_cases : (next : Next) → ((state : AnyState) × (next ≡ End state))
    ⊎ (((captured : CaptureRecord) × (now : AnyState) × (after : List ℕ) × (next ≡ Record captured now after))
    ⊎ ((fault : CaptureFault) × (next ≡ Fault fault)))
next_cases (End state) = inl (state, refl)
next_cases (Record captured now after) = inr (inl (captured, now, after, refl))
next_cases (Fault fault) = inr (inr (fault, refl))

-- a step through a block
within_step : (fuel : ℕ) (state : BlockState) (left : List ℕ) (b : Block) → block_of state left ≡ b →
    next_within (suc fuel) state left ≡ past_block state b (λ now after. next_within fuel now after)
within_step fuel state left b is = ap (λ x. past_block state x (λ now after. next_within fuel now after)) is

-- any fuel that is enough gives the same
within-fuel : (fuel more : ℕ) (state : BlockState) (left : List ℕ) → length (state.first ++ left) < fuel →
    length (state.first ++ left) < more → next_within fuel state left ≡ next_within more state left
within-fuel zero more state left enough also = absurd (omega (arith, enough))
within-fuel (suc fuel) zero state left enough also = absurd (omega (arith, also))
within-fuel (suc fuel) (suc more) state left enough also =
    elim (block_cases (block_of state left)) [
      | inl ends ↦ within_step fuel state left block.End ends ∙ sym (within_step more state left block.End ends)
      | inr (inl passed) ↦
          let shorter = subst (IsShorterBlock (state.first ++ left)) passed.2
          (block-shorter state (state.first ++ left)) in
          within_step fuel state left _ passed.2
          ∙ within-fuel fuel more passed.0 passed.1 (omega (arith, shorter, enough)) (omega (arith, shorter, also))
          ∙ sym (within_step more state left _ passed.2)
      | inr (inr (inl given)) ↦ within_step fuel state left _ given.3 ∙ sym (within_step more state left _ given.3)
      | inr (inr (inr fails)) ↦ within_step fuel state left _ fails.1 ∙ sym (within_step more state left _ fails.1)
    ]

-- after a block without a record stands what follows it
pub next-passed : (state : BlockState) (left : List ℕ) (now : BlockState) (after : List ℕ) →
    block_of state left ≡ block.Passed now after → next_of (Blocks state) left ≡ next_of (Blocks now) after
next-passed state left now after is =
    let shorter = subst (IsShorterBlock (state.first ++ left)) is (block-shorter state (state.first ++ left)) in
    within_step (length (state.first ++ left)) state left _ is
    ∙ within-fuel (length (state.first ++ left)) (suc (length (now.first ++ after))) now after
    (omega (arith, shorter)) (omega arith)

-- the end, a packet and a fault stand next
pub next-end : (state : BlockState) (left : List ℕ) → block_of state left ≡ block.End →
    next_of (Blocks state) left ≡ End (Blocks state)
next-end state left is = within_step (length (state.first ++ left)) state left _ is

-- a block with a packet stands next as its record
pub next-given : (state : BlockState) (left : List ℕ) (captured : CaptureRecord) (now : BlockState) (after : List ℕ) →
    block_of state left ≡ block.Given captured now after →
    next_of (Blocks state) left ≡ Record captured (Blocks now) after
next-given state left captured now after is = within_step (length (state.first ++ left)) state left _ is

-- a block with a fault stands next as the fault
pub next-fault : (state : BlockState) (left : List ℕ) (fault : CaptureFault) →
    block_of state left ≡ block.Fault fault → next_of (Blocks state) left ≡ Fault fault
next-fault state left fault is = within_step (length (state.first ++ left)) state left _ is

-- what decides is there: more bytes change nothing but what stands after a record
abbrev pub IsDecidedNext : Next → Type 0
IsDecidedNext (End state) = ⊥
IsDecidedNext (Record captured state after) = ⊤
IsDecidedNext (Fault fault) = IsDecidedFault fault

-- what stands next, with more bytes after it
abbrev pub next_more : Next → List ℕ → Next
next_more (End state) more = End state
next_more (Record captured state after) more = Record captured state (after ++ more)
next_more (Fault fault) more = Fault fault

-- the block of what is left, with more bytes after it
pub block_of-append : (state : BlockState) (left more : List ℕ) → IsDecidedBlock (block_of state left) →
    block_of state (left ++ more) ≡ block_more (block_of state left) more
block_of-append state left more decided =
    ap (block_at state) (sym (append_assoc state.first left more))
    ∙ block-append state (state.first ++ left) more decided

-- more bytes change nothing of what is decided past some blocks
within-append : (fuel : ℕ) (state : BlockState) (left more : List ℕ) → length (state.first ++ left) < fuel →
    IsDecidedNext (next_of (Blocks state) left) →
    next_of (Blocks state) (left ++ more) ≡ next_more (next_of (Blocks state) left) more
within-append zero state left more enough decided = absurd (omega (arith, enough))
within-append (suc fuel) state left more enough decided =
    elim (block_cases (block_of state left)) [
      | inl ends ↦ absurd (subst IsDecidedNext (next-end state left ends) decided)
      | inr (inl passed) ↦
          let shorter = subst (IsShorterBlock (state.first ++ left)) passed.2
          (block-shorter state (state.first ++ left)) in
          let alone = next-passed state left passed.0 passed.1 passed.2 in
          next-passed state (left ++ more) passed.0 (passed.1 ++ more)
          (block_of-append state left more (subst IsDecidedBlock (sym passed.2) tt)
          ∙ ap (λ b. block_more b more) passed.2)
          ∙ within-append fuel passed.0 passed.1 more (omega (arith, shorter, enough)) (subst IsDecidedNext alone
          decided)
          ∙ sym (ap (λ n. next_more n more) alone)
      | inr (inr (inl given)) ↦
          next-given state (left ++ more) given.0 given.1 (given.2 ++ more)
          (block_of-append state left more (subst IsDecidedBlock (sym given.3) tt)
          ∙ ap (λ b. block_more b more) given.3)
          ∙ sym (ap (λ n. next_more n more) (next-given state left given.0 given.1 given.2 given.3))
      | inr (inr (inr fails)) ↦
          let alone = next-fault state left fails.0 fails.1 in
          next-fault state (left ++ more) fails.0
          (block_of-append state left more (subst IsDecidedBlock (sym fails.1) (subst IsDecidedNext alone decided))
          ∙ ap (λ b. block_more b more) fails.1)
          ∙ sym (ap (λ n. next_more n more) alone)
    ]

-- a savefile's fault that is decided
savefile_decided : (fault : CaptureFault) → IsDecidedFault fault → IsDecided (savefile.Fault fault)
savefile_decided (PngCut number) decided = absurd decided
savefile_decided (RecordCut number) decided = absurd decided
savefile_decided fault decided = tt

-- where what decides is there, more bytes after it change nothing
pub next-append : (state : AnyState) (left more : List ℕ) → IsDecidedNext (next_of state left) →
    next_of state (left ++ more) ≡ next_more (next_of state left) more
next-append (Blocks state) left more decided =
    within-append (suc (length (state.first ++ left))) state left more (omega arith) decided
next-append (Savefile state) left more decided = elim (savefile_cases (savefile.next_of state left)) [
  | inl ends ↦ absurd (subst IsDecidedNext (ap (with_state state) ends) decided)
  | inr (inl whole) ↦
      ap (with_state state)
      (savefile-append state left more (subst IsDecided (sym whole.2) tt) ∙ ap (λ n. with_more n more) whole.2)
      ∙ sym (ap (λ n. next_more (with_state state n) more) whole.2)
  | inr (inr fails) ↦
      ap (with_state state)
      (savefile-append state left more (subst IsDecided (sym fails.1)
      (savefile_decided fails.0 (subst IsDecidedNext (ap (with_state state) fails.1) decided)))
      ∙ ap (λ n. with_more n more) fails.1)
      ∙ sym (ap (λ n. next_more (with_state state n) more) fails.1)
]

-- a record takes bytes away
abbrev pub IsShorterNext : ℕ → Next → Type 0
IsShorterNext size (End state) = ⊤
IsShorterNext size (Record captured state after) = size_of state after < size
IsShorterNext size (Fault fault) = ⊤

-- a record past some blocks takes bytes away
within-shorter : (fuel : ℕ) (state : BlockState) (left : List ℕ) → length (state.first ++ left) < fuel →
    IsShorterNext (length (state.first ++ left)) (next_of (Blocks state) left)
within-shorter zero state left enough = absurd (omega (arith, enough))
within-shorter (suc fuel) state left enough =
    let size = length (state.first ++ left) in
    elim (block_cases (block_of state left)) [
      | inl ends ↦ subst (IsShorterNext size) (sym (next-end state left ends)) tt
      | inr (inl passed) ↦
          let shorter = subst (IsShorterBlock (state.first ++ left)) passed.2
          (block-shorter state (state.first ++ left)) in
          subst (IsShorterNext size) (sym (next-passed state left passed.0 passed.1 passed.2))
          (longer (length (passed.0.first ++ passed.1)) size (next_of (Blocks passed.0) passed.1)
          (omega (arith, shorter))
          (within-shorter fuel passed.0 passed.1 (omega (arith, shorter, enough))))
      | inr (inr (inl given)) ↦
          let shorter = subst (IsShorterBlock (state.first ++ left)) given.3
          (block-shorter state (state.first ++ left)) in
          subst (IsShorterNext size) (sym (next-given state left given.0 given.1 given.2 given.3))
          (omega (arith, shorter))
      | inr (inr (inr fails)) ↦ subst (IsShorterNext size) (sym (next-fault state left fails.0 fails.1)) tt
    ]
  where
    longer : (small large : ℕ) (next : Next) → small ≤ large → IsShorterNext small next → IsShorterNext large next
    longer small large (End state) more is = tt
    longer small large (Record captured state after) more is = omega (arith, more, is)
    longer small large (Fault fault) more is = tt

-- a record of either format takes bytes away
pub next-shorter : (state : AnyState) (left : List ℕ) → IsShorterNext (size_of state left) (next_of state left)
next-shorter (Blocks state) left = within-shorter (suc (length (state.first ++ left))) state left (omega arith)
next-shorter (Savefile state) left = elim (savefile_cases (savefile.next_of state left)) [
  | inl ends ↦ subst (IsShorterNext (length left)) (sym (ap (with_state state) ends)) tt
  | inr (inl whole) ↦
      let shorter = subst (IsShorter left) whole.2 (savefile-shorter state left) in
      subst (IsShorterNext (length left)) (sym (ap (with_state state) whole.2)) (omega (arith, shorter))
  | inr (inr fails) ↦ subst (IsShorterNext (length left)) (sym (ap (with_state state) fails.1)) tt
]

-- a reader that gave a record has read no bytes of the next block
abbrev pub FirstNone : Next → Type 0
FirstNone (End state) = ⊤
FirstNone (Record captured state after) = first_of state ≡ []
FirstNone (Fault fault) = ⊤

-- nor has one that read a block
abbrev NoneRead : Block → Type 0
NoneRead block.End = ⊤
NoneRead (block.Passed now after) = now.first ≡ []
NoneRead (block.Given captured now after) = now.first ≡ []
NoneRead (block.Fault fault) = ⊤

-- a block that was read leaves no byte of the next one read, whatever it says
said_none : (x : Said) (state : BlockState) (front : Front) (bytes : List ℕ) → NoneRead (block_said state front x bytes)
said_none said.Section state front bytes = refl
said_none (said.Interface link) state front bytes = refl
said_none (said.Packet link captured) state front bytes = refl
said_none said.Other state front bytes = refl

-- no block leaves a byte of the next one read
block_none_read : (state : BlockState) (bytes : List ℕ) → NoneRead (block_at state bytes)
block_none_read state bytes = go (came state bytes)
  where
    go : Came state bytes → NoneRead (block_at state bytes)
    go (Empty none is) = subst NoneRead (sym is) tt
    go (Faulty fault some is) = subst NoneRead (sym is) tt
    go (Whole front x is facts room whole says) = subst NoneRead (sym says) (said_none x state front bytes)

-- a record past some blocks leaves no byte of the next block read
within-first : (fuel : ℕ) (state : BlockState) (left : List ℕ) → length (state.first ++ left) < fuel →
    FirstNone (next_of (Blocks state) left)
within-first zero state left enough = absurd (omega (arith, enough))
within-first (suc fuel) state left enough =
    elim (block_cases (block_of state left)) [
      | inl ends ↦ subst FirstNone (sym (next-end state left ends)) tt
      | inr (inl passed) ↦
          let shorter = subst (IsShorterBlock (state.first ++ left)) passed.2
          (block-shorter state (state.first ++ left)) in
          subst FirstNone (sym (next-passed state left passed.0 passed.1 passed.2))
          (within-first fuel passed.0 passed.1 (omega (arith, shorter, enough)))
      | inr (inr (inl given)) ↦
          subst FirstNone (sym (next-given state left given.0 given.1 given.2 given.3))
          (subst NoneRead given.3 (block_none_read state (state.first ++ left)))
      | inr (inr (inr fails)) ↦ subst FirstNone (sym (next-fault state left fails.0 fails.1)) tt
    ]

-- a record of either format leaves no byte of the next block read
pub next-first : (state : AnyState) (left : List ℕ) → FirstNone (next_of state left)
next-first (Blocks state) left = within-first (suc (length (state.first ++ left))) state left (omega arith)
next-first (Savefile state) left = elim (savefile_cases (savefile.next_of state left)) [
  | inl ends ↦ subst FirstNone (sym (ap (with_state state) ends)) tt
  | inr (inl whole) ↦ subst FirstNone (sym (ap (with_state state) whole.2)) refl
  | inr (inr fails) ↦ subst FirstNone (sym (ap (with_state state) fails.1)) tt
]

-- fewer bytes than a block has are no record
pub short_next : (state : BlockState) → length (state.first ++ []) < 12 → HasNoRecord (next_of (Blocks state) [])
short_next state few = go (block_of state []) refl
  where
    stuck : HasNoBlock (block_of state [])
    stuck = short-stuck state (state.first ++ []) 12 few
        (λ front says.
        let facts = HasFront-from state (state.first ++ []) front says in
        omega (arith, facts.least, front_least front.kind))

    go : (b : Block) → block_of state [] ≡ b → HasNoRecord (next_of (Blocks state) [])
    go block.End is = subst HasNoRecord (sym (next-end state [] is)) tt
    go (block.Fault fault) is = subst HasNoRecord (sym (next-fault state [] fault is)) tt
    go (block.Passed now after) is = absurd (subst HasNoBlock is stuck)
    go (block.Given captured now after) is = absurd (subst HasNoBlock is stuck)
