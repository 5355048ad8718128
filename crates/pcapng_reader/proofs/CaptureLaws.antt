-- How the records of a capture follow one another, in either format.
use Rattle.std.proofs.Common.{◌≡◌, ℕ, zero, suc, ◌≤◌, List, [], ◌∷◌, ◌++◌, length, Some, None}
use Rattle.std.proofs.Common.{Ok}
use Rattle.std.proofs.Common.{inl, inr, refl, sym, subst, ap, ◌∙◌, arith}
use Rattle.pcap_reader.specs.declared.capture_fault.CaptureFault.{CaptureFault}
use Rattle.pcap_reader.specs.declared.state.CaptureState.{CaptureState}
use Rattle.pcap_reader.specs.State.{CaptureRecord, state_after}
use Rattle.pcap_reader.specs.Capture as savefile
use Rattle.pcap_reader.proofs.Offered.{next_cases as savefile_cases}
use Rattle.pcapng_reader.specs.Capture.{AnyState, Savefile, Blocks, Next, End, Record, Fault, followed_by}
use Rattle.pcapng_reader.specs.Capture.{next_of, onward, records_within, records_from, size_of}
use Rattle.pcapng_reader.specs.Reader.{HasNoRecord}
use Rattle.pcapng_reader.proofs.BlockLaws.{block-none}
use Rattle.pcapng_reader.proofs.NextLaws.{next-end, next_cases, IsShorterNext, next-shorter}

-- a step of the records
records_step : (fuel : ℕ) (state : AnyState) (left : List ℕ) (next : Next) → next_of state left ≡ next →
    records_within (suc fuel) state left ≡ onward next (λ now after. records_within fuel now after)
records_step fuel state left next is = ap (λ n. onward n (λ now after. records_within fuel now after)) is

-- nothing is left of no bytes
size_none : (state : AnyState) (left : List ℕ) → size_of state left ≡ 0 → (later : AnyState) × (next_of state left ≡
    End later)
size_none (Savefile state) [] none = (Savefile state, refl)
size_none (Savefile state) (b ∷ bs) none = absurd (omega (arith, none))
size_none (Blocks state) left none = (Blocks state, next-end state left (block-none state (state.first ++ left) none))

-- any fuel that is enough gives the same records
records-fuel : (fuel more : ℕ) (state : AnyState) (left : List ℕ) → size_of state left ≤ fuel →
    size_of state left ≤ more → records_within fuel state left ≡ records_within more state left
records-fuel zero zero state left enough also = refl
records-fuel zero (suc more) state left enough also =
    let none = size_none state left (omega (arith, enough)) in
    sym (records_step more state left _ none.1)
records-fuel (suc fuel) zero state left enough also =
    let none = size_none state left (omega (arith, also)) in
    records_step fuel state left _ none.1
records-fuel (suc fuel) (suc more) state left enough also =
    elim (next_cases (next_of state left)) [
      | inl ends ↦ records_step fuel state left _ ends.1 ∙ sym (records_step more state left _ ends.1)
      | inr (inl next) ↦
          let shorter = subst (IsShorterNext (size_of state left)) next.3 (next-shorter state left) in
          records_step fuel state left _ next.3
          ∙ ap (followed_by (next.0 ∷ []))
          (records-fuel fuel more next.1 next.2 (omega (arith, shorter, enough)) (omega (arith, shorter, also)))
          ∙ sym (records_step more state left _ next.3)
      | inr (inr fails) ↦ records_step fuel state left _ fails.1 ∙ sym (records_step more state left _ fails.1)
    ]

-- the records after a record
pub records-record : (state : AnyState) (left : List ℕ) (captured : CaptureRecord) (now : AnyState) (after : List ℕ) →
    next_of state left ≡ Record captured now after →
    records_from state left ≡ followed_by (captured ∷ []) (records_from now after)
records-record state left captured now after next =
    let shorter = subst (IsShorterNext (size_of state left)) next (next-shorter state left) in
    records-fuel (size_of state left) (suc (size_of state left)) state left (omega arith) (omega arith)
    ∙ records_step (size_of state left) state left _ next
    ∙ ap (followed_by (captured ∷ []))
    (records-fuel (size_of state left) (size_of now after) now after (omega (arith, shorter)) (omega arith))

-- the end has no records
pub records-end : (state : AnyState) (left : List ℕ) (later : AnyState) → next_of state left ≡ End later →
    records_from state left ≡ record { records = []; fault = None }
records-end state left later ends =
    records-fuel (size_of state left) (suc (size_of state left)) state left (omega arith) (omega arith)
    ∙ records_step (size_of state left) state left _ ends

-- nor has a fault
pub records-fault : (state : AnyState) (left : List ℕ) (fault : CaptureFault) → next_of state left ≡ Fault fault →
    records_from state left ≡ record { records = []; fault = Some fault }
records-fault state left fault fails =
    records-fuel (size_of state left) (suc (size_of state left)) state left (omega arith) (omega arith)
    ∙ records_step (size_of state left) state left _ fails

-- the records of what is left begin with what stands next
pub records-step : (state : AnyState) (left : List ℕ) →
    records_from state left ≡ onward (next_of state left) (λ now after. records_from now after)
records-step state left = elim (next_cases (next_of state left)) [
  | inl ends ↦ rw ends.1 (records-end state left ends.0 ends.1)
  | inr (inl next) ↦ rw next.3 (records-record state left next.0 next.1 next.2 next.3)
  | inr (inr fails) ↦ rw fails.1 (records-fault state left fails.0 fails.1)
]

-- where what stands next has no record, the bytes have none
pub records-none : (state : AnyState) (left : List ℕ) → HasNoRecord (next_of state left) →
    (records_from state left).records ≡ []
records-none state left none = elim (next_cases (next_of state left)) [
  | inl ends ↦ ap (λ r. r.records) (records-end state left ends.0 ends.1)
  | inr (inl next) ↦ absurd (subst HasNoRecord next.3 none)
  | inr (inr fails) ↦ ap (λ r. r.records) (records-fault state left fails.0 fails.1)
]

-- the records of a savefile are those of its format
savefile_within : (fuel : ℕ) (state : CaptureState) (left : List ℕ) →
    records_within fuel (Savefile state) left ≡ savefile.records_within fuel state left
savefile_within zero state left = refl
savefile_within (suc fuel) state left = elim (savefile_cases (savefile.next_of state left)) [
  | inl ends ↦ rw ends refl
  | inr (inl whole) ↦ rw whole.2
      (ap (followed_by (whole.0 ∷ [])) (savefile_within fuel (state_after state (Ok (Some whole.0))) whole.1))
  | inr (inr fails) ↦ rw fails.1 refl
]

-- the records of a savefile are those that its own format says
pub savefile-records : (state : CaptureState) (left : List ℕ) →
    records_from (Savefile state) left ≡ savefile.records_from state left
savefile-records state left = savefile_within (length left) state left
