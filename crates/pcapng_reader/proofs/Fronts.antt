-- What a call that reads the front of a block into a buffer told.
use Rattle.std.proofs.Common.{◌≡◌, ◌≢◌, ℕ, ◌+◌, ◌<◌, ◌≤◌, List, ◌++◌, length, take, drop, false, sym, subst, arith}
use Rattle.std.proofs.Common.{length-take}
use Rattle.std.proofs.lemmas.List.{take_at}
use Rattle.acl_outside.specs.Desk.{DeskView}
use Rattle.acl_outside.specs.Heard.{GoesOn, Ended}
use Rattle.pcap_reader.specs.Capture.{max_captured}
use Rattle.pcap_reader.specs.declared.capture_fault.CaptureFault.TheVariants.{PngCut, ReadFault}
use Rattle.pcapng_reader.specs.Block.{BlockState, End, Fault, is_last}
use Rattle.pcapng_reader.specs.BlockReading.{HasRead, HasBroken, ReadsBlock}
use Rattle.pcapng_reader.proofs.FrontLaws.{front-end, front-short, front-broken}

module _ (state : BlockState) (buffer into : List ℕ) (old new : DeskView) (room : length buffer ≡ max_captured)
    (fits : length into ≡ length (take 12 buffer)) where
  -- a front has twelve bytes
  twelve : length into ≡ 12
  twelve = omega (arith, room, fits, length-take 12 buffer)

  -- no byte was left
  pub none_told : (n : ℕ) → n ≡ 0 → (n < length into → HasRead state (take n into) Ended old new)
      → ReadsBlock state old new End
  none_told n none read =
      front-end state (take n into) old new (omega (arith, none, length-take n into))
      (read (omega (arith, none, twelve)))

  -- fewer bytes than a front has
  pub few_told : (n : ℕ) → is_last state ≡ false → n ≤ length into → n ≢ 12 → n ≢ 0
      → (n < length into → HasRead state (take n into) Ended old new)
      → ReadsBlock state old new (Fault (PngCut (state.count + 1)))
  few_told n more within cut some read =
      let less : n < length into = omega (arith, within, cut, twelve) in
      front-short state (take n into) old new more (omega (arith, some, less, length-take n into))
      (omega (arith, less, twelve, length-take n into)) (read less)

  -- a read failed
  pub broken_told : HasBroken state state.first (length into) old new → ReadsBlock state old new (Fault ReadFault)
  broken_told broken = front-broken state (length into) old new twelve broken

  -- the front of the buffer was read
  pub whole_told : (n : ℕ) → n ≡ 12 → (n ≡ length into → HasRead state into GoesOn old new)
      → HasRead state (take 12 (into ++ drop 12 buffer)) GoesOn old new
  whole_told n is read =
      subst (λ l. HasRead state l GoesOn old new) (sym (take_at into (drop 12 buffer) 12 twelve))
      (read (omega (arith, is, twelve)))
