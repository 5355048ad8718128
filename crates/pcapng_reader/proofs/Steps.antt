-- Steps of a reading that may be refused.
use Rattle.std.proofs.Common.{◌≡◌, true, false, Result, Ok, Err, refl}
use Rattle.std.specs.Prelude.{Bool}
use Rattle.pcap_reader.specs.declared.capture_fault.CaptureFault.{CaptureFault}
use Rattle.pcap_reader.specs.Start.{◌>>=◌}
use Rattle.pcapng_reader.specs.Block.{refuse}

-- else the next step follows
pub refuse-no : {B : Type 0} (test : Bool) (fault : CaptureFault) (next : Bool → Result B CaptureFault) →
    test ≡ false → (refuse test fault >>= next) ≡ next false
refuse-no test fault next is = rw is refl

-- a fault is that of the whole
pub refuse-stops : {B : Type 0} (test : Bool) (fault : CaptureFault) (next : Bool → Result B CaptureFault) →
    test ≡ true → (refuse test fault >>= next) ≡ Err fault
refuse-stops test fault next is = rw is refl

-- the step before one that passed has passed
pub bind_ok : {A B : Type 0} (first : Result A CaptureFault) (next : A → Result B CaptureFault) (y : B) →
    (first >>= next) ≡ Ok y → (x : A) × (first ≡ Ok x) × (next x ≡ Ok y)
bind_ok (Ok x) next y is = (x, refl, is)
bind_ok (Err fault) next y is = absurd (cc)

-- where a test passed, it doesn't hold
pub refuse_ok : (test : Bool) (fault : CaptureFault) (x : Bool) → refuse test fault ≡ Ok x → test ≡ false
refuse_ok true fault x is = absurd (cc)
refuse_ok false fault x is = refl
