-- Why lines aren't read.
use Rattle.std.specs.Prelude.{◌≡◌, ℕ, List, [], Option, Some, None, Result, Ok, Err}
use Rattle.iptables_reader.specs.declared.fault.LineKind.{LineKind}
use Rattle.iptables_reader.specs.declared.fault.LineKind.TheVariants.{MissingWord}
use Rattle.iptables_reader.specs.declared.fault.Stop.{Stop}
use Rattle.iptables_reader.specs.declared.fault.Stop.TheVariants as stopped
use Rattle.iptables_reader.specs.declared.fault.LineFault.{LineFault}
use Rattle.iptables_reader.specs.declared.fault.IptablesFault.{IptablesFault}
use Rattle.iptables_reader.specs.declared.fault.IptablesFault.TheVariants.{Line, OutOfMemory}

infixl 10 ◌>>=◌
-- what was read goes into what follows it, and a fault ends the reading
abbrev pub ◌>>=◌ : {A B : Type 0} → Result A LineKind → (A → Result B LineKind) → Result B LineKind
(Ok value) >>= following = following value
(Err kind) >>= following = Err kind

-- what a value adds, or the fault where there is no value
abbrev pub taken : {A B : Type 0} → LineKind → Option A → (A → B) → Result B LineKind
taken kind None add = Err kind
taken kind (Some value) add = Ok (add value)

-- what a line says isn't read, since it is faulty, or for want of memory
abbrev pub Refuses : {A : Type 0} → Result A LineKind → Stop → Type 0
Refuses said (stopped.Faulty kind) = said ≡ Err kind
Refuses said stopped.OutOfMemory = Unit {0}

-- what is said was made, or it isn't read
abbrev pub Makes : {A B : Type 0} → Result A LineKind → A → Result B Stop → Type 0
Makes said made (Ok value) = said ≡ Ok made
Makes said made (Err stop) = Refuses said stop

-- a word is missing where none is left
abbrev pub Lacks : List (List ℕ) → Stop → Type 0
Lacks words stop = (words ≡ []) × (stop ≡ stopped.Faulty MissingWord)

-- a list isn't read, since it has this fault, or for want of memory
abbrev pub Tells : {A : Type 0} → Result A LineFault → IptablesFault → Type 0
Tells said (Line fault) = said ≡ Err fault
Tells said OutOfMemory = Unit {0}
