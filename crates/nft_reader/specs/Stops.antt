-- Steps that may fail, one after the other, and how code tells their faults or a want of memory.
use Rattle.std.specs.Prelude.{◌≡◌, List, [], ◌∷◌, Option, Some, None, Result, Ok, Err, Vec}
use Rattle.list_packets.specs.declared.packets.Packets.{Packets}
use Rattle.list_packets.specs.Packets.{CaughtBoxes}
use Rattle.nft_reader.specs.declared.fault.RuleKind.{RuleKind}
use Rattle.nft_reader.specs.declared.fault.RuleKind.TheVariants as kind
use Rattle.nft_reader.specs.declared.fault.Stop.{Stop}
use Rattle.nft_reader.specs.declared.fault.Stop.TheVariants as stop
use Rattle.nft_reader.specs.declared.fault.ObjectFault.{ObjectFault}
use Rattle.nft_reader.specs.declared.fault.NftFault.{NftFault}
use Rattle.nft_reader.specs.declared.fault.NftFault.TheVariants.{Object, OutOfMemory}

-- ---- steps

infixl 10 ◌>>=◌
-- a value, and then what comes of it, or its fault
abbrev pub ◌>>=◌ : {A B E : Type 0} → Result A E → (A → Result B E) → Result B E
(Ok value) >>= following = following value
(Err fault) >>= following = Err fault

-- what is known, or else a cause
abbrev pub or_cause : {A K : Type 0} → K → Option A → Result A K
or_cause why None = Err why
or_cause why (Some known) = Ok known

-- what is known, or else no rule file says it
abbrev pub or_cant : {A : Type 0} → Option A → Result A RuleKind
or_cant known = or_cause kind.CantSay known

-- what the elements of a list make of a value, one after the other, or the first fault
unfoldable pub folded : {A X E : Type 0} → (A → X → Result A E) → A → List X → Result A E
folded step made [] = Ok made
folded step made (x ∷ xs) = step made x >>= λ more. folded step more xs

-- ---- how code tells this

-- a fault, or want of memory
abbrev pub Refuses : {A K : Type 0} → Result A K → Stop K → Type 0
Refuses said (stop.Told why) = said ≡ Err why
Refuses said stop.OutOfMemory = Unit {0}

-- the value that is said, or its fault, or want of memory
abbrev pub Gives : {A K : Type 0} → Result A (Stop K) → Result A K → Type 0
Gives (Ok value) said = said ≡ Ok value
Gives (Err halt) said = Refuses said halt

-- the same of a list of items
abbrev pub GivesItems : {A B K : Type 0} → Result (Vec A B) (Stop K) → Result (List A) K → Type 0
GivesItems (Ok value) said = said ≡ Ok value.items
GivesItems (Err halt) said = Refuses said halt

-- the same of the packets that are kept
abbrev pub GivesKept : {K : Type 0} → Result CaughtBoxes (Stop K) → Result (List Packets) K → Type 0
GivesKept (Ok value) said = said ≡ Ok value.kept
GivesKept (Err halt) said = Refuses said halt

-- a step leaves what is said
abbrev pub Leaves : {U A K : Type 0} → Result U (Stop K) → A → Result A K → Type 0
Leaves (Ok done) left said = said ≡ Ok left
Leaves (Err halt) left said = Refuses said halt

-- a fault that is told is that of what was read; want of memory is none
abbrev pub IsToldOf : {A : Type 0} → Result A ObjectFault → NftFault → Type 0
IsToldOf read (Object fault) = read ≡ Err fault
IsToldOf read OutOfMemory = Unit {0}
