-- What a block comes to: it is whole and takes bytes away, or it is a fault, or there is none.
use Rattle.std.proofs.Common.{◌≡◌, ℕ, ◌+◌, ◌-◌, ◌<◌, ◌≤◌, List, ◌++◌, length}
use Rattle.std.proofs.Common.{true, false}
use Rattle.std.proofs.Common.{Result, Ok, Err, inl, inr, refl, sym, subst, arith}
use Rattle.std.proofs.Common.{length-drop}
use Rattle.std.specs.Prelude.{⊤, Bool}
use Rattle.std.proofs.lemmas.Bool.{cases_eq, cases_lt}
use Rattle.pcap_reader.specs.declared.capture_fault.CaptureFault.{CaptureFault}
use Rattle.pcap_reader.specs.declared.capture_fault.CaptureFault.TheVariants.{PngCut, PngLength}
use Rattle.pcapng_reader.specs.Block.{BlockState, Block, End, Passed, Given, Fault}
use Rattle.pcapng_reader.specs.Block.{front_len, least_len}
use Rattle.pcapng_reader.specs.Block.{front_of}
use Rattle.pcapng_reader.specs.Block.{said_by, has_other_end}
use Rattle.pcapng_reader.specs.Block.{block_said, block_at}
use Rattle.pcapng_reader.specs.declared.front.Front.{Front}
use Rattle.pcapng_reader.specs.declared.said.Said.{Said}
use Rattle.pcapng_reader.specs.declared.said.Said.TheVariants as said
use Rattle.pcapng_reader.specs.BlockReading.{HasRoom, HasNoBlock}
use Rattle.pcapng_reader.proofs.BlockLaws.{block-none, HasFront, HasFront-from, front_least, said-cut_head, said-fault, said-cut, said-other_end, said-whole, block-front_fault, block-said_fault, block-whole, said-room}

-- a block takes its front away at least
abbrev pub IsShorterBlock : List ℕ → Block → Type 0
IsShorterBlock bytes End = ⊤
IsShorterBlock bytes (Passed state after) = length (state.first ++ after) + front_len ≤ length bytes
IsShorterBlock bytes (Given captured state after) = length (state.first ++ after) + front_len ≤ length bytes
IsShorterBlock bytes (Fault fault) = ⊤

-- a block takes its front away at least, whatever it says
said_shorter : (x : Said) (state : BlockState) (front : Front) (bytes : List ℕ) → front_len ≤ front.total →
    front.total ≤ length bytes → IsShorterBlock bytes (block_said state front x bytes)
said_shorter said.Section state front bytes least whole = omega (arith, least, whole, length-drop front.total bytes)
said_shorter (said.Interface link) state front bytes least whole =
    omega (arith, least, whole, length-drop front.total bytes)
said_shorter (said.Packet link captured) state front bytes least whole =
    omega (arith, least, whole, length-drop front.total bytes)
said_shorter said.Other state front bytes least whole = omega (arith, least, whole, length-drop front.total bytes)

-- What a block that has a front comes to: a fault, or it is whole.
pub data Came (state : BlockState) (bytes : List ℕ) : Type 0 where
  Empty : length bytes ≡ 0 → block_at state bytes ≡ End → Came state bytes
  Faulty : (fault : CaptureFault) → 0 < length bytes → block_at state bytes ≡ Fault fault → Came state bytes
  Whole : (front : Front) (x : Said) → front_of state bytes ≡ Ok front → HasFront state bytes front →
      HasRoom state front x → front.total ≤ length bytes → block_at state bytes ≡ block_said state front x bytes →
      Came state bytes

-- and it comes to one of these
pub came : (state : BlockState) (bytes : List ℕ) → Came state bytes
came state bytes = elim (cases_eq (length bytes) 0) [
  | inl none ↦ Empty none (block-none state bytes none)
  | inr some ↦ by_front (omega (arith, some)) (front_of state bytes) refl
]
  where
    by_end : (front : Front) (x : Said) → front_of state bytes ≡ Ok front → HasFront state bytes front →
        least_len front.kind - 4 ≤ length bytes → said_by front.kind state front bytes ≡ Ok x →
        front.total ≤ length bytes → (other : Bool) → has_other_end front bytes ≡ other → Came state bytes
    by_end front x is facts there says whole true other =
        Faulty (PngLength (state.count + 1)) (omega (arith, facts.there))
        (block-said_fault state bytes front _ is (said-other_end state front bytes x there says whole other))
    by_end front x is facts there says whole false other =
        Whole front x is facts (said-room front.kind state front bytes x says) whole
        (block-whole state bytes front x is (said-whole state front bytes x there says whole other))

    by_said : (front : Front) → front_of state bytes ≡ Ok front → HasFront state bytes front →
        least_len front.kind - 4 ≤ length bytes → (r : Result Said CaptureFault) →
        said_by front.kind state front bytes ≡ r → Came state bytes
    by_said front is facts there (Err fault) says =
        Faulty fault (omega (arith, facts.there))
        (block-said_fault state bytes front fault is (said-fault state front bytes fault there says))
    by_said front is facts there (Ok x) says = elim (cases_lt (length bytes) front.total) [
      | inl cut ↦ Faulty (PngCut (state.count + 1)) (omega (arith, facts.there))
          (block-said_fault state bytes front _ is (said-cut state front bytes x there says cut))
      | inr whole ↦ by_end front x is facts there says whole (has_other_end front bytes) refl
    ]

    by_front : 0 < length bytes → (r : Result Front CaptureFault) → front_of state bytes ≡ r → Came state bytes
    by_front some (Err fault) is = Faulty fault some (block-front_fault state bytes fault some is)
    by_front some (Ok front) is =
        let facts = HasFront-from state bytes front is in
        elim (cases_lt (length bytes) (least_len front.kind - 4)) [
          | inl cut ↦ Faulty (PngCut (state.count + 1)) some
              (block-said_fault state bytes front _ is (said-cut_head state front bytes cut))
          | inr there ↦ by_said front is facts there (said_by front.kind state front bytes) refl
        ]

-- each block takes its front away at least
pub block-shorter : (state : BlockState) (bytes : List ℕ) → IsShorterBlock bytes (block_at state bytes)
block-shorter state bytes = go (came state bytes)
  where
    go : Came state bytes → IsShorterBlock bytes (block_at state bytes)
    go (Empty none is) = subst (IsShorterBlock bytes) (sym is) tt
    go (Faulty fault some is) = subst (IsShorterBlock bytes) (sym is) tt
    go (Whole front x is facts room whole says) =
        subst (IsShorterBlock bytes) (sym says)
        (said_shorter x state front bytes (omega (arith, facts.least, front_least front.kind)) whole)

-- Bytes that the end of the file cuts begin with no whole block.
pub short-stuck : (state : BlockState) (bytes : List ℕ) (total : ℕ) → length bytes < total →
    ((front : Front) → front_of state bytes ≡ Ok front → total ≤ front.total) → HasNoBlock (block_at state bytes)
short-stuck state bytes total cut least = go (came state bytes)
  where
    go : Came state bytes → HasNoBlock (block_at state bytes)
    go (Empty none is) = subst HasNoBlock (sym is) tt
    go (Faulty fault some is) = subst HasNoBlock (sym is) tt
    go (Whole front x is facts room whole says) = absurd (omega (arith, cut, least front is, whole))
