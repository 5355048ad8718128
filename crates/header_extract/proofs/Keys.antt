-- Keys, as they are written and as the layers give them.
use Rattle.std.proofs.Common.{◌≡◌, ℕ, ◌+◌, List, ◌∷◌, ◌++◌, length, drop, Ok, Result, refl, sym, subst, ap, ◌∙◌, arith}
use Rattle.std.proofs.Common.{length-append}
use Rattle.header_extract.specs.declared.class.Class.{Class}
use Rattle.header_extract.specs.Class.{FrameClass}
use Rattle.header_extract.specs.Extracted.{key_len, Extracts}

-- The parts of a key: the addresses stand by themselves and, one after the other, as the packet has them.
pub record KeyParts : Type 0 where
  pub protocol : ℕ
  pub source : List ℕ
  pub destination : List ℕ
  pub addresses : List ℕ
  pub ports : List ℕ

-- A key was written from its parts, and the frame has the key of these parts.
pub record IsWritten (frame : Result FrameClass Class) (answer : Class) (parts : KeyParts) (old new : List ℕ)
    : Type 0 where
  pub is_frame : frame ≡ Ok
      (record { class = answer; key = parts.protocol ∷ (parts.source ++ parts.destination ++ parts.ports) })
  pub both : parts.addresses ≡ parts.source ++ parts.destination
  pub four : length parts.ports ≡ 4
  pub whole : 5 + length parts.addresses ≡ key_len answer
  pub written : new ≡ (parts.protocol ∷ parts.addresses ++ parts.ports) ++ drop (5 + length parts.addresses) old

-- A key that was written from parts is the key of the frame, and what stands after it stays.
pub Extracts-written : (frame : Result FrameClass Class) (answer : Class) (parts : KeyParts) (old new : List ℕ) →
    IsWritten frame answer parts old new → Extracts frame old new answer
Extracts-written frame answer parts old new is =
    let protocol = parts.protocol in
    let addresses = parts.addresses in
    let ports = parts.ports in
    let joined : addresses ++ ports ≡ parts.source ++ parts.destination ++ ports =
    ap (λ (l : List ℕ). l ++ ports) is.both in
    let long : 5 + length addresses ≡ length (protocol ∷ (addresses ++ ports)) =
    omega (arith, length-append addresses ports, is.four) in
    let key : List ℕ → Type 0 = λ l. new ≡ (protocol ∷ l) ++ drop (length (protocol ∷ l)) old in
    let after = ap (λ (n : ℕ). (protocol ∷ (addresses ++ ports)) ++ drop n old) long in
    let len = ap (λ (l : List ℕ). length (protocol ∷ l)) (sym joined) ∙ sym long ∙ is.whole in
    rw is.is_frame (record { class = refl; len = len; key = subst key joined (is.written ∙ after) })
