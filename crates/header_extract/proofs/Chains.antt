-- How a chain of extension headers is followed.
use Rattle.std.proofs.Common.{◌≡◌, ℕ, zero, suc, ◌+◌, ◌*◌, ◌≤◌, ◌<◌, List, length, drop, slice_index, Bool, true, false}
use Rattle.std.proofs.Common.{not, ◌&&◌, ◌||◌, Ok, Err, Result, inl, inr, refl, arith}
use Rattle.std.specs.Prelude.{nat_le, ◌==◌, if◌then◌else◌, ◌⊎◌}
use Rattle.std.proofs.lemmas.List.{length-drop}
use Rattle.std.proofs.lemmas.Bool.{cases_Bool, leb-true, le-leb, lt-leb, eqb-true, not-true, not-false, and_parts}
use Rattle.std.proofs.lemmas.Bool.{or_parts}
use Rattle.header_extract.specs.declared.class.Class.{Class}
use Rattle.header_extract.specs.declared.class.Class.TheVariants.{Short}
use Rattle.header_extract.specs.declared.ip6.Upper.{Upper}
use Rattle.header_extract.specs.Class.{◌>>=◌}
use Rattle.header_extract.specs.Ports.{no_ports, ports_of}
use Rattle.header_extract.specs.Ip6.{Step, Leads, Ends, is_options, fragment, options_len, is_first_part, header_step}
use Rattle.header_extract.specs.Ip6.{followed, upper_within, upper_of}

-- a step goes on with fewer bytes
abbrev IsShorter : List ℕ → Result Step Class → Type 0
IsShorter left (Ok (Leads next rest)) = length rest + 8 ≤ length left
IsShorter left (Ok (Ends upper)) = Unit {0}
IsShorter left (Err class) = Unit {0}

-- the ports end the chain, so no step goes on
ports-shorter : (left : List ℕ) (protocol : ℕ) (ports : Result (List ℕ) Class) →
    IsShorter left (ports >>= λ four. Ok (Ends (record { protocol = protocol; ports = four })))
ports-shorter left protocol (Ok four) = tt
ports-shorter left protocol (Err class) = tt

-- each step goes on with at least 8 bytes less
header_step-shorter : (next : ℕ) (left : List ℕ) → IsShorter left (header_step next left)
header_step-shorter next left =
    elim (cases_Bool (is_options next)) [
      | inl options ↦ elim (cases_Bool (nat_le 8 (length left))) [
        | inl eight ↦ elim (cases_Bool (nat_le (options_len left) (length left))) [
          | inl whole ↦ rw (options, eight, whole)
              (omega (arith, leb-true _ _ eight, leb-true _ _ whole, length-drop (options_len left) left))
          | inr cut ↦ rw (options, eight, cut) tt
        ]
        | inr cut ↦ rw (options, cut) tt
      ]
      | inr others ↦ elim (cases_Bool (next == fragment)) [
        | inl part ↦ elim (cases_Bool (nat_le 8 (length left))) [
          | inl eight ↦ elim (cases_Bool (is_first_part left)) [
            | inl first ↦ rw (others, part, eight, first) (omega (arith, leb-true _ _ eight, length-drop 8 left))
            | inr later ↦ rw (others, part, eight, later) tt
          ]
          | inr cut ↦ rw (others, part, cut) tt
        ]
        | inr last ↦ rw (others, last) (ports-shorter left next (ports_of next left))
      ]
    ]

-- each step is one of three
step_cases : (step : Result Step Class) →
    ((next : ℕ) × (rest : List ℕ) × (step ≡ Ok (Leads next rest))) ⊎
    (((upper : Upper) × (step ≡ Ok (Ends upper))) ⊎ ((class : Class) × (step ≡ Err class)))
step_cases (Ok (Leads next rest)) = inl (next, rest, refl)
step_cases (Ok (Ends upper)) = inr (inl (upper, refl))
step_cases (Err class) = inr (inr (class, refl))

-- any fuel that is enough leads to the same
upper_within-fuel : (fuel more next : ℕ) (left : List ℕ) → length left < fuel → length left < more →
    upper_within fuel next left ≡ upper_within more next left
upper_within-fuel zero more next left enough also = absurd (omega arith)
upper_within-fuel (suc fuel) zero next left enough also = absurd (omega arith)
upper_within-fuel (suc fuel) (suc more) next left enough also =
    elim (step_cases (header_step next left)) [
      | inl leads ↦
          let shorter = rw leads.2 at (header_step-shorter next left) in
          rw leads.2 (upper_within-fuel fuel more leads.0 leads.1 (omega (arith, shorter)) (omega (arith, shorter)))
      | inr (inl ends) ↦ rw ends.1 refl
      | inr (inr fails) ↦ rw fails.1 refl
    ]

-- what a header leads to is what the chain after it leads to
pub upper_of-leads : (next after : ℕ) (left rest : List ℕ) → header_step next left ≡ Ok (Leads after rest) →
    upper_of next left ≡ upper_of after rest
upper_of-leads next after left rest leads =
    let shorter = rw leads at (header_step-shorter next left) in
    rw leads (upper_within-fuel (length left) (suc (length rest)) after rest (omega (arith, shorter)) (omega arith))

-- a header that ends the chain gives the protocol and the ports
pub upper_of-ends : (next : ℕ) (left : List ℕ) (upper : Upper) → header_step next left ≡ Ok (Ends upper) →
    upper_of next left ≡ Ok upper
upper_of-ends next left upper ends = rw ends refl

-- a header with a fault gives the fault
pub upper_of-fails : (next : ℕ) (left : List ℕ) (class : Class) → header_step next left ≡ Err class →
    upper_of next left ≡ Err class
upper_of-fails next left class fails = rw fails refl

-- an extension header of either kind, with its length
abbrev pub IsExtension : ℕ → Type 0
IsExtension next = (is_options next || next == fragment) ≡ true

-- 8 bytes for a fragment's header, and else as many as the header says
abbrev pub extension_len : ℕ → List ℕ → ℕ
extension_len next left = if next == fragment then 8 else 8 * (slice_index left 1 + 1)

-- the header is that of a fragment which isn't the first
abbrev pub is_later_part : ℕ → List ℕ → Bool
is_later_part next left = next == fragment && not (is_first_part left)

-- a fragment header is no header of options
fragment_is : (next : ℕ) → (next == fragment) ≡ true → is_options next ≡ false
fragment_is next part = let e = eqb-true next fragment part in rw e refl

-- the extension headers are those of options and of fragments
extension_cases : (next : ℕ) → IsExtension next →
    (is_options next ≡ true × (next == fragment) ≡ false) ⊎ (is_options next ≡ false × (next == fragment) ≡ true)
extension_cases next extension =
    elim (cases_Bool (next == fragment)) [
      | inl part ↦ inr (fragment_is next part, part)
      | inr others ↦ inl (grind (arith, extension, others), others)
    ]

-- an extension header with fewer than 8 bytes left is cut
pub header_step-short : (next : ℕ) (left : List ℕ) → IsExtension next → length left < 8 →
    header_step next left ≡ Err Short
header_step-short next left extension short =
    elim (extension_cases next extension) [
      | inl options ↦ rw (options.0, lt-leb 8 (length left) short) refl
      | inr part ↦ rw (part.0, part.1, lt-leb 8 (length left) short) refl
    ]

-- an extension header that is longer than what is left is cut
pub header_step-cut : (next len : ℕ) (left : List ℕ) → IsExtension next → 8 ≤ length left →
    is_later_part next left ≡ false → len ≡ extension_len next left →
    length left < len → header_step next left ≡ Err Short
header_step-cut next len left extension eight first is_len cut =
    elim (extension_cases next extension) [
      | inl options ↦
          let words : len ≡ options_len left = rw options.1 at is_len in
          rw (
            options.0,
            le-leb 8 (length left) eight,
            lt-leb (options_len left) (length left) (omega (arith, words)),
          ) refl
      | inr part ↦
          let words : len ≡ 8 = rw part.1 at is_len in
          absurd (omega arith)
    ]

-- a whole extension header leads to the header after it
pub header_step-leads : (next len : ℕ) (left : List ℕ) → IsExtension next → 8 ≤ length left →
    is_later_part next left ≡ false → len ≡ extension_len next left →
    len ≤ length left → header_step next left ≡ Ok (Leads (slice_index left 0) (drop len left))
header_step-leads next len left extension eight first is_len whole =
    elim (extension_cases next extension) [
      | inl options ↦
          let words : len ≡ options_len left = rw options.1 at is_len in
          rw (
            options.0,
            le-leb 8 (length left) eight,
            le-leb (options_len left) (length left) (omega (arith, words)),
            words,
          ) refl
      | inr part ↦
          let words : len ≡ 8 = rw part.1 at is_len in
          let is_first : is_first_part left ≡ true = not-false (is_first_part left) (rw part.1 at first) in
          rw (part.0, part.1, le-leb 8 (length left) eight, is_first, words) refl
    ]

-- a later fragment ends the chain without ports
pub header_step-later : (next : ℕ) (left : List ℕ) → 8 ≤ length left → is_later_part next left ≡ true →
    header_step next left ≡ Ok (Ends (record { protocol = slice_index left 0; ports = no_ports }))
header_step-later next left eight later =
    let both = and_parts (next == fragment) (not (is_first_part left)) later in
    rw (fragment_is next both.0, both.0, le-leb 8 (length left) eight, not-true (is_first_part left) both.1) refl

-- the ports after the last header, with its number
last_step : (next : ℕ) (left : List ℕ) (ports : Result (List ℕ) Class) →
    ((ports >>= λ four. Ok (Ends (record { protocol = next; ports = four })))
    >>= λ step. followed step (λ after rest. upper_within (length left) after rest))
    ≡ (ports >>= λ four. Ok (record { protocol = next; ports = four }))
last_step next left (Ok four) = refl
last_step next left (Err class) = refl

-- a header that is no extension header ends the chain, with the ports after it
pub upper_of-last : (next : ℕ) (left : List ℕ) (ports : Result (List ℕ) Class) →
    (is_options next || next == fragment) ≡ false → ports_of next left ≡ ports →
    upper_of next left ≡ (ports >>= λ four. Ok (record { protocol = next; ports = four }))
upper_of-last next left ports last is_ports =
    let both = or_parts (is_options next) (next == fragment) last in
    rw (both.0, both.1, is_ports) (last_step next left ports)
