-- Examples of addresses under wildcard masks, each checked by evaluation. The addresses have four
-- bits here: bits before those go the same way.
use Rattle.std.specs.Prelude.{◌≡◌, ℕ, List, [], ◌∷◌, codes, map, Some, None, refl}
use Rattle.std.specs.Fmt.{digits}
use Rattle.list_chains.specs.declared.span.Span.{Span}
use Rattle.cisco_reader.specs.Wildcard.{gaps, ip4_plain, spans_from, under_mask}

-- the numbers from one to another
infixl 20 ◌to◌
abbrev ◌to◌ : ℕ → ℕ → Span
low to high = record { low = low; high = high }

-- what an address and a mask of four bits stand for
abbrev are_spans : List (ℕ × ℕ × List Span) → Type 0
are_spans rows = map (λ row. spans_from 4 row.0 row.1) rows ≡ map (λ row. row.2) rows

-- the last two bits don't count; all bits count; none does; two gaps before the last bit, which
-- counts; a gap before bits that don't count
spans : are_spans (
    (8, 3, (8 to 11) ∷ [])
    ∷ (9, 0, (9 to 9) ∷ [])
    ∷ (0, 15, (0 to 15) ∷ [])
    ∷ (8, 6, (8 to 8) ∷ (10 to 10) ∷ (12 to 12) ∷ (14 to 14) ∷ [])
    ∷ (0, 11, (0 to 3) ∷ (8 to 11) ∷ [])
    ∷ [])
unfolding spans_from
spans = refl

-- bits of the address that don't count are as if they were 0
bits_after : under_mask 11 3 ≡ under_mask 8 3
bits_after = refl

-- the bits at the end are no gaps
some_gaps : map (gaps 4) (11 ∷ 7 ∷ []) ≡ 1 ∷ 0 ∷ []
unfolding gaps
some_gaps = refl

-- an address has no zero before the digits of its numbers
addresses : map ip4_plain (codes "10.1.0.7" ∷ codes "010.1.0.7" ∷ []) ≡ Some 167837703 ∷ None ∷ []
unfolding digits
addresses = refl
