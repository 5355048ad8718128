-- The word at a place, as the code reads it.
use Rattle.std.proofs.Common.{◌≡◌, ℕ, List, ◌+◌, refl, sym, length, map, get_or, true, false, Option, Err}
use Rattle.std.specs.Prelude.{nat_le, nat_lt}
use Rattle.std.specs.Option.{ok_or}
use Rattle.std.proofs.lemmas.Bool.{ltb-true, ltb-false}
use Rattle.std.proofs.lemmas.Option.{slice_get-map, slice_get_past, slice_get_read}
use Rattle.command_words.specs.declared.usage_fault.UsageFault.{UsageFault}
use Rattle.command_words.specs.declared.usage_fault.UsageKind.TheVariants.{MissingName, BadValue}
use Rattle.command_words.specs.Options.{lawful, number_in}
use Rattle.command_words.specs.BenchWords.{number_at}

-- the fault of the word
abbrev pub bad : ℕ → UsageFault
bad place = record { word = place + 2; kind = BadValue }

module _ {X : Type 0} (bytes : X → List ℕ) (words : List X) (place greatest : ℕ) where
  -- there is none
  pub missing : false ≡ nat_lt place (length words) →
      Err (record { word = place + 2; kind = MissingName }) ≡ number_at (map bytes words) place greatest
  missing past =
      rw (slice_get-map bytes words place, slice_get_past words place (ltb-false place (length words) (sym past))) refl

  -- there is one, and this is its number, where it is lawful
  pub there : (word : X) (found : Option ℕ) → true ≡ nat_lt place (length words) → word ≡ get_or words place word →
      found ≡ lawful (λ value. nat_le value greatest) (number_in (bytes word)) →
      ok_or found (bad place) ≡ number_at (map bytes words) place greatest
  there word found within read is =
      rw (
        slice_get-map bytes words place,
        slice_get_read words (length words) place word refl
            (ltb-true place (length words) (sym within)) read,
        is,
      ) refl
