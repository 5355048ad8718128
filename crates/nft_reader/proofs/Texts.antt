-- What a text says: that of its document, if it is UTF-8.
use Rattle.std.proofs.Common.{◌≡◌, ℕ, List, None, Err, refl, inl, inr}
use Rattle.std.specs.Str.{IsUtf8, is_utf8}
use Rattle.std.proofs.lemmas.Bool.{cases_Bool}
use Rattle.std.proofs.lemmas.Str.{IsUtf8-from_is_utf8, is_utf8-from_IsUtf8}
use Rattle.json.specs.Json.{document}
use Rattle.nft_reader.specs.declared.fault.ObjectKind.TheVariants.{NotJson}
use Rattle.nft_reader.specs.Known.{Question}
use Rattle.nft_reader.specs.Ruleset.{chains_of_document, chains_of_text, whole_fault}

-- a text that is UTF-8
pub text_is : (name : List ℕ) (question : Question) (bytes : List ℕ) → IsUtf8 bytes →
    chains_of_text name question bytes ≡ chains_of_document name question (document bytes)
text_is name question bytes is = rw (is_utf8-from_IsUtf8 bytes is) refl

-- one that is no JSON, or isn't UTF-8
pub no_text : (name : List ℕ) (question : Question) (bytes : List ℕ) → (IsUtf8 bytes → document bytes ≡ None) →
    chains_of_text name question bytes ≡ Err (whole_fault NotJson)
no_text name question bytes none =
    elim (cases_Bool (is_utf8 bytes)) [
      | inl valid ↦ rw valid (rw (none (IsUtf8-from_is_utf8 bytes valid)) refl)
      | inr other ↦ rw other refl
    ]
