-- The lines of a list that were written so far.
use Rattle.std.proofs.Common.{◌≡◌, ℕ, ◌+◌, ◌<◌, ◌≤◌, List, [], ◌∷◌, ◌++◌, length, take, get_or, flat_map, All, sym}
use Rattle.std.proofs.Common.{ap, subst, ◌∙◌, refl}
use Rattle.std.specs.List.{AllByRecursion}
use Rattle.std.proofs.lemmas.List.{take_all}
use Rattle.std.proofs.lemmas.List.Concat.{flat_map-cons}
use Rattle.std.proofs.lemmas.List.Elements.{All-from_recursion}
use Rattle.field_defs.specs.declared.field.Family.{Family}
use Rattle.list_lemmas.proofs.Elements.{all_map}
use Rattle.list_lemmas.proofs.Loops.{Joined, gone_is, joined_more, joined_all}
use Rattle.printed_lists.specs.declared.list_line.ListLine.{ListLine}
use Rattle.printed_lists.specs.Listed.{FitsLineTag, line_view, line_views, written_line, list_text}

-- the text of a line of the code
abbrev pub line_text_of : Family → ListLine → List ℕ
line_text_of its line = written_line its (line_view line)

-- its rule, if it has one, has numbers of 32 bits
abbrev pub FitsCodeTag : ListLine → Type 0
FitsCodeTag line = FitsLineTag (line_view line)

-- so many lines were written after the old text, and each is such
pub record AreWritten (its : Family) (lines : List ListLine) (k : ℕ) (old made : List ℕ) : Type 0 where
  pub text : Joined (line_text_of its) lines k old made
  pub fits : AllByRecursion FitsCodeTag (take k lines)

-- what holds of some elements and of one more holds of all
all_more : {X : Type 0} (P : X → Type 0) (xs : List X) (x : X) → AllByRecursion P xs → P x
    → AllByRecursion P (xs ++ x ∷ [])
all_more P [] x all this = (this, tt)
all_more P (y ∷ xs) x all this = (all.0, all_more P xs x all.1 this)

-- one more
pub written_more : {its : Family} {lines : List ListLine} {k : ℕ} {old made more : List ℕ} {line : ListLine}
    (d : ListLine) → AreWritten its lines k old made → k < length lines → line ≡ get_or lines k d
    → more ≡ made ++ line_text_of its line → FitsCodeTag line → AreWritten its lines (k + 1) old more
written_more {lines = lines} {k = k} {line = line} d so_far below is pushed fits = record {
  text = joined_more d so_far.text below is pushed;
  fits =
      subst (AllByRecursion FitsCodeTag) (sym (gone_is lines k d below is))
      (all_more FitsCodeTag (take k lines) line so_far.fits fits);
}

-- the lines of the code, one after the other, are the text of the list
views_text : (its : Family) (lines : List ListLine)
    → flat_map (line_text_of its) lines ≡ list_text its (line_views lines)
views_text its [] = refl
views_text its (line ∷ lines) =
    flat_map-cons (line_text_of its) line lines
    ∙ ap (λ text. line_text_of its line ++ text) (views_text its lines)
    ∙ sym (flat_map-cons (written_line its) (line_view line) (line_views lines))

-- at the end that text was written
pub written_text : {its : Family} {lines : List ListLine} {k : ℕ} {old made : List ℕ}
    → AreWritten its lines k old made → length lines ≤ k → made ≡ old ++ list_text its (line_views lines)
written_text {its = its} {lines = lines} {old = old} so_far end =
    joined_all so_far.text end ∙ ap (λ text. old ++ text) (views_text its lines)

-- and all are such
pub written_fits : {its : Family} {lines : List ListLine} {k : ℕ} {old made : List ℕ}
    → AreWritten its lines k old made → length lines ≤ k → All FitsLineTag (line_views lines)
written_fits {lines = lines} {k = k} so_far end =
    All-from_recursion FitsLineTag (line_views lines)
    (all_map FitsCodeTag FitsLineTag line_view (λ line has. has) lines
    (subst (AllByRecursion FitsCodeTag) (take_all k lines end) so_far.fits))
