-- The lines of a list that were cut off so far, and the lines of a rule file that were made.
use Rattle.std.proofs.Common.{◌≡◌, ℕ, ◌+◌, ◌<◌, List, [], ◌∷◌, ◌++◌, map, length, get_or, refl, sym, ap, ◌∙◌}
use Rattle.std.proofs.lemmas.List.{append-nil, append_assoc, map_push}
use Rattle.rule_set.specs.Rule.{RuleView}
use Rattle.text_scan.specs.Parts.{lines_of}
use Rattle.printed_lists.specs.Listed.{LineView}
use Rattle.list_lemmas.proofs.Loops.{Writes, writes_more}
use Rattle.list_tool.specs.declared.words.Form.{Form}
use Rattle.list_tool.specs.Printed.{after_comment, comment_of, commented, number_at, number_before}

module _ {X : Type 0} (f : X → List ℕ) (items : List X) (left : List ℕ) (all : List (List ℕ))
    (so_far : (map f items ++ lines_of left) ≡ all) where
  -- one line more was cut off
  pub more_lines : (more : List X) (line : X) (rest : List ℕ) → more ≡ items ++ line ∷ [] →
      lines_of left ≡ f line ∷ lines_of rest → (map f more ++ lines_of rest) ≡ all
  more_lines more line rest pushed cut =
      ap (λ xs. map f xs ++ lines_of rest) pushed
      ∙ ap (λ xs. xs ++ lines_of rest) (map_push f items line)
      ∙ append_assoc (map f items) (f line ∷ []) (lines_of rest)
      ∙ ap (λ xs. map f items ++ xs) (sym cut) ∙ so_far

  -- none is left
  pub all_lines : lines_of left ≡ [] → map f items ≡ all
  all_lines none = sym (append-nil (map f items)) ∙ ap (λ xs. map f items ++ xs) (sym none) ∙ so_far

-- one rule more was put, after its comment
pub more_rules : (form : Form) (lines : List (List ℕ)) (by_line rules : List RuleView) (place : ℕ)
    (old new all : List LineView)
    (rule other : RuleView) → Writes (commented form lines by_line place) rules place old all → place < length rules →
    rule ≡ get_or rules place other →
    new ≡ old
    ++ after_comment (comment_of form lines (number_before by_line place) (number_at by_line place)) rule →
    Writes (commented form lines by_line (place + 1)) rules (place + 1) new all
more_rules form lines by_line rules place old new all rule other so_far below is put =
    writes_more other
    (after_comment (comment_of form lines (number_before by_line place) (number_at by_line place)) rule)
    so_far below is put refl
