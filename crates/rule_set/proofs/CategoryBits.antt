-- A category mask names some of the first categories exactly where its low bits aren't all 0.
use Rattle.std.proofs.Common.{◌≡◌, ◌%◌, ◌^◌, ◌==◌, not, sym, ap, ◌∙◌}
use Rattle.std.specs.Prelude.{bit_and}
use Rattle.std.specs.List.{list_any}
use Rattle.std.proofs.Math.Nat.{div-one}
use Rattle.std.proofs.lemmas.Nat.{and_mask}
use Rattle.rule_set.specs.declared.rule.RuleTag.{RuleTag}
use Rattle.rule_set.specs.Fault.{categories}
use Rattle.rule_set.specs.Winner.{is_in_category}
use Rattle.list_lemmas.proofs.Bits.{some_bit_from}

-- the mask has a category exactly where its low 16 bits aren't all 0
pub some_category : (tag : RuleTag) → not (bit_and tag.category_mask 65535 == 0)
    ≡ list_any (is_in_category tag) categories
unfolding categories
some_category tag =
    ap (λ low. not (low == 0)) (and_mask tag.category_mask 16)
    ∙ ap (λ mask. not (mask % 2 ^ 16 == 0)) (sym (div-one tag.category_mask))
    ∙ sym (some_bit_from tag.category_mask 0 16)
