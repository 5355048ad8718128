-- the values so far, and those of the words that are left, are those of all words
use Rattle.std.proofs.Common.{◌≡◌, ◌++◌, List, length}
use Rattle.std.specs.Option.{option_map}
use Rattle.field_defs.specs.declared.field.FieldValue.{FieldValue}
use Rattle.text_scan.specs.Parts.{words_of}
use Rattle.acl_session.specs.Values.{values_of}
use Rattle.acl_session.proofs.values.read_values.Given as goal

abbrev pub invariant-loop-word : goal.invariant-loop-word
invariant-loop-word l = values_of (words_of l.text)
    ≡ option_map (λ (others : List FieldValue). l.values.items ++ others) (values_of (words_of l.left))

abbrev pub decreases-loop-word : goal.decreases-loop-word
decreases-loop-word l = length l.left
