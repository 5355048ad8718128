-- Values that are read one after the other.
use Rattle.std.proofs.Common.{◌≡◌, ℕ, List, [], ◌∷◌, ◌++◌, Option, Some, None, refl, sym, ap, ◌∙◌, append_assoc}
use Rattle.std.specs.Option.{option_map}
use Rattle.field_defs.specs.declared.field.FieldValue.{FieldValue}
use Rattle.acl_session.specs.Values.{value_of, values_of}

-- one more value comes after those before it
more_of : (values : List FieldValue) (value : FieldValue) (rest : Option (List FieldValue)) →
    option_map (λ others. values ++ others) (option_map (λ others. value ∷ others) rest)
    ≡ option_map (λ others. (values ++ value ∷ []) ++ others) rest
more_of values value None = refl
more_of values value (Some others) = ap Some (sym (append_assoc values (value ∷ []) others))

-- one value more
pub values-more : (all rest : List (List ℕ)) (left : List (List ℕ)) (word : List ℕ) (values : List FieldValue)
    (value : FieldValue) → values_of all ≡ option_map (λ others. values ++ others) (values_of left)
    → left ≡ word ∷ rest → value_of word ≡ Some value
    → values_of all ≡ option_map (λ others. (values ++ value ∷ []) ++ others) (values_of rest)
values-more all rest left word values value so_far is said =
    so_far ∙ ap (λ words. option_map (λ others. values ++ others) (values_of words)) is
    ∙ rw said (more_of values value (values_of rest))
