-- What a word adds to the options, by the first option that it names.
use Rattle.std.proofs.Common.{◌≡◌, List, ℕ, ◌&&◌, refl, ap, true, false, Option, Some, None, Ok, Err}
use Rattle.std.specs.Option.{option_map}
use Rattle.command_words.specs.declared.allowed.Allowed.{Allowed}
use Rattle.command_words.specs.declared.usage_fault.UsageKind.{UsageKind}
use Rattle.command_words.specs.declared.usage_fault.UsageKind.TheVariants.{RepeatedOption, BadValue}
use Rattle.command_words.specs.Options.{Given, adds, begins_with, once, value_of, with_option, with_switch}
use Rattle.command_words.specs.Options.{categories_in, categories_option, walk_in, walk_option}
use Rattle.command_words.specs.Options.{budget_in, max_words_option}

-- the value of the code has a fault, and so has that of the definitions
pub is_fault : {A B : Type 0} (f : A → B) (with_value : B → Given) (before value : Option A) (kind : UsageKind) →
    once before value ≡ Err kind → adds with_value (once (option_map f before) (option_map f value)) ≡ Err kind
is_fault f with_value (Some before) value kind e = (let same : RepeatedOption ≡ kind = cc in ap Err same)
is_fault f with_value None None kind e = (let same : BadValue ≡ kind = cc in ap Err same)
is_fault f with_value None (Some value) kind e = absurd (cc)

-- or it is added
pub is_added : {A B : Type 0} (f : A → B) (with_value : B → Given) (before value : Option A) (chosen : A) →
    once before value ≡ Ok chosen →
    adds with_value (once (option_map f before) (option_map f value)) ≡ Ok (with_value (f chosen))
is_added f with_value (Some before) value chosen e = absurd (cc)
is_added f with_value None None chosen e = absurd (cc)
is_added f with_value None (Some value) chosen e =
    (let same : value ≡ chosen = cc in ap (λ x. Ok (with_value (f x))) same)

module _ (allowed : Allowed) (given : Given) (word : List ℕ) where
  -- a word that begins with the first option adds the number of categories
  pub first_option : (allowed.categories && begins_with categories_option word) ≡ true →
      with_option allowed given word ≡ adds (λ count. record given { categories = Some count })
      (once given.categories (categories_in (value_of categories_option word)))
  first_option is = rw is refl

  module _ (not_first : (allowed.categories && begins_with categories_option word) ≡ false) where
    -- a word that begins with the second option adds the walk
    pub second_option : (allowed.walk && begins_with walk_option word) ≡ true →
        with_option allowed given word ≡ adds (λ walk. record given { walk = Some walk })
        (once given.walk (walk_in (value_of walk_option word)))
    second_option is = rw not_first (rw is refl)

    module _ (not_second : (allowed.walk && begins_with walk_option word) ≡ false) where
      -- a word that begins with the third option adds the budget
      pub third_option : (allowed.max_words && begins_with max_words_option word) ≡ true →
          with_option allowed given word ≡ adds (λ words. record given { max_words = Some words })
          (once given.max_words (budget_in (value_of max_words_option word)))
      third_option is = rw not_first (rw not_second (rw is refl))

      -- any other word adds a switch, or nothing
      pub no_option : (allowed.max_words && begins_with max_words_option word) ≡ false →
          with_option allowed given word ≡ with_switch allowed given word
      no_option none = rw not_first (rw not_second (rw none refl))
