-- The marks of chains settle: in as many turns as there are chains all are marked that ever are.
use Rattle.std.proofs.Common.{◌≡◌, ℕ, zero, suc, ◌+◌, ◌-◌, ◌<◌, ◌≤◌, List, [], ◌∷◌, length, map, Bool, true, false, ◌⊎◌, inl, inr}
use Rattle.std.proofs.Common.{refl, sym, ap, ◌∙◌, arith, ⊎_elim}
use Rattle.std.specs.Option.{option_map_or}
use Rattle.std.specs.List.{list_all}
use Rattle.std.proofs.lemmas.Bool.{false≢true}
use Rattle.std.proofs.lemmas.List.{length-map}
use Rattle.list_lemmas.proofs.Elements.{list_all_weaker}
use Rattle.list_chains.specs.declared.chain.Target.{Target}
use Rattle.list_chains.specs.declared.chain.Target.TheVariants.{Decide, Return, Jump, Go}
use Rattle.list_chains.specs.Chains.{ListRule, at_or}
use Rattle.list_chains.specs.Jumps.{ending, led_to, leads_well, shallow}
use Rattle.list_chains.specs.Tasks.{Chains}

-- what is marked in the one is marked in the other
abbrev Within : List Bool → List Bool → Type 0
Within ones others = (place : ℕ) → at_or ones place false ≡ true → at_or others place false ≡ true

-- what leads to a marked chain does so by more marks
more_targets : (ones others : List Bool) → Within ones others → (target : Target)
    → option_map_or (λ place. at_or ones place false) (led_to target) true ≡ true
    → option_map_or (λ place. at_or others place false) (led_to target) true ≡ true
more_targets ones others within Decide e = refl
more_targets ones others within Return e = refl
more_targets ones others within (Jump place) e = within place e
more_targets ones others within (Go place) e = within place e

-- the marks of one turn more
abbrev turn : Chains → List Bool → List Bool
turn chains marks = map (list_all (leads_well marks)) chains

-- more marks make more marks
more_marks : (chains : Chains) (ones others : List Bool) → Within ones others
    → Within (turn chains ones) (turn chains others)
more_marks [] ones others within place e = absurd (false≢true e)
more_marks (chain ∷ chains) ones others within zero e =
    list_all_weaker (leads_well ones) (leads_well others) chain
    (λ rule. more_targets ones others within rule.target) e
more_marks (chain ∷ chains) ones others within (suc place) e = more_marks chains ones others within place e

-- a turn takes no mark away
marks_stay : (chains : Chains) (turns : ℕ) → Within (shallow turns chains) (shallow (suc turns) chains)
marks_stay chains zero place e = absurd (false≢true e)
marks_stay chains (suc turns) place e =
    more_marks chains (shallow turns chains) (shallow (suc turns) chains) (marks_stay chains turns) place e

-- how many are marked
abbrev marked : List Bool → ℕ
marked [] = 0
marked (true ∷ marks) = suc (marked marks)
marked (false ∷ marks) = marked marks

-- of as many, with what is marked in the one marked in the other, more are marked, or they are the same
grown : (ones others : List Bool) → length ones ≡ length others → Within ones others
    → (ones ≡ others) ⊎ (marked ones < marked others)
grown [] [] same within = inl refl
grown [] (mark ∷ others) same within = absurd (omega (arith, same))
grown (mark ∷ ones) [] same within = absurd (omega (arith, same))
grown (true ∷ ones) (true ∷ others) same within =
    ⊎_elim (λ is. inl (ap (λ marks. true ∷ marks) is)) (λ fewer. inr (omega (arith, fewer)))
    (grown ones others (omega (arith, same)) (λ place. within (suc place)))
grown (true ∷ ones) (false ∷ others) same within = absurd (false≢true (within 0 refl))
grown (false ∷ ones) (true ∷ others) same within =
    ⊎_elim (λ is. inr (omega (arith, ap marked is))) (λ fewer. inr (omega (arith, fewer)))
    (grown ones others (omega (arith, same)) (λ place. within (suc place)))
grown (false ∷ ones) (false ∷ others) same within =
    ⊎_elim (λ is. inl (ap (λ marks. false ∷ marks) is)) (λ fewer. inr (omega (arith, fewer)))
    (grown ones others (omega (arith, same)) (λ place. within (suc place)))

-- where none is marked
none_marked : (marks : List Bool) → marked marks ≡ 0 → (place : ℕ) → at_or marks place false ≡ false
none_marked [] none place = refl
none_marked (true ∷ marks) none place = absurd (omega (arith, none))
none_marked (false ∷ marks) none zero = refl
none_marked (false ∷ marks) none (suc place) = none_marked marks none place

-- no more are marked than there are
marked_few : (marks : List Bool) → marked marks ≤ length marks
marked_few [] = omega arith
marked_few (true ∷ marks) = omega (arith, marked_few marks)
marked_few (false ∷ marks) = omega (arith, marked_few marks)

-- and fewer where one isn't marked
one_unmarked : (marks : List Bool) (place : ℕ) → place < length marks → at_or marks place false ≡ false
    → marked marks < length marks
one_unmarked [] place there e = absurd (omega (arith, there))
one_unmarked (true ∷ marks) zero there e = absurd (false≢true (sym e))
one_unmarked (false ∷ marks) zero there e = omega (arith, marked_few marks)
one_unmarked (true ∷ marks) (suc place) there e =
    omega (arith, one_unmarked marks place (omega (arith, there)) e)
one_unmarked (false ∷ marks) (suc place) there e =
    omega (arith, one_unmarked marks place (omega (arith, there)) e)

-- one number is 0 or above
none_or_some : (n : ℕ) → (n ≡ 0) ⊎ (0 < n)
none_or_some zero = inl refl
none_or_some (suc n) = inr (omega arith)

-- there are as many marks as chains
marks_length : (chains : Chains) (turns : ℕ) → length (shallow (suc turns) chains) ≡ length chains
marks_length chains turns = length-map chains (list_all (leads_well (shallow turns chains)))

-- where the first turn marks nothing, no turn does
first_settled : (chains : Chains) → marked (shallow 1 chains) ≡ 0 → shallow 2 chains ≡ shallow 1 chains
first_settled chains none =
    ⊎_elim (λ is. is) (λ fewer. absurd (omega (arith, fewer, none)))
    (grown (shallow 2 chains) (shallow 1 chains) (marks_length chains 1 ∙ sym (marks_length chains 0))
    (more_marks chains (shallow 1 chains) []
    (λ place e. absurd (false≢true (sym (none_marked (shallow 1 chains) none place) ∙ e)))))

-- after so many turns the marks are settled, or more than so many chains are marked
settled : (chains : Chains) (turns : ℕ)
    → (shallow (suc (suc turns)) chains ≡ shallow (suc turns) chains) ⊎ (turns < marked (shallow (suc turns) chains))
settled chains zero =
    ⊎_elim (λ none. inl (first_settled chains none)) (λ some. inr some) (none_or_some (marked (shallow 1 chains)))
settled chains (suc turns) =
    ⊎_elim (λ same. inl (ap (turn chains) same))
    (λ many. ⊎_elim (λ same. inl (ap (turn chains) (sym same))) (λ fewer. inr (omega (arith, many, fewer)))
    (grown (shallow (suc turns) chains) (shallow (suc (suc turns)) chains)
    (marks_length chains turns ∙ sym (marks_length chains (suc turns))) (marks_stay chains (suc turns))))
    (settled chains turns)

-- the mark of the chain of a place
mark_is : (test : List (ListRule _) → Bool) (chains : Chains) (place : ℕ) → place < length chains
    → at_or (map test chains) place false ≡ test (at_or chains place [])
mark_is test [] place there = absurd (omega (arith, there))
mark_is test (chain ∷ chains) zero there = refl
mark_is test (chain ∷ chains) (suc place) there = mark_is test chains place (omega (arith, there))

-- a chain that isn't marked in as many turns as there are chains has a rule that leads to no marked one
bad_by : (chains : Chains) (turns place : ℕ) → length chains ≡ suc turns → place < length chains
    → at_or (shallow (suc turns) chains) place false ≡ false
    → list_all (leads_well (shallow (suc turns) chains)) (at_or chains place []) ≡ false
bad_by chains turns place count there e =
    ⊎_elim
    (λ same. sym (mark_is (list_all (leads_well (shallow (suc turns) chains))) chains place there)
    ∙ ap (λ marks. at_or marks place false) same ∙ e)
    (λ many. absurd (omega (
      arith,
      many,
      count,
      marks_length chains turns,
      one_unmarked (shallow (suc turns) chains) place (omega (arith, there, marks_length chains turns)) e,
    )))
    (settled chains turns)

-- and so has one without a mark
pub bad_chains : (chains : Chains) (place : ℕ) → place < length chains → at_or (ending chains) place false ≡ false
    → list_all (leads_well (ending chains)) (at_or chains place []) ≡ false
bad_chains [] place there e = absurd (omega (arith, there))
bad_chains (chain ∷ chains) place there e = bad_by (chain ∷ chains) (length chains) place refl there e

-- a turn that changes no mark is the last that could: so many turns more change none either
unchanged : (chains : Chains) (turns more all : ℕ) → all ≡ more + turns
    → shallow (suc turns) chains ≡ shallow turns chains → shallow all chains ≡ shallow turns chains
unchanged chains turns zero all is same = ap (λ n. shallow n chains) (omega (arith, is))
unchanged chains turns (suc more) all is same =
    let next : all ≡ suc (more + turns) = omega (arith, is) in
    ap (λ n. shallow n chains) next ∙ ap (turn chains) (unchanged chains turns more (more + turns) refl same) ∙ same

-- so they are those of all turns
pub last_turn : (chains : Chains) (turns all : ℕ) → turns < all
    → shallow (suc turns) chains ≡ shallow turns chains → shallow (suc turns) chains ≡ shallow all chains
last_turn chains turns all few same =
    same ∙ sym (unchanged chains turns (all - turns) all (omega (arith, few)) same)
