-- What it comes to that a group becomes two, or is put back with what was counted.
use Rattle.std.proofs.Common.{◌≡◌, ℕ, suc, ◌+◌, ◌<◌, ◌++◌, List, [], ◌∷◌, length, map, take, drop, get_or, All}
use Rattle.std.proofs.Common.{sym, ap, subst, ◌∙◌, arith}
use Rattle.std.proofs.lemmas.List.{append_assoc, length-append, length-map, map-append, take-map, drop-map, get_or-map}
use Rattle.std.proofs.lemmas.List.Elements.{All-append, All-cons, All-take, All-drop, All-get_or}
use Rattle.std.proofs.lemmas.List.Elements.{All-push, All-same}
use Rattle.std.specs.List.{insert, remove}
use Rattle.std.proofs.lemmas.List.{length-take, length-drop, take_at}
use Rattle.std.proofs.Math.Seq.{take-append_seam, drop-append_seam}
use Rattle.list_lemmas.proofs.Parts.{list_around}
use Rattle.rule_set.specs.Rule.{RuleSetView}
use Rattle.rule_set.specs.Groups.{IsPartition}
use Rattle.group_states.specs.Levels.{IsGroup}
use Rattle.rule_split.specs.declared.counted.Counted.{Counted}
use Rattle.rule_split.specs.Counted.{group_in, IsRight}
use Rattle.rule_split.specs.Divide.{divided}
use Rattle.rule_split.specs.Split.{split_at}
use Rattle.rule_split.proofs.Groups.{groups_are}

-- the group at a place
pub group_at : (groups : List Counted) (place : ℕ) (group : Counted) → place < length groups →
    group ≡ get_or groups place group → group_in group ≡ get_or (map group_in groups) place []
group_at groups place group within is = ap group_in is ∙ sym (get_or-map group_in groups place group [] within)

-- it is one of the set
pub group_is : (set : RuleSetView) (groups : List Counted) (place : ℕ) (group : Counted) → place < length groups →
    group ≡ get_or groups place group → IsPartition (length set.rules) (map group_in groups) →
    IsGroup set (group_in group)
group_is set groups place group within is parts =
    rw (group_at groups place group within is)
    (All-get_or (IsGroup set) (map group_in groups) place [] (omega (arith, length-map groups group_in))
    (groups_are set (map group_in groups) parts))

-- the groups where it has become two
pub split_groups : (set : RuleSetView) (groups : List Counted) (place : ℕ) (first second : Counted) →
    group_in first ∷ group_in second ∷ [] ≡ divided set (get_or (map group_in groups) place []) →
    map group_in (take place groups ++ first ∷ second ∷ drop (place + 1) groups)
    ≡ split_at set (map group_in groups) place
unfolding split_at
split_groups set groups place first second two =
    let before = take place (map group_in groups) in
    let after = drop (place + 1) (map group_in groups) in
    map-append group_in (take place groups) (first ∷ second ∷ drop (place + 1) groups)
    ∙ (λ i. sym (take-map group_in place groups) i
    ++ group_in first ∷ group_in second ∷ sym (drop-map group_in (place + 1) groups) i)
    ∙ sym (append_assoc before (group_in first ∷ group_in second ∷ []) after)
    ∙ ap (λ between. before ++ between ++ after) two

-- and what is known of each is right still, where nothing is known of the two
pub split_right : (set : RuleSetView) (budget : ℕ) (groups : List Counted) (place : ℕ) (first second : Counted) →
    All (IsRight set budget) groups → IsRight set budget first → IsRight set budget second →
    All (IsRight set budget) (take place groups ++ first ∷ second ∷ drop (place + 1) groups)
split_right set budget groups place first second all one other =
    let Right : Counted → Type 0 = IsRight set budget in
    All-append Right (take place groups) (first ∷ second ∷ drop (place + 1) groups) (All-take Right place groups all)
    (All-cons Right first (second ∷ drop (place + 1) groups) one
    (All-cons Right second (drop (place + 1) groups) other (All-drop Right (place + 1) groups all)))

-- one element in the place of one that was taken out
pub one_for_one : {X : Type 0} (xs : List X) (place : ℕ) (x : X) → place < length xs →
    insert (remove xs place) place x ≡ take place xs ++ x ∷ drop (place + 1) xs
one_for_one xs place x within =
    let before = take place xs in
    let after = drop (suc place) xs in
    let long : place ≡ length before = omega (arith, length-take place xs) in
    let next : suc place ≡ place + 1 = omega arith in
    (λ i. (ap (λ n. take n (before ++ after)) long ∙ take-append_seam before after) i
    ++ x ∷ (ap (λ n. drop n (before ++ after)) long ∙ drop-append_seam before after) i)
    ∙ ap (λ n. before ++ x ∷ drop n xs) next

-- what is left once it is taken out
pub others_are : {X : Type 0} (xs : List X) (place : ℕ) → remove xs place ≡ take place xs ++ drop (place + 1) xs
others_are xs place = let next : suc place ≡ place + 1 = omega arith in ap (λ n. take place xs ++ drop n xs) next

-- what holds of all holds of the others
pub others_hold : {X : Type 0} (P : X → Type 0) (xs : List X) (place : ℕ) → All P xs → All P (remove xs place)
others_hold P xs place all =
    All-same P (remove xs place) (take place xs ++ drop (place + 1) xs) (others_are xs place)
    (All-append P (take place xs) (drop (place + 1) xs) (All-take P place xs all) (All-drop P (place + 1) xs all))

-- what holds of all holds of the one that is taken out
pub all_at : {X : Type 0} (P : X → Type 0) (xs : List X) (place : ℕ) (x : X) → place < length xs →
    x ≡ get_or xs place x → All P xs → P x
all_at P xs place x within is all = subst P (sym is) (All-get_or P xs place x within all)

-- the others are one fewer
pub others_len : {X : Type 0} (xs : List X) (place : ℕ) → place < length xs → length (remove xs place) + 1 ≡ length xs
others_len xs place within =
    omega (
      arith,
      ap length (others_are xs place),
      length-append (take place xs) (drop (place + 1) xs),
      length-take place xs,
      length-drop (place + 1) xs,
    )

-- what holds of all, and of one that is put back, holds of all then
pub back_right : {X : Type 0} (P : X → Type 0) (xs : List X) (place : ℕ) (x : X) → All P xs → P x →
    All P (take place xs ++ x ∷ drop (place + 1) xs)
back_right P xs place x all here =
    All-append P (take place xs) (x ∷ drop (place + 1) xs) (All-take P place xs all)
    (All-cons P x (drop (place + 1) xs) here (All-drop P (place + 1) xs all))

-- what holds of the first ones, and of it, holds of the first ones with it
pub back_first : {X : Type 0} (P : X → Type 0) (xs : List X) (place : ℕ) (x : X) → place < length xs →
    All P (take place xs) → P x → All P (take (place + 1) (take place xs ++ x ∷ drop (place + 1) xs))
back_first P xs place x within all here =
    let before = take place xs in
    let after = drop (place + 1) xs in
    let long : length (before ++ x ∷ []) ≡ place + 1 =
    omega (arith, length-append before (x ∷ []), length-take place xs) in
    All-same P (take (place + 1) (before ++ x ∷ after)) (before ++ x ∷ [])
    (ap (take (place + 1)) (sym (append_assoc before (x ∷ []) after))
    ∙ take_at (before ++ x ∷ []) after (place + 1) long)
    (All-push P before x all here)

-- the groups where one was put back with other words
pub same_groups : (groups : List Counted) (place : ℕ) (group counted : Counted) → place < length groups →
    group ≡ get_or groups place group → group_in counted ≡ group_in group →
    map group_in (take place groups ++ counted ∷ drop (place + 1) groups) ≡ map group_in groups
same_groups groups place group counted within is same =
    map-append group_in (take place groups) (counted ∷ drop (place + 1) groups)
    ∙ ap (λ g. map group_in (take place groups) ++ g ∷ map group_in (drop (place + 1) groups)) same
    ∙ sym (map-append group_in (take place groups) (group ∷ drop (place + 1) groups))
    ∙ ap (map group_in) (list_around group place groups group within (sym is))
