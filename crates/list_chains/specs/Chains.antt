-- Chains of rules as firewalls have them, and which rule decides a packet (iptables(8), "TARGETS"):
-- rules are asked in their order, and a packet that falls off a chain goes on after the jump there.
use Rattle.std.specs.Prelude.{ℕ, List, [], ◌∷◌, map, Bool, not, ◌&&◌, Option, Some, None}
use Rattle.std.specs.Prelude.{if◌then◌else◌}
use Rattle.std.specs.List.{list_any}
use Rattle.std.proofs.Common.{zero, suc}
use Rattle.list_chains.specs.declared.chain.Target.{Target}
use Rattle.list_chains.specs.declared.chain.Target.TheVariants.{Decide, Return, Jump, Go}

-- A rule over boxes of some kind: the answer for what it decides, the box of the packets that it
-- catches, the boxes that it leaves out of it, and what it does with them.
pub record ListRule (B : Type 0) : Type 0 where
  pub userdata : ℕ
  pub inside : B
  pub but : List B
  pub target : Target

-- the packet is in the rule's box, and in none of those that are left out
abbrev pub catches : {B : Type 0} → (B → Bool) → ListRule B → Bool
catches holds rule = holds rule.inside && not (list_any holds rule.but)

-- the element at a place, and another value past the end
abbrev pub at_or : {A : Type 0} → List A → ℕ → A → A
at_or [] place other = other
at_or (x ∷ xs) zero other = x
at_or (x ∷ xs) (suc place) other = at_or xs place other

-- the answer, or another where there is none
abbrev pub or_answer : Option ℕ → Option ℕ → Option ℕ
or_answer (Some answer) other = Some answer
or_answer None other = other

-- what a rule answers for a packet that it catches, by what each chain answers that it can lead to,
-- and by what the rules after it answer
abbrev pub target_answers : List (Option ℕ) → ℕ → Target → Option ℕ → Option ℕ
target_answers chains userdata Decide after = Some userdata
target_answers chains userdata Return after = None
target_answers chains userdata (Jump place) after = or_answer (at_or chains place None) after
target_answers chains userdata (Go place) after = at_or chains place None

-- what some rules answer: nothing, if the packet falls off their end or returns
abbrev pub rules_answer : {B : Type 0} → (B → Bool) → List (Option ℕ) → List (ListRule B) → Option ℕ
rules_answer holds chains [] = None
rules_answer holds chains (rule ∷ rules) =
    if catches holds rule
    then target_answers chains rule.userdata rule.target (rules_answer holds chains rules)
    else rules_answer holds chains rules

-- what each chain answers, where jumps lead through so many chains at most
abbrev pub chains_answer : {B : Type 0} → (B → Bool) → ℕ → List (List (ListRule B)) →
    List (Option ℕ)
chains_answer holds zero chains = []
chains_answer holds (suc depth) chains =
    map (rules_answer holds (chains_answer holds depth chains)) chains

-- the answer, or another number where there is none
abbrev pub answer_or : Option ℕ → ℕ → ℕ
answer_or (Some answer) other = answer
answer_or None other = other

-- the answer for a packet that comes to the chain of a place, which has a policy: that of the rule
-- that decides it, or else the policy
abbrev pub decides : {B : Type 0} → (B → Bool) → ℕ → List (List (ListRule B)) → ℕ → ℕ → ℕ
decides holds depth chains place policy =
    answer_or (at_or (chains_answer holds depth chains) place None) policy
