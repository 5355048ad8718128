-- The rules of a set are added to an empty context without a refusal.
use Rattle.std.proofs.Common.{◌≡◌, ℕ, ◌+◌, ◌≤◌, List, [], ◌∷◌, length, map, true, None, Result, IfErr, refl, ap, ◌∙◌}
use Rattle.std.proofs.Common.{arith}
use Rattle.std.specs.List.{All, enumerate_from}
use Rattle.std.proofs.lemmas.Bool.{le-leb}
use Rattle.std.proofs.lemmas.List.Elements.{All-head, All-tail}
use Rattle.field_defs.specs.declared.field.FieldDef.{FieldDef}
use Rattle.field_defs.specs.Faults.{first_of}
use Rattle.rule_set.specs.Fault.{rule_fault}
use Rattle.rule_set.specs.Rule.{RuleView, RuleSetView}
use Rattle.rule_set.specs.RuleSet.{IsRuleSet}
use Rattle.acl_context.specs.declared.add.AddFault.{AddFault}
use Rattle.acl_context.specs.declared.add.AddFault.TheVariants.{OutOfMemory}
use Rattle.acl_context.specs.Context.{ContextView}
use Rattle.acl_context.specs.Add.{Adds, add_fault, has_room, refusal}

-- the rule is lawful for the layout
abbrev IsLawfulFor : List FieldDef → RuleView → Type 0
IsLawfulFor layout rule = rule_fault layout rule.tag rule.fields ≡ None

-- none of some lawful rules is refused
none_refused : (layout : List FieldDef) (first : ℕ) (rules : List RuleView) → All (IsLawfulFor layout) rules →
    first_of (map (refusal layout) (enumerate_from first rules)) ≡ None
none_refused layout first [] lawful = refl
none_refused layout first (rule ∷ rules) lawful =
    rw (All-head (IsLawfulFor layout) rule rules lawful)
    (none_refused layout (first + 1) rules (All-tail (IsLawfulFor layout) rule rules lawful))

-- a context that has room for them takes them all
rules_added : (context : ContextView) (set : RuleSetView) → context.set.layout ≡ set.layout → IsRuleSet set →
    has_room context set.rules ≡ true → add_fault context set.rules ≡ None
unfolding add_fault
rules_added context set layout lawful room =
    rw room (rw layout (none_refused set.layout 0 set.rules lawful.lawful))

-- The rules of a set are given to a new context of its layout, which has room for them.
pub record AreGiven (set : RuleSetView) (given : List RuleView) (layout : List FieldDef) (most : ℕ)
    (context : ContextView) : Type 0 where
  pub made : context ≡ record { set = record { layout = layout; rules = [] }; max_rules = most; table = None }
  pub same : layout ≡ set.layout
  pub all : given ≡ set.rules
  pub lawful : IsRuleSet set
  pub few : length set.rules ≤ most

-- only want of memory keeps them out
pub unrefused : {T : Type 0} (set : RuleSetView) (given : List RuleView) (layout : List FieldDef) (most : ℕ)
    (old new : ContextView) (result : Result T AddFault) → AreGiven set given layout most old →
    Adds given old new result → IfErr result (λ fault. fault ≡ OutOfMemory)
unrefused set given layout most old new result are adds =
    let empty : ContextView = record { set = record { layout = layout; rules = [] }; max_rules = most; table = None }
    in
    let room : has_room empty set.rules ≡ true = le-leb (0 + length set.rules) most (omega (arith, are.few)) in
    adds.lawful (ap (add_fault old) are.all ∙ ap (λ context. add_fault context set.rules) are.made
    ∙ rules_added empty set are.same are.lawful room)
