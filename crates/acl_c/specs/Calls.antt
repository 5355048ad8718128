-- What the calls do to what a handle leads to.
use Rattle.std.specs.Prelude.{◌≡◌, ℕ, ◌<◌, ◌≤◌, ◌==◌, ◌&&◌, nat_le, List, [], ◌∷◌, ◌++◌, length}
use Rattle.std.specs.Prelude.{Bool, true, false, if◌then◌else◌}
use Rattle.std.specs.Prelude.{Option, Some, None, IsSome, IfSome, Result, Ok, Err, ◌⊎◌}
use Rattle.std.specs.List.{list_any}
use Rattle.field_defs.specs.declared.field.FieldDef.{FieldDef}
use Rattle.table_sizes.specs.Sizes.{max_words}
use Rattle.covered_rules.specs.Covered.{uncovered_set}
use Rattle.rule_split.specs.Split.{total_of}
use Rattle.table_fill.specs.Serves.{Serves}
use Rattle.acl_context.specs.Context.{built_of, with_rules, HoldsAll}
use Rattle.acl_context.specs.declared.add.AddFault.{AddFault}
use Rattle.acl_context.specs.declared.add.AddFault.TheVariants as faults
use Rattle.acl_context.specs.Add.{add_fault}
use Rattle.acl_context.specs.Batch.{DecidesAs, verdicts_by_rules}
use Rattle.acl_c.specs.Codes.{ok, no_memory, bad_budget, too_large, bad_length, full, not_built}
use Rattle.acl_c.specs.Codes.{rule_code, too_many_keys}
use Rattle.acl_c.specs.Rules.{are_whole, rules_from}
use Rattle.acl_c.specs.Batch.{batch_code}
use Rattle.acl_c.specs.declared.rules.Place.{Place}
use Rattle.acl_c.specs.declared.rules.Tag.{Tag}
use Rattle.acl_c.specs.declared.rules.Value.{Value}
use Rattle.rule_set.specs.Rule.{RuleView, RuleSetView}
use Rattle.flat_table.specs.Table.{TableView, words_of}
use Rattle.table_sizes.specs.Sizes.{max_keys}
use Rattle.flat_table.specs.Batch.{batch_verdicts, batch_transitions}
use Rattle.acl_c.specs.declared.context.Context.{Context}

-- how many words a table may have
abbrev pub is_budget : ℕ → Bool
is_budget budget = nat_le 1 budget && nat_le budget max_words

-- the code is one of these
abbrev pub is_among : List ℕ → ℕ → Bool
is_among codes code = list_any (λ one. one == code) codes

-- the words of a table, and 0 where there is none
abbrev pub words_in : Option TableView → ℕ
words_in None = 0
words_in (Some table) = words_of table

-- the context with this table
abbrev pub with_table : Context → TableView → Context
with_table held table = record held { acl = record held.acl { table = Some table } }

-- a context without rules and without a table
abbrev pub new_context : List FieldDef → ℕ → Context
new_context layout max_rules = record {
  acl = record {
    set = record { layout = layout; rules = [] };
    max_rules = max_rules;
    table = None;
  };
  lanes = [];
}

-- the context without its rules
abbrev pub without_rules : Context → Context
without_rules held = record held { acl = with_rules held.acl [] }

-- What a build makes of what a handle leads to, of the words that it tells, and what it answers.
-- The table is that of the uncovered rules, which decide as all do.
pub record Builds (budget : ℕ) (old : Context) (new : Option Context) (before after code : ℕ) :
    Type 0 where
  pub built : code ≡ ok →
      new ≡ Some (with_table old (built_of (uncovered_set old.acl.set) budget))
  pub serves : code ≡ ok →
      Serves (uncovered_set old.acl.set) (built_of (uncovered_set old.acl.set) budget)
  pub decides : code ≡ ok → DecidesAs (uncovered_set old.acl.set) old.acl.set
  pub fits : code ≡ ok → total_of (uncovered_set old.acl.set) budget ≤ budget
  pub words : code ≡ ok → after ≡ total_of (uncovered_set old.acl.set) budget
  pub large : code ≡ too_large →
      (after ≡ total_of (uncovered_set old.acl.set) budget) × (budget < after)
  pub other : is_among (ok ∷ too_large ∷ []) code ≡ false → after ≡ before
  pub kept : (code == ok) ≡ false → new ≡ Some old
  pub answer : is_budget budget ≡ true → is_among (ok ∷ no_memory ∷ too_large ∷ []) code ≡ true
  pub bad : is_budget budget ≡ false → code ≡ bad_budget

-- The context has another table, of so many words, and all else as it was. The table holds all of
-- its uncovered rules.
pub record IsSmall (old : Context) (words : ℕ) (new : Context) : Type 0 where
  pub is : new ≡ record old { acl = record old.acl { table = new.acl.table } }
  pub some : IsSome new.acl.table
  pub holds : IfSome new.acl.table (HoldsAll (uncovered_set old.acl.set))
  pub words_are : words ≡ words_in new.acl.table

-- What a build under no budget makes of what a handle leads to, of the words that it tells, and
-- what it answers. The table holds all of the uncovered rules, whichever its tries are, and these
-- decide as all rules do. If it is too large, so is that of the greatest budget.
pub record BuildsSmall (old : Context) (new : Option Context) (before after code : ℕ) : Type 0 where
  pub built : code ≡ ok → IsSome new × IfSome new (IsSmall old after)
  pub decides : code ≡ ok → DecidesAs (uncovered_set old.acl.set) old.acl.set
  pub large : code ≡ too_large →
      (after ≡ total_of (uncovered_set old.acl.set) max_words) × (max_words < after)
  pub other : is_among (ok ∷ too_large ∷ []) code ≡ false → after ≡ before
  pub kept : (code == ok) ≡ false → new ≡ Some old
  pub answer : is_among (ok ∷ no_memory ∷ too_large ∷ []) code ≡ true

-- what a classification by a table answers
abbrev pub table_code : Option TableView → ℕ → ℕ → ℕ → ℕ → ℕ → ℕ
table_code None lanes keys categories walk room = not_built
table_code (Some table) lanes keys categories walk room =
    batch_code table.key_len lanes keys categories walk room

-- what a classification by a context answers
abbrev pub context_code : Context → ℕ → ℕ → ℕ → ℕ → ℕ
context_code held keys categories walk room =
    table_code held.acl.table (length held.lanes) keys categories walk room

-- the context without its rules and without its table
abbrev pub without_all : Context → Context
without_all held = record held { acl = record (with_rules held.acl []) { table = None } }

-- the handle leads to a context of which this holds
abbrev pub IfHeld : Option Context → (Context → Type 0) → Type 0
IfHeld inside holds = IsSome inside × IfSome inside holds

-- a rule's place and a field's
abbrev pub place_of : ℕ → ℕ → Place
place_of rule field = record { rule = rule; field = field }

-- What making room for keys by lanes makes of a context, and what it answers.
pub record Reserves (keys : ℕ) (old new : Context) (code : ℕ) : Type 0 where
  pub many : max_keys < keys → code ≡ too_many_keys
  pub few : keys ≤ max_keys → (code ≡ ok) ⊎ (code ≡ no_memory)
  pub room : code ≡ ok → length new.lanes ≡ keys
  pub acl : new.acl ≡ old.acl
  pub kept : (code == ok) ≡ false → new ≡ old

-- What a classification makes of the verdicts and the transitions before it, and what it answers.
pub record Classifies (keys : List ℕ) (categories walk : ℕ) (old new : Context)
    (before after : List ℕ) (counted_before counted code : ℕ) : Type 0 where
  pub answer : code ≡ context_code old (length keys) categories walk (length before)
  pub verdicts : code ≡ ok → IfSome old.acl.table
      (λ table. after ≡ batch_verdicts table categories keys)
  pub served : (set : RuleSetView) → code ≡ ok → IfSome old.acl.table
      (λ table. Serves set table → after ≡ verdicts_by_rules set categories keys)
  pub transitions : code ≡ ok → IfSome old.acl.table
      (λ table. counted ≡ batch_transitions table keys)
  pub kept : (code == ok) ≡ false → (after ≡ before) × (counted ≡ counted_before)
  pub acl : new.acl ≡ old.acl
  pub lanes : length new.lanes ≡ length old.lanes

-- the rules that are given, for the layout of a context
abbrev pub given_to : Context → List Tag → List Value → List RuleView
given_to held tags values = rules_from held.acl.set.layout tags values

-- the code of an answer to rules that are given
abbrev pub code_of : Result (Unit {0}) AddFault → ℕ
code_of (Ok done) = ok
code_of (Err faults.Full) = full
code_of (Err (faults.RuleRefused place fault)) = (rule_code fault).0
code_of (Err faults.OutOfMemory) = no_memory

-- the place that is told after it
abbrev pub told_of : Place → Result (Unit {0}) AddFault → Place
told_of before (Ok done) = before
told_of before (Err faults.Full) = before
told_of before (Err (faults.RuleRefused place fault)) =
    record { rule = place; field = (rule_code fault).1 }
told_of before (Err faults.OutOfMemory) = before

-- how a fault is answered and told
abbrev pub IsTold : AddFault → Place → Place → ℕ → Type 0
IsTold fault before after code =
    (code ≡ code_of (Err fault)) × (after ≡ told_of before (Err fault))

-- What adding stored rules makes of a context, of the place that it tells, and what it answers.
pub record AddsStored (given : List RuleView) (old new : Context) (before after : Place)
    (code : ℕ) : Type 0 where
  pub added : code ≡ ok → new ≡ record old {
    acl = with_rules old.acl (old.acl.set.rules ++ given);
  }
  pub kept : (code == ok) ≡ false → new ≡ old
  pub refused : (fault : AddFault) → add_fault old.acl given ≡ Some fault →
      IsTold fault before after code
  pub lawful : add_fault old.acl given ≡ None →
      ((code ≡ ok) ⊎ (code ≡ no_memory)) × (after ≡ before)

-- What adding rules makes of a context, of the place that it tells, and what it answers.
pub record AddsGiven (tags : List Tag) (values : List Value) (old new : Context)
    (before after : Place) (code : ℕ) : Type 0 where
  pub added : code ≡ ok → new ≡ record old {
    acl = with_rules old.acl (old.acl.set.rules ++ given_to old tags values);
  }
  pub kept : (code == ok) ≡ false → new ≡ old
  pub whole : are_whole old.acl.set.layout tags values ≡ false →
      (code ≡ bad_length) × (after ≡ before)
  pub refused : (fault : AddFault) → are_whole old.acl.set.layout tags values ≡ true →
      add_fault old.acl (given_to old tags values) ≡ Some fault →
      IsTold fault before after code ⊎ ((code ≡ no_memory) × (after ≡ before))
  pub lawful : are_whole old.acl.set.layout tags values ≡ true →
      add_fault old.acl (given_to old tags values) ≡ None →
      ((code ≡ ok) ⊎ (code ≡ no_memory)) × (after ≡ before)
