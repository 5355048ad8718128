-- Where the values of a rule stand among those of all.
use Rattle.std.proofs.Common.{◌≡◌, ℕ, ◌+◌, ◌*◌, ◌<◌, ◌≤◌, List, drop, length, get_or, ap, ◌∙◌, arith}
use Rattle.std.proofs.Common.{length-drop}
use Rattle.std.proofs.Math.Nat.{mul-le-mul_right}
use Rattle.std.proofs.lemmas.List.{drop-drop, get_or_default}
use mathlib.Core.Path.{Path}
use Rattle.field_defs.specs.declared.field.FieldDef.{FieldDef}
use Rattle.field_defs.specs.LayoutFault.{def_at}
use Rattle.rule_set.specs.Rule.{RuleView}
use Rattle.acl_c.specs.declared.rules.Tag.{Tag}
use Rattle.acl_c.specs.declared.rules.Value.{Value}
use Rattle.acl_c.specs.Rules.{value_of, value_at, tag_of, tag_at, fields_from, rule_from}

-- after the values of some rules there are those of one more
pub enough_left : {A : Type 0} (place count n : ℕ) (values left : List A) → place < count →
    length values ≡ count * n → left ≡ drop (place * n) values → n ≤ length left
enough_left place count n values left below whole is =
    let more = mul-le-mul_right n below in
    rw is (omega (arith, length-drop (place * n) values, whole, more))

-- and after those the values of the next ones
pub left_next : {A : Type 0} (place n : ℕ) (values left : List A) → left ≡ drop (place * n) values →
    drop n left ≡ drop ((place + 1) * n) values
left_next place n values left is =
    rw is (drop-drop n (place * n) values ∙ ap (λ (k : ℕ). drop k values) (omega arith))

-- the value of a field that is there, whatever stands for one that isn't
pub one_value : (defs : List FieldDef) (values : List Value) (place : ℕ) (def : FieldDef) (value : Value) →
    place < length defs → place < length values →
    value_of (get_or defs place def).kind (get_or values place value)
    ≡ value_of (def_at defs place).kind (value_at values place)
one_value defs values place def value here there =
    let same_def : get_or defs place def ≡ def_at defs place = get_or_default defs place def _ here in
    let same_value : get_or values place value ≡ value_at values place = get_or_default values place value _ there in
    λ i. value_of (same_def i).kind (same_value i)

-- and a rule whose tag is there
pub one_rule : (defs : List FieldDef) (tags : List Tag) (values left : List Value) (place : ℕ) (tag : Tag) →
    place < length tags → left ≡ drop (place * length defs) values →
    Path RuleView (record { tag = tag_of (get_or tags place tag); fields = fields_from defs left })
    (rule_from defs tags values place)
one_rule defs tags values left place tag here is =
    let same : get_or tags place tag ≡ tag_at tags place = get_or_default tags place tag _ here in
    λ i. record { tag = tag_of (same i); fields = fields_from defs (is i) }
