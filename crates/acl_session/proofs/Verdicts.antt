-- The verdicts of the table are those of the rules of the last build.
use Rattle.std.proofs.Common.{◌≡◌, ℕ, true, false, List, length, map, Option, Some, None, refl, sym, ap, ◌∙◌}
use Rattle.std.specs.Prelude.{is_some, nat_lt}
use Rattle.std.specs.List.{range_with_len}
use Rattle.std.specs.Option.{option_map}
use Rattle.std.proofs.lemmas.Bool.{false≢true}
use Rattle.field_defs.specs.declared.field.FieldDef.{FieldDef}
use Rattle.field_defs.specs.Layout.{buffer_len_of, key_of}
use Rattle.rule_set.specs.Rule.{RuleSetView, RuleView}
use Rattle.rule_set.specs.Winner.{verdict}
use Rattle.flat_table.specs.Table.{TableView}
use Rattle.acl_context.specs.Context.{ContextView}
use Rattle.acl_session.specs.Replies.{not_built_text, short_text, verdicts_text}
use Rattle.acl_session.specs.State.{Held}
use Rattle.acl_session.specs.Session.{classified_text, verdicts_on, verdicts_reply}
use Rattle.acl_session.specs.Mirrors.{Holds, IsBuilt, SaysOf}

-- the verdicts of a table that is there are those of the rules of the last build
said_by : (layout : List FieldDef) (built : Option (List RuleView)) (table : Option TableView) (count : ℕ)
    (key verdicts : List ℕ) → IsBuilt layout built table → is_some table ≡ true → SaysOf layout table count key verdicts
    → Some verdicts ≡ option_map (λ rules. map (verdict layout rules key) (range_with_len 0 count)) built
said_by layout None None count key verdicts is there says = absurd (false≢true there)
said_by layout None (Some table) count key verdicts is there says = absurd is
said_by layout (Some rules) None count key verdicts is there says = absurd is
said_by layout (Some rules) (Some table) count key verdicts is there says =
    ap Some (says (record { layout = layout; rules = rules }) refl is)

-- nothing was built if there is no table
none_by : (layout : List FieldDef) (built : Option (List RuleView)) (table : Option TableView)
    (f : List RuleView → List ℕ) → IsBuilt layout built table → is_some table ≡ false → None ≡ option_map f built
none_by layout None table f is none = refl
none_by layout (Some rules) None f is none = absurd is
none_by layout (Some rules) (Some table) f is none = absurd (false≢true (sym none))

-- the verdicts are those of the rules of the last build
pub verdicts_held : (held : Held) (context : ContextView) (count : ℕ) (buffer key verdicts : List ℕ)
    → Holds held context → is_some context.table ≡ true → key ≡ key_of context.set.layout buffer
    → SaysOf context.set.layout context.table count key verdicts
    → Some verdicts ≡ option_map (λ rules. verdicts_on held.layout rules count buffer) held.built
verdicts_held held context count buffer key verdicts holds there is says =
    let layout : context.set.layout ≡ held.layout = ap (λ (set : RuleSetView). set.layout) holds.set in
    said_by held.layout held.built context.table count key verdicts holds.table there
    (λ set same. says set (same ∙ sym layout))
    ∙ ap (λ (k : List ℕ). option_map (λ rules. map (verdict held.layout rules k) (range_with_len 0 count)) held.built)
    (is ∙ ap (λ (defs : List FieldDef). key_of defs buffer) layout)

-- where there is no table there was no build
pub none_held : (held : Held) (context : ContextView) (count : ℕ) (buffer : List ℕ) → Holds held context
    → is_some context.table ≡ false
    → None ≡ option_map (λ rules. verdicts_on held.layout rules count buffer) held.built
none_held held context count buffer holds none =
    none_by held.layout held.built context.table (λ rules. verdicts_on held.layout rules count buffer) holds.table none

-- the reply of verdicts, or of none
abbrev pub reply_of : Option (List ℕ) → List ℕ
reply_of None = not_built_text
reply_of (Some verdicts) = verdicts_text verdicts

-- the reply is that of the verdicts of the rules of the last build, or of none
reply_is : (layout : List FieldDef) (built : Option (List RuleView)) (count : ℕ) (buffer : List ℕ)
    → verdicts_reply layout built count buffer
    ≡ reply_of (option_map (λ rules. verdicts_on layout rules count buffer) built)
reply_is layout None count buffer = refl
reply_is layout (Some rules) count buffer = refl

-- the buffer is too short
pub short_reply : (held : Held) (context : ContextView) (count : ℕ) (buffer : List ℕ) → Holds held context
    → nat_lt (length buffer) (buffer_len_of context.set.layout) ≡ true
    → classified_text held count buffer ≡ short_text
short_reply held context count buffer holds short =
    let test : nat_lt (length buffer) (buffer_len_of held.layout) ≡ true =
    ap (λ (set : RuleSetView). nat_lt (length buffer) (buffer_len_of set.layout)) (sym holds.set) ∙ short in
    rw test refl

-- and otherwise the verdicts are the reply, if there are some
pub whole_reply : (held : Held) (context : ContextView) (count : ℕ) (buffer : List ℕ) (found : Option (List ℕ))
    → Holds held context → nat_lt (length buffer) (buffer_len_of context.set.layout) ≡ false
    → found ≡ option_map (λ rules. verdicts_on held.layout rules count buffer) held.built
    → classified_text held count buffer ≡ reply_of found
whole_reply held context count buffer found holds whole is =
    let test : nat_lt (length buffer) (buffer_len_of held.layout) ≡ false =
    ap (λ (set : RuleSetView). nat_lt (length buffer) (buffer_len_of set.layout)) (sym holds.set) ∙ whole in
    rw test (reply_is held.layout held.built count buffer ∙ ap reply_of (sym is))
