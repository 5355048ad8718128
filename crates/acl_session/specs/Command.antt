-- What a line of a script says: one of the calls of the library on layouts and contexts (DPDK
-- Programmer's Guide, "Packet Classification and Access Control": fields are defined, rules are
-- added to a context, a build makes run-time structures, and buffers are classified). Words stand
-- between blanks, and numbers are written as in rule files.
use Rattle.std.specs.Prelude.{ℕ, ◌-◌, ◌^◌, ◌==◌, pos, List}
use Rattle.std.specs.Prelude.{Option, Some, None, codes}
use Rattle.std.specs.Prelude.{if◌then◌else◌}
use Rattle.std.specs.Option.{option_map}
use Rattle.std.specs.Str.{bytes_eq}
use Rattle.field_defs.specs.declared.field.FieldDef.{FieldDef}
use Rattle.field_defs.specs.declared.field.FieldKind.{FieldKind}
use Rattle.field_defs.specs.declared.field.FieldKind.TheVariants.{Mask, Range, Bitmask}
use Rattle.rule_set.specs.Categories.{is_count_of_categories}
use Rattle.rule_set.specs.Limits.{max_categories}
use Rattle.table_sizes.specs.Sizes.{max_rules, max_words}
use Rattle.rule_set.specs.Rule.{RuleView}
use Rattle.rule_set.specs.declared.rule.RuleTag.{RuleTag}
use Rattle.acl_session.specs.declared.arguments.WrittenField.{WrittenField}
use Rattle.acl_session.specs.declared.verb.Verb.{Verb}
use Rattle.acl_session.specs.declared.verb.Verb.TheVariants as verb
use Rattle.acl_session.specs.WordReading.{◌>>=◌, Read, ended, next_number, next_word, read_of}
use Rattle.acl_session.specs.Hex.{are_bytes_in_hex, bytes_in_hex}
use Rattle.acl_session.specs.Values.{values_of}

-- What a line says. A classification has so many categories and a buffer.
pub data Command : Type 0 where
  Field : (field : WrittenField) → Command
  Context : (limit : ℕ) → Command
  AddRule : (rule : RuleView) → Command
  Build : (budget : ℕ) → Command
  ResetRules : Command
  Reset : Command
  Classify : (count : ℕ) → (buffer : List ℕ) → Command

-- the greatest size and input index
abbrev pub max_byte : ℕ
max_byte = 255

-- the greatest offset, category mask and userdata
abbrev pub max_written : ℕ
max_written = 2 ^ 32 - 1

-- the greatest priority that may be written, which is above that of a rule
abbrev pub max_written_priority : ℕ
max_written_priority = 2 ^ 31 - 1

-- the kind of a field that a name stands for
abbrev pub kind_named : List ℕ → Option FieldKind
kind_named name =
    if bytes_eq name (codes "mask") then Some Mask
    else (if bytes_eq name (codes "range") then Some Range
    else (if bytes_eq name (codes "bits") then Some Bitmask else None))

-- the kind of a field that the next word names
abbrev pub next_kind : List (List ℕ) → Option (Read FieldKind)
next_kind words = do
  word ← next_word words
  kind ← kind_named word.value
  Some (read_of kind word.rest)

-- `field KIND SIZE INPUT OFFSET`
abbrev pub field_of : List (List ℕ) → Option WrittenField
field_of words = do
  kind ← next_kind words
  size ← next_number max_byte kind.rest
  input_index ← next_number max_byte size.rest
  offset ← next_number max_written input_index.rest
  ended offset.rest (record {
    kind = kind.value;
    size = size.value;
    input_index = input_index.value;
    offset = offset.value;
  })

-- a definition at a place among the fields, which is its field index
abbrev pub placed : WrittenField → ℕ → FieldDef
placed field place = record {
  kind = field.kind;
  size = field.size;
  field_index = place;
  input_index = field.input_index;
  offset = field.offset;
}

-- `context MAX`
abbrev pub limit_of : List (List ℕ) → Option ℕ
limit_of words = do
  limit ← next_number max_rules words
  ended limit.rest limit.value

-- the priority, categories and userdata of a rule
abbrev pub next_tag : List (List ℕ) → Option (Read RuleTag)
next_tag words = do
  priority ← next_number max_written_priority words
  category_mask ← next_number max_written priority.rest
  userdata ← next_number max_written category_mask.rest
  Some (read_of (record {
    category_mask = category_mask.value;
    priority = pos priority.value;
    userdata = userdata.value;
  }) userdata.rest)

-- `rule PRI CAT DATA VALUE ..`, with any number of values
abbrev pub rule_of : List (List ℕ) → Option RuleView
rule_of words = do
  tag ← next_tag words
  values ← values_of tag.rest
  Some (record { tag = tag.value; fields = values })

-- `build BUDGET`
abbrev pub budget_of : List (List ℕ) → Option ℕ
budget_of words = do
  budget ← next_number max_words words
  (if budget.value == 0 then None else ended budget.rest budget.value)

-- how many categories are asked for
abbrev pub next_count : List (List ℕ) → Option (Read ℕ)
next_count words = do
  count ← next_number max_categories words
  (if is_count_of_categories count.value then Some count else None)

-- `classify N HEX`
abbrev pub buffer_of : List (List ℕ) → Option Command
buffer_of words = do
  count ← next_count words
  digits ← next_word count.rest
  (if are_bytes_in_hex digits.value
      then ended digits.rest (Classify count.value (bytes_in_hex digits.value)) else None)

-- the call of a name
abbrev pub verb_named : List ℕ → Option Verb
verb_named name =
    if bytes_eq name (codes "field") then Some verb.Field
    else (if bytes_eq name (codes "context") then Some verb.Context
    else (if bytes_eq name (codes "rule") then Some verb.Rule
    else (if bytes_eq name (codes "build") then Some verb.Build
    else (if bytes_eq name (codes "reset-rules") then Some verb.ResetRules
    else (if bytes_eq name (codes "reset") then Some verb.Reset
    else (if bytes_eq name (codes "classify") then Some verb.Classify else None))))))

-- what the words after the name say to the call
abbrev pub said_to : Verb → List (List ℕ) → Option Command
said_to verb.Field words = option_map Field (field_of words)
said_to verb.Context words = option_map Context (limit_of words)
said_to verb.Rule words = option_map AddRule (rule_of words)
said_to verb.Build words = option_map Build (budget_of words)
said_to verb.ResetRules words = ended words ResetRules
said_to verb.Reset words = ended words Reset
said_to verb.Classify words = buffer_of words

-- what the words of a line say, if they say something
abbrev pub command_of : List (List ℕ) → Option Command
command_of words = do
  name ← next_word words
  called ← verb_named name.value
  said_to called name.rest
