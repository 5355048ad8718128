-- A ruleset as `nft -j list ruleset` prints it (libnftables-json(5), "RULESET ELEMENTS"): objects
-- of tables, chains, rules and others. The chains are those of inet, and by the family of packets
-- of ip or ip6. A rule that no rule file says leads to no chain, so that a chain whose packets
-- come to it isn't turned into rules.
use Rattle.std.specs.Prelude.{ℕ, ◌+◌, ◌-◌, ◌^◌, ◌==◌, Bool, true, false, ◌&&◌, ◌||◌, not, nat_lt, is_some}
use Rattle.std.specs.Prelude.{if◌then◌else◌, codes, map, slice_set, slice_index_or, length, fold}
use Rattle.std.specs.Prelude.{List, [], ◌∷◌, ◌++◌, Option, Some, None, option_and_then}
use Rattle.std.specs.Prelude.{Result, Ok, Err}
use Rattle.std.specs.List.{flat_map, list_all}
use Rattle.std.specs.Option.{option_map}
use Rattle.std.specs.Str.{bytes_eq, is_utf8}
use Rattle.json.specs.Json.{Json, document}
use Rattle.json.specs.Find.{as_str, get}
use Rattle.json.specs.Value.{value_view}
use Rattle.field_defs.specs.declared.field.Family.{Family}
use Rattle.list_packets.specs.Packets.{rules_of_caught}
use Rattle.list_chains.specs.declared.span.Span.{Span}
use Rattle.list_chains.specs.Chains.{ListRule}
use Rattle.nft_reader.specs.declared.fault.RuleKind.{RuleKind}
use Rattle.nft_reader.specs.declared.fault.RuleFault.{RuleFault}
use Rattle.nft_reader.specs.declared.fault.ObjectKind.{ObjectKind}
use Rattle.nft_reader.specs.declared.fault.ObjectKind.TheVariants as object
use Rattle.nft_reader.specs.declared.fault.ObjectFault.{ObjectFault}
use Rattle.nft_reader.specs.declared.fault.NftFault.{NftFault}
use Rattle.nft_reader.specs.declared.fault.NftFault.TheVariants as told
use Rattle.nft_reader.specs.declared.fault.Stop.{Stop}
use Rattle.nft_reader.specs.declared.fault.Stop.TheVariants as stop
use Rattle.nft_reader.specs.declared.hooks.Base.{Base}
use Rattle.nft_reader.specs.declared.known.Answers.{Answers}
use Rattle.nft_reader.specs.declared.known.Asked.{Asked}
use Rattle.nft_reader.specs.declared.known.Branch.{Branch}
use Rattle.nft_reader.specs.declared.ruleset.RuleParts as found
use Rattle.nft_reader.specs.Chains.{ListedChain, Names, no_chain, place_of}
use Rattle.nft_reader.specs.Compared.{own_name}
use Rattle.nft_reader.specs.Effects.{Effects, effects_of}
use Rattle.nft_reader.specs.Hooks.{base_of}
use Rattle.nft_reader.specs.Known.{Known, Question, Setting, answer_of, policy_named}
use Rattle.nft_reader.specs.Readings.{SaidRule, with_statements}
use Rattle.nft_reader.specs.Sets.{is_text, owner_in, sets_of}
use Rattle.nft_reader.specs.Shapes.{is_one_of, items_in, items_of, len_of, listed_values, number_in}
use Rattle.nft_reader.specs.Shapes.{only, present}
use Rattle.nft_reader.specs.Shapes.{said_by, text_in}
use Rattle.nft_reader.specs.Stops.{◌>>=◌, folded, or_cause}
use Rattle.nft_reader.specs.Values.{first_of}

-- how many bytes a ruleset may have
abbrev pub max_ruleset : ℕ
max_ruleset = 16777216

-- the greatest handle
abbrev pub max_handle : ℕ
max_handle = 2 ^ 32 - 1

-- ---- rules

-- the rules of a branch of a rule
abbrev pub branch_rules : Family → Branch → List (ListRule (List Span))
branch_rules family branch =
    rules_of_caught family branch.caught branch.does.answer branch.does.target

-- the fault of a rule that no rule file says
abbrev pub fault_list : ℕ → Option RuleKind → List RuleFault
fault_list handle None = []
fault_list handle (Some why) = record { handle = handle; kind = why } ∷ []

-- a chain with a rule more
abbrev pub with_said : Family → ℕ → SaidRule → ListedChain → ListedChain
with_said family handle said chain = record chain {
  rules = chain.rules ++ flat_map (branch_rules family) said.branches;
  faults = chain.faults ++ fault_list handle said.cause;
}

-- a rule has five members, and may have a comment
abbrev pub has_rule_members : Json → Bool
has_rule_members said =
    len_of said == 5 || (len_of said == 6 && is_some (text_in (codes "comment") said))

-- what a rule says: its chain, its handle and its statements
pub record RuleParts : Type 0 where
  pub owner : Names
  pub handle : ℕ
  pub statements : List Json

-- the same of parts that are found
abbrev pub parts_seen : found.RuleParts → RuleParts
parts_seen parts = record {
  owner = parts.owner;
  handle = parts.handle;
  statements = map value_view parts.statements.now;
}

-- the handle of a chain or a rule
abbrev pub handle_in : Json → Option ℕ
handle_in said = number_in max_handle (codes "handle") said

-- the parts of a rule
abbrev pub rule_parts : Json → Option RuleParts
rule_parts said =
    if has_rule_members said
    then option_and_then (λ owner. option_and_then (λ handle.
    option_map (λ statements. record {
      owner = owner;
      handle = handle;
      statements = statements;
    }) (items_in (codes "expr") said))
    (handle_in said))
    (owner_in (codes "chain") said)
    else None

-- a chain with what a rule more may do to packets of other base chains
abbrev pub with_effects : ℕ → Effects → ListedChain → ListedChain
with_effects handle effects chain = record chain {
  stops = first_of chain.stops (if effects.stops then Some handle else None);
  leads = chain.leads ++ effects.leads;
}

-- a chain with a rule of these statements
abbrev pub with_rule_said : Known → List Json → ListedChain → ListedChain
with_rule_said known statements chain =
    with_effects known.handle (effects_of known statements)
    (with_said known.question.asked.family known.handle (with_statements known statements) chain)

-- the chains with a rule of one of them
abbrev pub with_rule_at : Setting → RuleParts → List ListedChain → ℕ → List ListedChain
with_rule_at setting parts chains place =
    slice_set chains place
    (with_rule_said (record {
      question = setting.question;
      sets = setting.sets;
      chains = chains;
      owner = parts.owner;
      handle = parts.handle;
    }) parts.statements
    (slice_index_or chains place no_chain))

-- the chains with a rule, whose chain stands before it
abbrev pub with_rule : Setting → List ListedChain → Json → Result (List ListedChain) ObjectKind
with_rule setting chains said =
    or_cause object.BadRule (rule_parts said) >>= λ parts.
    or_cause object.NoChain (place_of false parts.owner chains) >>= λ place.
    Ok (with_rule_at setting parts chains place)

-- ---- chains

-- a chain that packets come to by themselves has a type, a hook and a priority
abbrev pub has_hook : Json → Bool
has_hook said =
    is_some (text_in (codes "type") said) && is_some (text_in (codes "hook") said)
    && is_some (get (codes "prio") said)

-- the answer of the policy of such a chain
abbrev pub base_policy : Answers → ℕ → Json → Result (Option ℕ) ObjectKind
base_policy asked handle said =
    if has_hook said
    then (or_cause object.BadPolicy
    (option_and_then policy_named (text_in (codes "policy") said)) >>= λ verdict.
    Ok (Some (answer_of asked handle verdict)))
    else Err object.BadChain

-- a chain has four members, and eight if packets come to it by themselves, which may name devices;
-- both may have a comment
abbrev pub policy_of : Answers → ℕ → Json → Result (Option ℕ) ObjectKind
policy_of asked handle said =
    if len_of said == 4 + present (codes "comment") said then Ok None
    else (if len_of said == 8 + present (codes "comment") said + present (codes "dev") said
    then base_policy asked handle said else Err object.BadChain)

-- what a base chain of a table of the family is, which has a policy; others are nothing
abbrev pub base_in : List ℕ → Option ℕ → Json → Result (Option Base) ObjectKind
base_in family None said = Ok None
base_in family (Some policy) said =
    or_cause object.BadHook (base_of family said) >>= λ base. Ok (Some base)

-- a chain without rules
abbrev pub new_chain : Names → ℕ → Option Base → Option ℕ → ListedChain
new_chain owner handle base policy = record {
  owner = owner;
  handle = handle;
  base = base;
  policy = policy;
  rules = [];
  faults = [];
  stops = None;
  leads = [];
}

-- the chains with one more, which didn't stand before and has no rules
abbrev pub with_chain : Setting → List ListedChain → Json → Result (List ListedChain) ObjectKind
with_chain setting chains said =
    or_cause object.BadChain (owner_in (codes "name") said) >>= λ owner.
    or_cause object.BadChain (handle_in said) >>= λ handle.
    policy_of setting.question.asked.answers handle said >>= λ policy.
    base_in owner.family policy said >>= λ base.
    if is_some (place_of false owner chains) then Err object.ChainTwice
    else Ok (chains ++ new_chain owner handle base policy ∷ [])

-- ---- objects

-- packets of a family come to the network's tables of one of a name
abbrev pub is_network_of : Family → List ℕ → Bool
is_network_of family name = bytes_eq name (codes "inet") || bytes_eq name (own_name family)

-- packets of a family come to tables of one of a name; to those of netdev whatever they are
abbrev pub is_read : Family → List ℕ → Bool
is_read family name = is_network_of family name || bytes_eq name (codes "netdev")

-- a family of tables (nft(8), "ADDRESS FAMILIES")
abbrev pub is_family : List ℕ → Bool
is_family name =
    is_one_of (codes "ip" ∷ codes "ip6" ∷ codes "inet" ∷ codes "arp" ∷ codes "bridge"
    ∷ codes "netdev" ∷ []) name

-- the family of an object
abbrev pub family_in : Json → Option (List ℕ)
family_in said =
    option_and_then (λ name. if is_family name then Some name else None)
    (text_in (codes "family") said)

-- objects of tables that statements of rules seldom name ("SECMARK" to "CT EXPECTATION" and
-- "FLOWTABLE" of libnftables-json(5))
abbrev pub is_rare : List ℕ → Bool
is_rare name =
    bytes_eq name (codes "secmark") || bytes_eq name (codes "synproxy")
    || bytes_eq name (codes "ct helper") || bytes_eq name (codes "ct timeout")
    || bytes_eq name (codes "ct expectation") || bytes_eq name (codes "flowtable")

-- objects of tables that say nothing of packets by themselves: sets, and such that statements of
-- rules name
abbrev pub is_silent : List ℕ → Bool
is_silent name =
    bytes_eq name (codes "set") || bytes_eq name (codes "map")
    || bytes_eq name (codes "counter") || bytes_eq name (codes "quota")
    || bytes_eq name (codes "limit") || is_rare name

-- a text is a flag that tells of a table's process, and not that the table is dormant
abbrev pub is_awake_flag : Option (List ℕ) → Bool
is_awake_flag None = false
is_awake_flag (Some text) = is_one_of (codes "owner" ∷ codes "persist" ∷ []) text

-- the flags of a table, if it has some, are such: a list, or one alone
abbrev pub are_awake_flags : Option Json → Bool
are_awake_flags None = true
are_awake_flags (Some value) = list_all (λ flag. is_awake_flag (as_str flag)) (listed_values value)

-- packets come to a table, as far as its flags tell; nft 1.0.6 writes the table's name in the place
-- of each flag, so that a table that is named like a flag has to have none
abbrev pub is_awake : Json → Bool
is_awake said =
    if is_awake_flag (text_in (codes "name") said) then not (is_some (get (codes "flags") said))
    else are_awake_flags (get (codes "flags") said)

-- a table isn't dormant
abbrev pub with_table : List ListedChain → Json → Result (List ListedChain) ObjectKind
with_table chains said = if is_awake said then Ok chains else Err object.BadTable

-- an object of a family by its name; chains and rules of families that aren't read have no part
abbrev pub with_part : Setting → List ListedChain → List ℕ → Json → List ℕ →
    Result (List ListedChain) ObjectKind
with_part setting chains name said family =
    if bytes_eq name (codes "table") then with_table chains said
    else (if not (is_read setting.question.asked.family family) then Ok chains
    else (if bytes_eq name (codes "rule") then with_rule setting chains said
    else (if bytes_eq name (codes "chain") then with_chain setting chains said else Ok chains)))

-- objects of a name have a family
abbrev pub has_family : List ℕ → Bool
has_family name =
    bytes_eq name (codes "rule") || bytes_eq name (codes "chain")
    || bytes_eq name (codes "table") || is_silent name

-- an object by its name
abbrev pub with_named_object : Setting → List ListedChain → List ℕ → Json →
    Result (List ListedChain) ObjectKind
with_named_object setting chains name said =
    if has_family name
    then (or_cause object.NoFamily (family_in said) >>= with_part setting chains name said)
    else (if bytes_eq name (codes "metainfo") then Ok chains else Err object.UnknownObject)

-- an object has one member
abbrev pub with_object : Setting → List ListedChain → Json → Result (List ListedChain) ObjectKind
with_object setting chains value =
    or_cause object.UnknownObject (only value) >>= λ found.
    with_named_object setting chains found.0 found.1

-- the objects that were read, by their number, and the chains of them
pub record ReadObjects : Type 0 where
  pub number : ℕ
  pub chains : List ListedChain

-- none
abbrev pub none_read : ReadObjects
none_read = record { number = 0; chains = [] }

-- an object more, or its fault
abbrev pub one_more : ℕ → Result (List ListedChain) ObjectKind → Result ReadObjects ObjectFault
one_more number (Ok chains) = Ok (record { number = number; chains = chains })
one_more number (Err why) = Err (record { object = number; kind = why })

-- the fault of a ruleset whose object isn't read, or want of memory
abbrev pub fault_of : ℕ → Stop ObjectKind → NftFault
fault_of number (stop.Told kind) = told.Object (record { object = number; kind = kind })
fault_of number stop.OutOfMemory = told.OutOfMemory

-- the next object: the first fault is that of the ruleset
abbrev pub with_next : Setting → ReadObjects → Json → Result ReadObjects ObjectFault
with_next setting read value =
    one_more (read.number + 1) (with_object setting read.chains value)

-- the chains of objects
abbrev pub objects_read : Setting → List Json → Result (List ListedChain) ObjectFault
objects_read setting objects =
    folded (with_next setting) none_read objects >>= λ read. Ok read.chains

-- ---- the base chain that is asked for

-- what a chain of the network is, if it is a base chain of the name
abbrev pub begin_said : Family → List ℕ → Json → Option Base
begin_said family name said =
    option_and_then (λ of. if is_network_of family of && is_text name (text_in (codes "name") said)
    then base_of of said else None)
    (text_in (codes "family") said)

-- the same of an object
abbrev pub begin_in : Family → List ℕ → Json → Option Base
begin_in family name value =
    option_and_then (begin_said family name) (said_by (codes "chain") value)

-- the first such base chain so far
abbrev pub with_begin : Family → List ℕ → Option Base → Json → Option Base
with_begin family name begin value = first_of begin (begin_in family name value)

-- that of objects
abbrev pub begin_of : Family → List ℕ → List Json → Option Base
begin_of family name objects = fold (with_begin family name) None objects

-- ---- files

-- the question of the base chain of a name among objects, before any rule
abbrev pub begun : List ℕ → Question → List Json → Question
begun name question objects = record question {
  begin = begin_of question.asked.family name objects;
}

-- the chains of objects that may name sets
abbrev pub with_objects : List ℕ → Question → List Json → Result (List ListedChain) ObjectFault
with_objects name question objects =
    objects_read (record {
      question = begun name question objects;
      sets = sets_of objects;
    }) objects

-- the question before any object
abbrev pub question : Asked → List ℕ → Question
question asked assumed =
    record { asked = asked; assumed = assumed; begin = None; ported = false }

-- a fault of the whole file
abbrev pub whole_fault : ObjectKind → ObjectFault
whole_fault why = record { object = 0; kind = why }

-- the objects of a ruleset, which has the one member `nftables`
abbrev pub objects_of : Json → Option (List Json)
objects_of value = option_and_then items_of (said_by (codes "nftables") value)

-- the chains of a value
abbrev pub chains_of_value : List ℕ → Question → Json → Result (List ListedChain) ObjectFault
chains_of_value name question value =
    or_cause (whole_fault object.NoList) (objects_of value) >>= with_objects name question

-- the chains of a text of JSON
abbrev pub chains_of_document : List ℕ → Question → Option Json →
    Result (List ListedChain) ObjectFault
chains_of_document name question value =
    or_cause (whole_fault object.NotJson) value >>= chains_of_value name question

-- the chains of a text, which is UTF-8
abbrev pub chains_of_text : List ℕ → Question → List ℕ →
    Result (List ListedChain) ObjectFault
chains_of_text name question bytes =
    if is_utf8 bytes then chains_of_document name question (document bytes)
    else Err (whole_fault object.NotJson)

-- the chains of a file, under what is assumed, where packets come to the base chain of a name
abbrev pub chains_of : Asked → List ℕ → List ℕ → List ℕ →
    Result (List ListedChain) ObjectFault
chains_of asked assumed name bytes =
    if nat_lt max_ruleset (length bytes) then Err (whole_fault object.FileTooLong)
    else chains_of_text name (question asked assumed) bytes
