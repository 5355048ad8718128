-- The rules of a chain of a saved list or a ruleset, or of a list of a configuration, or the first
-- thing that can't be said.
use Rattle.std.specs.Prelude.{ℕ, Bool, List, [], ◌∷◌, map, false, slice_get, Option, Some, None}
use Rattle.std.specs.Prelude.{◌==◌, if◌then◌else◌, Result, Ok, Err}
use Rattle.field_defs.specs.declared.field.Family.{Family}
use Rattle.field_defs.specs.declared.field.Family.TheVariants.{Ip4, Ip6}
use Rattle.field_defs.specs.declared.field.FieldDef.{FieldDef}
use Rattle.rule_set.specs.Rule.{RuleView}
use Rattle.classbench_reader.specs.Print.{fields_of}
use Rattle.list_chains.specs.declared.span.Span.{Span}
use Rattle.list_chains.specs.declared.fault.ChainsFault.{ChainsFault}
use Rattle.list_chains.specs.declared.fault.ChainsFault.TheVariants as fault
use Rattle.list_chains.specs.declared.fault.LimitFault.TheVariants as limit
use Rattle.list_chains.specs.declared.fault.RulePlace.{RulePlace}
use Rattle.list_chains.specs.Chains.{ListRule}
use Rattle.list_chains.specs.Tasks.{Chains}
use Rattle.list_chains.specs.Turned.{turned}
use Rattle.iptables_reader.specs.declared.fault.LineFault.{LineFault}
use Rattle.iptables_reader.specs.declared.answers.Answers.{Answers}
use Rattle.iptables_reader.specs.declared.answers.Answers.TheVariants as answers
use Rattle.iptables_reader.specs.declared.answers.Asked.{Asked}
use Rattle.iptables_reader.specs.Chains.{ListedChain, place_of}
use Rattle.iptables_reader.specs.Table.{chains_of}
use Rattle.cisco_reader.specs.declared.fault.LineFault as cisco
use Rattle.cisco_reader.specs.declared.packets.Answers as said
use Rattle.cisco_reader.specs.declared.packets.Answers.TheVariants as entry
use Rattle.cisco_reader.specs.Packets.{list_of}
use Rattle.nft_reader.specs.declared.known.Answers as ruled
use Rattle.nft_reader.specs.declared.known.Answers.TheVariants as ruling
use Rattle.nft_reader.specs.declared.known.Asked as ruleset_asked
use Rattle.nft_reader.specs.declared.fault.ObjectFault.{ObjectFault}
use Rattle.nft_reader.specs.declared.fault.RuleFault.{RuleFault}
use Rattle.nft_reader.specs.declared.fault.RuleKind.{RuleKind}
use Rattle.nft_reader.specs.declared.fault.StartFault.{StartFault}
use Rattle.nft_reader.specs.declared.fault.StartFault.TheVariants as starting
use Rattle.nft_reader.specs.Chains as nft
use Rattle.nft_reader.specs.Ruleset as listed
use Rattle.nft_reader.specs.Starts as starts
use Rattle.list_tool.specs.declared.status.ListFault.{ListFault}
use Rattle.list_tool.specs.declared.status.ListKind.{ListKind}
use Rattle.list_tool.specs.declared.status.ListKind.TheVariants.{Line, CiscoLine, Object, Rule, BaseChain}
use Rattle.list_tool.specs.declared.status.ListKind.TheVariants.{NoChain, NoPolicy, NoTarget, Loop}
use Rattle.list_tool.specs.declared.status.ListKind.TheVariants.{TooDeep, TooManyRules, TooManySteps}
use Rattle.list_tool.specs.declared.status.ListPlace.{ListPlace}
use Rattle.list_tool.specs.declared.status.ListPlace.TheVariants as placed
use Rattle.list_tool.specs.declared.status.Refusal.{Refusal}
use Rattle.list_tool.specs.declared.status.Refusal.TheVariants as refusal
use Rattle.list_tool.specs.declared.listing.Start.{Start}
use Rattle.list_tool.specs.declared.words.Form.{Form}
use Rattle.list_tool.specs.declared.words.Form.TheVariants.{Iptables, Ip6tables, Cisco, Nft, Nft6}
use Rattle.list_tool.specs.Words.{Request}

-- the family of a form's packets
abbrev pub family_of : Form → Family
family_of Iptables = Ip4
family_of Ip6tables = Ip6
family_of Cisco = Ip4
family_of Nft = Ip4
family_of Nft6 = Ip6

-- chains, those of their rules that no rule file says, and the chain that packets come to
pub record WayView : Type 0 where
  pub chains : Chains
  pub faults : List (List RuleFault)
  pub start : Start

-- ---- faults

-- what can't be said, at a place
abbrev pub at_place : ListPlace → ListKind → ListFault
at_place place kind = record { place = place; kind = kind }

-- the same in the line of a number
abbrev pub at_line : ℕ → ListKind → ListFault
at_line line kind = at_place (placed.Line line) kind

-- the same in the object of a number
abbrev pub at_object : ℕ → ListKind → ListFault
at_object number kind = at_place (placed.Object number) kind

-- the place of a rule of a form by its number, which of nft is its handle
abbrev pub rule_place : Form → ℕ → ListPlace
rule_place Iptables number = placed.Line number
rule_place Ip6tables number = placed.Line number
rule_place Cisco number = placed.Line number
rule_place Nft number = placed.Handle number
rule_place Nft6 number = placed.Handle number

-- and of what stands in no line, or in no object
abbrev pub no_place : Form → ListPlace
no_place Iptables = placed.Line 0
no_place Ip6tables = placed.Line 0
no_place Cisco = placed.Line 0
no_place Nft = placed.Object 0
no_place Nft6 = placed.Object 0

infixl 10 ◌>>=◌
-- a value, and then what comes of it, or its fault
abbrev pub ◌>>=◌ :
    {A B : Type 0} → Result A ListFault → (A → Result B ListFault) → Result B ListFault
(Ok value) >>= following = following value
(Err fault) >>= following = Err fault

-- the chains that were read, or the line that isn't
abbrev pub or_unread : Result (List ListedChain) LineFault → Result (List ListedChain) ListFault
or_unread (Ok chains) = Ok chains
or_unread (Err fault) = Err (at_line fault.line (Line fault.kind))

-- the userdata of a rule, which of one that leads to a chain is its number in every list
abbrev pub number_of_rule : Option (ListRule (List Span)) → ℕ
number_of_rule None = 0
number_of_rule (Some rule) = rule.userdata

-- the same of the rule at a place of a chain
abbrev pub number_in_chain : ℕ → Option (List (ListRule (List Span))) → ℕ
number_in_chain rule None = 0
number_in_chain rule (Some rules) = number_of_rule (slice_get rules rule)

-- the number of the rule at a place
abbrev pub number_of_place : Chains → RulePlace → ℕ
number_of_place chains at = number_in_chain at.rule (slice_get chains at.chain)

-- why no rule file says the rule of a handle, by the first fault that has it
abbrev pub cause_of : ℕ → List RuleFault → Option RuleKind
cause_of handle [] = None
cause_of handle (fault ∷ faults) =
    if fault.handle == handle then Some fault.kind else cause_of handle faults

-- the same by the faults of its chain, if that has some
abbrev pub cause_in : ℕ → Option (List RuleFault) → Option RuleKind
cause_in handle None = None
cause_in handle (Some faults) = cause_of handle faults

-- a rule that leads to no chain is one that no rule file says, or its target isn't there
abbrev pub led_nowhere : Option RuleKind → ListKind
led_nowhere None = NoTarget
led_nowhere (Some kind) = Rule kind

-- which of both the rule at a place is
abbrev pub nowhere_kind : WayView → RulePlace → ListKind
nowhere_kind way at =
    led_nowhere (cause_in (number_of_place way.chains at) (slice_get way.faults at.chain))

-- what is wrong with the rule at a place
abbrev pub at_rule : Form → Chains → RulePlace → ListKind → ListFault
at_rule form chains at kind = at_place (rule_place form (number_of_place chains at)) kind

-- why chains aren't turned into rules; want of memory is none of the list's faults
abbrev pub unturned : Form → WayView → ChainsFault → ListFault
unturned form way (fault.NoChain at) = at_rule form way.chains at (nowhere_kind way at)
unturned form way (fault.Loop at) = at_rule form way.chains at Loop
unturned form way (fault.Limit limit.TooManyRules) = at_place (no_place form) TooManyRules
unturned form way (fault.Limit limit.TooManySteps) = at_place (no_place form) TooManySteps
unturned form way (fault.Limit limit.TooDeep) = at_place (no_place form) TooDeep
unturned form way fault.OutOfMemory = at_place (no_place form) TooManySteps

-- and so as a refusal
abbrev pub refusal_of : Form → WayView → ChainsFault → Refusal
refusal_of form way fault.OutOfMemory = refusal.OutOfMemory
refusal_of form way (fault.NoChain at) = refusal.Fault (unturned form way (fault.NoChain at))
refusal_of form way (fault.Loop at) = refusal.Fault (unturned form way (fault.Loop at))
refusal_of form way (fault.Limit which) = refusal.Fault (unturned form way (fault.Limit which))

-- the rules of the chains, or why there are none
abbrev pub or_unturned :
    Form → WayView → Result (List RuleView) ChainsFault → Result (List RuleView) ListFault
or_unturned form way (Ok rules) = Ok rules
or_unturned form way (Err fault) = Err (unturned form way fault)

-- ---- a chain that packets come to

-- the policy of a chain, if it is there and has one
abbrev pub policy_in : Option ListedChain → Option ℕ
policy_in None = None
policy_in (Some chain) = chain.policy

-- such a chain begins the way, by its place
abbrev pub start_with : ListPlace → ℕ → Option ℕ → Result Start ListFault
start_with none place None = Err (at_place none NoPolicy)
start_with none place (Some policy) = Ok (record { place = place; policy = policy })

-- or there is none of the name
abbrev pub start_at : List ListedChain → Option ℕ → Result Start ListFault
start_at chains None = Err (at_line 0 NoChain)
start_at chains (Some place) =
    start_with (placed.Line 0) place (policy_in (slice_get chains place))

-- the chain of a name: it is there, and packets come to it by themselves
abbrev pub start_of : List ℕ → List ListedChain → Result Start ListFault
start_of name chains = start_at chains (place_of false name chains)

-- the rules alone
abbrev pub alone : List ListedChain → Chains
alone chains = map (λ chain. chain.rules) chains

-- ---- what a list says

-- the chains of a saved list, which begin at that of a name
abbrev pub way_from : List ℕ → List ListedChain → Result WayView ListFault
way_from name chains =
    start_of name chains >>= λ start.
    Ok (record { chains = alone chains; faults = []; start = start })

-- the same by the bytes of the list
abbrev pub saved_way : Asked → List ℕ → List ℕ → List ℕ → Result WayView ListFault
saved_way asked assumed name bytes =
    or_unread (chains_of asked assumed name bytes) >>= way_from name

-- what the answers of entries are
abbrev pub entry_answers : Answers → said.Answers
entry_answers answers.Line = entry.Line
entry_answers answers.Verdict = entry.Verdict

-- A packet that no entry of a list catches is denied (Cisco IOS Security Configuration Guide, "IP
-- Access List Overview": the implicit deny), and no line says so.
abbrev pub unsaid_end : Answers → ℕ
unsaid_end answers.Line = 0
unsaid_end answers.Verdict = 2

-- the entries of a list as the only chain
abbrev pub entries_way : Answers → List (ListRule (List Span)) → WayView
entries_way its rules = record {
  chains = rules ∷ [];
  faults = [];
  start = record { place = 0; policy = unsaid_end its };
}

-- the entries that were read, or the line that isn't
abbrev pub or_unread_entry : Answers → Result (List (ListRule (List Span))) cisco.LineFault →
    Result WayView ListFault
or_unread_entry its (Ok rules) = Ok (entries_way its rules)
or_unread_entry its (Err fault) = Err (at_line fault.line (CiscoLine fault.kind))

-- the list of a name in a configuration
abbrev pub configured_way : Answers → List ℕ → List ℕ → Result WayView ListFault
configured_way its name bytes = or_unread_entry its (list_of (entry_answers its) name bytes)

-- ---- a ruleset

-- what the answers of its rules are
abbrev pub rule_answers : Answers → ruled.Answers
rule_answers answers.Line = ruling.Handle
rule_answers answers.Verdict = ruling.Verdict

-- the chains that were read, or the object that isn't
abbrev pub or_unread_object :
    Result (List nft.ListedChain) ObjectFault → Result (List nft.ListedChain) ListFault
or_unread_object (Ok chains) = Ok chains
or_unread_object (Err fault) = Err (at_object fault.object (Object fault.kind))

-- the policy of a chain, if it is there and has one
abbrev pub base_policy : Option nft.ListedChain → Option ℕ
base_policy None = None
base_policy (Some chain) = chain.policy

-- where a base chain is that can't be asked: what may drop beside it has a handle
abbrev pub start_place : StartFault → ListPlace
start_place starting.NoStart = placed.Object 0
start_place starting.ManyStarts = placed.Object 0
start_place starting.NatStart = placed.Object 0
start_place starting.OtherInterface = placed.Object 0
start_place (starting.Beside handle) = placed.Handle handle

-- a base chain begins the way, by its place, or there isn't one
abbrev pub base_at : List nft.ListedChain → Result ℕ StartFault → Result Start ListFault
base_at chains (Err fault) = Err (at_place (start_place fault) (BaseChain fault))
base_at chains (Ok place) =
    start_with (placed.Object 0) place (base_policy (slice_get chains place))

-- the base chain of a name, which no other table has too, and beside which none may drop
abbrev pub base_chain : List Bool → List ℕ → List ℕ → List nft.ListedChain →
    Result Start ListFault
base_chain stopping assumed name chains =
    base_at chains (starts.start_with stopping assumed name chains)

-- the faults of the rules of each chain
abbrev pub faults_alone : List nft.ListedChain → List (List RuleFault)
faults_alone chains = map (λ chain. chain.faults) chains

-- the chains of a ruleset, which begin at the base chain of a name
abbrev pub ruleset_from : List ℕ → List ℕ → List nft.ListedChain → Result WayView ListFault
ruleset_from assumed name chains =
    base_chain (starts.stopping_chains chains) assumed name chains >>= λ start. Ok (record {
      chains = map (λ chain. chain.rules) chains;
      faults = faults_alone chains;
      start = start;
    })

-- the same by the bytes of the ruleset
abbrev pub ruleset_way :
    ruleset_asked.Asked → List ℕ → List ℕ → List ℕ → Result WayView ListFault
ruleset_way asked assumed name bytes =
    or_unread_object (listed.chains_of asked assumed name bytes) >>= ruleset_from assumed name

-- ---- all forms

-- what a list of a form says of the chain or the list of a name
abbrev pub way_in : Form → Answers → List ℕ → List ℕ → List ℕ → Result WayView ListFault
way_in Iptables its assumed name bytes =
    saved_way (record { family = Ip4; answers = its }) assumed name bytes
way_in Ip6tables its assumed name bytes =
    saved_way (record { family = Ip6; answers = its }) assumed name bytes
way_in Cisco its assumed name bytes = configured_way its name bytes
way_in Nft its assumed name bytes =
    ruleset_way (record { family = Ip4; answers = rule_answers its }) assumed name bytes
way_in Nft6 its assumed name bytes =
    ruleset_way (record { family = Ip6; answers = rule_answers its }) assumed name bytes

-- what is asked for, with such answers, by the bytes of a list
abbrev pub way_of : Request → Answers → List ℕ → Result WayView ListFault
way_of request its bytes =
    way_in request.form its request.options.assumed request.chain bytes

-- ---- its rules

-- the fields of the packets of a form
abbrev pub layout_of : Form → List FieldDef
layout_of form = fields_of (family_of form)

-- the rules of chains
abbrev pub turned_way : Form → WayView → Result (List RuleView) ListFault
turned_way form way =
    or_unturned form way (turned (layout_of form) way.chains way.start.place way.start.policy)

-- the rules that a request asks for, with such answers
abbrev pub rules_for : Request → List ℕ → Answers → Result (List RuleView) ListFault
rules_for request bytes its =
    way_of request its bytes >>= turned_way request.form
