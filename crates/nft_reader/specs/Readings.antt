-- A rule, statement by statement (libnftables-json(5), "STATEMENTS"). Its comparisons say which
-- packets it catches, and its last statement what becomes of them. A statement that isn't known
-- here isn't passed over: the rule then isn't said.
use Rattle.std.specs.Prelude.{ℕ, ◌==◌, Bool, true, false, ◌&&◌, not, is_some, if◌then◌else◌, codes}
use Rattle.std.specs.Prelude.{List, [], ◌∷◌, ◌++◌, Option, Some, None, option_and_then}
use Rattle.std.specs.Prelude.{Result, Ok, Err}
use Rattle.std.specs.List.{list_any}
use Rattle.std.specs.Str.{bytes_eq}
use Rattle.json.specs.Json.{Json}
use Rattle.json.specs.Find.{as_str}
use Rattle.field_defs.specs.declared.field.Family.{Family}
use Rattle.list_packets.specs.declared.packets.Packets.{Packets}
use Rattle.list_packets.specs.Packets.{CaughtBoxes, all_caught}
use Rattle.nft_reader.specs.declared.fault.RuleKind.{RuleKind}
use Rattle.nft_reader.specs.declared.fault.RuleKind.TheVariants as kind
use Rattle.nft_reader.specs.declared.known.Branch.{Branch}
use Rattle.nft_reader.specs.declared.known.Outcome.{Outcome}
use Rattle.nft_reader.specs.Compared.{MatchSides, is_of, is_unequal, protocol_in, sides_of}
use Rattle.nft_reader.specs.Comparisons.{ComparedBoxes, caught_by, leaves_ported, names_other}
use Rattle.nft_reader.specs.Keys.{compared, protocol_packets}
use Rattle.nft_reader.specs.Known.{Known, decision, leading, nowhere, outcome_of}
use Rattle.nft_reader.specs.Maps.{looked_up}
use Rattle.nft_reader.specs.Sets.{at_name, is_text}
use Rattle.nft_reader.specs.Shapes.{len_of, only, said_by, text_in}
use Rattle.nft_reader.specs.Stops.{◌>>=◌, folded, or_cause}
use Rattle.nft_reader.specs.Values.{first_of}

-- what a rule says so far: what it compares, why no rule file says it, what becomes of packets, and
-- whether it has a verdict or a map, after which nothing may stand
pub record ReadRule : Type 0 where
  pub compared : List ComparedBoxes
  pub cause : Option RuleKind
  pub branches : List Branch
  pub decides : Bool

-- nothing was read of a rule
abbrev pub no_reading : ReadRule
no_reading = record { compared = []; cause = None; branches = []; decides = false }

-- a cause why no rule file says it, of which the first counts
abbrev pub with_cause : RuleKind → ReadRule → ReadRule
with_cause why reading = record reading { cause = first_of reading.cause (Some why) }

-- ---- comparisons

-- packets in one of some boxes
abbrev pub with_packets : List Packets → ReadRule → ReadRule
with_packets boxes reading =
    record reading {
      compared = reading.compared ++ record { negated = false; boxes = boxes } ∷ [];
    }

-- packets of a protocol, if there is one
abbrev pub of_protocol : Family → Option ℕ → ReadRule → ReadRule
of_protocol family None reading = reading
of_protocol family (Some number) reading =
    with_packets (protocol_packets family number ∷ []) reading

-- all of the packets, or none
abbrev pub of_truth : Bool → ReadRule → ReadRule
of_truth is_so reading = if is_so then reading else with_packets [] reading

-- a comparison of the rule leaves packets alone whose protocols have ports
abbrev pub keeps_ported : ReadRule → Bool
keeps_ported reading = list_any leaves_ported reading.compared

-- what is known after the comparisons of a rule
abbrev pub told : Known → ReadRule → Known
told known reading =
    record known { question = record known.question { ported = keeps_ported reading } }

-- a comparison that is known, or why it isn't
abbrev pub with_compared : Result ComparedBoxes RuleKind → ReadRule → ReadRule
with_compared (Ok comparison) reading =
    record reading { compared = reading.compared ++ comparison ∷ [] }
with_compared (Err why) reading = with_cause why reading

-- a comparison, of packets of the protocol that have what it compares
abbrev pub with_match : Known → Json → ReadRule → ReadRule
with_match known said reading =
    with_compared (compared (told known reading) said)
    (of_protocol known.question.asked.family
    (protocol_in known.question.asked.family said) reading)

-- ---- what becomes of packets

-- those that the comparisons catch
abbrev pub decided : Family → Outcome → ReadRule → ReadRule
decided family does reading = record reading {
  branches =
      reading.branches ++ record { caught = caught_by family reading.compared; does = does } ∷ [];
  decides = true;
}

-- they go on, or have a verdict
abbrev pub with_outcome : Family → ReadRule → Option Outcome → ReadRule
with_outcome family reading None = reading
with_outcome family reading (Some does) = decided family does reading

-- a comparison of the rule names protocols, of which one isn't TCP
abbrev pub names_others : ReadRule → Bool
names_others reading = list_any (names_other 6) reading.compared

-- Packets of TCP alone. To a set of protocols nft adds no comparison with TCP, and the kernel drops
-- what is of the others: a rule that names others isn't said.
abbrev pub of_reset : Family → ReadRule → ReadRule
of_reset family reading =
    if names_others reading then with_cause kind.CantSay reading
    else of_protocol family (Some 6) reading

-- An answer to the sender by its type: a reset of TCP is one for packets of TCP alone, and a
-- message of ICMP one for those of its family, although the list doesn't show these comparisons.
abbrev pub of_answer : Family → List ℕ → ReadRule → Result ReadRule RuleKind
of_answer family type reading =
    if bytes_eq type (codes "icmpx") then Ok reading
    else (if bytes_eq type (codes "icmp") then Ok (of_truth (is_of family true) reading)
    else (if bytes_eq type (codes "icmpv6") then Ok (of_truth (is_of family false) reading)
    else (if bytes_eq type (codes "tcp reset") then Ok (of_reset family reading)
    else Err kind.BadStatement)))

-- the type of an answer; the usual one is that of both families
abbrev pub answer_type : Json → Option (List ℕ)
answer_type said =
    if len_of said == 0 then Some (codes "icmpx") else text_in (codes "type") said

-- an answer to the sender, which is the verdict 3
abbrev pub rejected : Known → Json → ReadRule → Result ReadRule RuleKind
rejected known said reading =
    or_cause kind.BadStatement (answer_type said) >>= λ type.
    of_answer known.question.asked.family type reading >>= λ more.
    Ok (decided known.question.asked.family (decision known 3) more)

-- what becomes of the packets of a map's elements
abbrev pub with_map : Known → Json → ReadRule → Result ReadRule RuleKind
with_map known said reading =
    looked_up (told known reading) said reading.compared >>= λ looked.
    Ok (record reading { branches = looked.branches; decides = true })

-- ---- inequalities that nft joins

-- a value is no list of several, no range and no set: nft lists a set of one element so too
abbrev pub is_single : Json → Bool
is_single value =
    not (is_some (only value)) && not (is_some (option_and_then at_name (as_str value)))

-- what is compared is the port of a name
abbrev pub is_port : List ℕ → Json → Bool
is_port name left =
    is_text name (option_and_then (text_in (codes "field")) (said_by (codes "payload") left))

-- both sides say that the port isn't one number, if there are
abbrev pub is_other_port : List ℕ → Option MatchSides → Bool
is_other_port name None = false
is_other_port name (Some sides) =
    is_unequal sides.operator && is_port name sides.left && is_single sides.right

-- a statement does
abbrev pub has_other_port : List ℕ → Json → Bool
has_other_port name statement =
    is_other_port name (option_and_then sides_of (said_by (codes "match") statement))

-- A rule says it of both ports. nft 1.0.6 makes one comparison of both, which is true where one of
-- them is another; the list shows two, and doesn't show which it is.
abbrev pub has_port_pair : List Json → Bool
has_port_pair statements =
    list_any (has_other_port (codes "sport")) statements
    && list_any (has_other_port (codes "dport")) statements

-- ---- statements

-- a verdict, unless packets go on
abbrev pub with_verdict : Known → List ℕ → Json → ReadRule → Result ReadRule RuleKind
with_verdict known name said reading =
    outcome_of known name said >>= λ does.
    Ok (with_outcome known.question.asked.family reading does)

-- a statement that says nothing but its name, or a verdict
abbrev pub with_word : Known → List ℕ → Json → ReadRule → Result ReadRule RuleKind
with_word known name said reading =
    if bytes_eq name (codes "counter") then Ok reading
    else (if bytes_eq name (codes "log") then Ok reading
    else (if bytes_eq name (codes "limit") then Ok (with_cause kind.Rate reading)
    else (if bytes_eq name (codes "set") then Ok (with_cause kind.ChangingSet reading)
    else with_verdict known name said reading)))

-- a statement by its name and what it says
abbrev pub with_named : Known → List ℕ → Json → ReadRule → Result ReadRule RuleKind
with_named known name said reading =
    if bytes_eq name (codes "match") then Ok (with_match known said reading)
    else (if bytes_eq name (codes "reject") then rejected known said reading
    else (if bytes_eq name (codes "vmap") then with_map known said reading
    else with_word known name said reading))

-- a statement, which doesn't stand after one that decides, or after a map
abbrev pub with_statement : Known → ReadRule → Json → Result ReadRule RuleKind
with_statement known reading statement =
    if reading.decides then Err kind.AfterVerdict
    else (or_cause kind.BadStatement (only statement) >>= λ found.
    with_named known found.0 found.1 reading)

-- ---- rules

-- what a rule says: what becomes of packets, and why no rule file says it
pub record SaidRule : Type 0 where
  pub branches : List Branch
  pub cause : Option RuleKind

-- a rule that no rule file says: its packets are led to no chain
abbrev pub unsaid : Known → RuleKind → CaughtBoxes → SaidRule
unsaid known why caught = record {
  branches = record { caught = caught; does = leading known nowhere } ∷ [];
  cause = Some why;
}

-- a rule that was read, unless there is a cause why no rule file says it; one without a verdict and
-- without a map does nothing: the next one decides
abbrev pub said_if : Known → ReadRule → Option RuleKind → SaidRule
said_if known reading None = record { branches = reading.branches; cause = None }
said_if known reading (Some why) =
    if reading.decides
    then unsaid known why (caught_by known.question.asked.family reading.compared)
    else record { branches = reading.branches; cause = None }

-- a rule that was read, or of which nothing is known
abbrev pub said_rule : Known → Result ReadRule RuleKind → SaidRule
said_rule known (Ok reading) = said_if known reading reading.cause
said_rule known (Err why) = unsaid known why (all_caught known.question.asked.family)

-- the statements of a rule, of which no two are written as one
abbrev pub with_statements : Known → List Json → SaidRule
with_statements known statements =
    said_rule known
    (if has_port_pair statements then Err kind.PortPair
    else folded (with_statement known) no_reading statements)
