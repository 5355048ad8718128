-- What a rule of another base chain may do to a packet. Packets go on that it accepts there, lets
-- go on or changes; a rule that does anything else may drop them. What a rule compares doesn't
-- count, but for the family of its packets.
use Rattle.std.specs.Prelude.{ℕ, Bool, true, false, not, ◌||◌, if◌then◌else◌, codes, fold}
use Rattle.std.specs.Prelude.{List, [], ◌∷◌, ◌++◌, Option, Some, None, option_and_then}
use Rattle.std.specs.Prelude.{Result, Ok, Err}
use Rattle.std.specs.Str.{bytes_eq}
use Rattle.json.specs.Json.{Json}
use Rattle.json.specs.Find.{as_str, get}
use Rattle.field_defs.specs.declared.field.Family.{Family}
use Rattle.nft_reader.specs.declared.chain.Lead.{Lead}
use Rattle.nft_reader.specs.declared.compared.Fact.TheVariants as fact
use Rattle.nft_reader.specs.declared.compared.Left.{Left}
use Rattle.nft_reader.specs.declared.compared.Left.TheVariants as left
use Rattle.nft_reader.specs.declared.fault.RuleKind.{RuleKind}
use Rattle.nft_reader.specs.Compared.{MatchSides, is_ip4, is_negated, is_of, left_of, sides_of}
use Rattle.nft_reader.specs.Known.{Known, known_elements, led_to}
use Rattle.nft_reader.specs.Sets.{is_text}
use Rattle.nft_reader.specs.Shapes.{is_one_of, only, pair_of, said_by, text_in}

-- what a rule does: none of the packets comes to what follows in it, it may drop some, and it leads
-- to chains
pub record Effects : Type 0 where
  pub over : Bool
  pub stops : Bool
  pub leads : List Lead

-- it does nothing
abbrev pub no_effects : Effects
no_effects = record { over = false; stops = false; leads = [] }

-- it may drop packets
abbrev pub stopped : Effects → Effects
stopped effects = record effects { stops = true }

-- ---- packets of the other family

-- a comparison of the family is true of no packet: equality of the other one, or else inequality
abbrev pub misses : Family → Option Bool → Option Bool → Bool
misses family None is4 = false
misses family (Some negated) None = false
misses family (Some negated) (Some is4) =
    if negated then is_of family is4 else not (is_of family is4)

-- no packet has what is compared
abbrev pub misses_side : Family → MatchSides → Option Left → Bool
misses_side family sides None = false
misses_side family sides (Some (left.Header which held)) = false
misses_side family sides (Some left.OtherFamily) = true
misses_side family sides (Some (left.Fact fact.Nfproto)) =
    misses family (is_negated sides.operator) (option_and_then is_ip4 (as_str sides.right))
misses_side family sides (Some (left.Fact fact.State)) = false
misses_side family sides (Some (left.Fact (fact.Interface which manner))) = false

-- the same of both sides, if there are
abbrev pub misses_sides : Family → Option MatchSides → Bool
misses_sides family None = false
misses_sides family (Some sides) = misses_side family sides (left_of family sides.left)

-- a statement compares so that packets of the family don't come to what follows
abbrev pub is_missed : Family → Json → Bool
is_missed family statement =
    misses_sides family (option_and_then sides_of (said_by (codes "match") statement))

-- ---- statements

-- verdicts by which packets go on
abbrev pub lets_go : List ℕ → Bool
lets_go name = is_one_of (codes "accept" ∷ codes "return" ∷ codes "continue" ∷ []) name

-- statements that compare, count or measure
abbrev pub is_measuring : List ℕ → Bool
is_measuring name =
    bytes_eq name (codes "match") || bytes_eq name (codes "counter")
    || bytes_eq name (codes "log") || bytes_eq name (codes "limit")
    || bytes_eq name (codes "quota") || bytes_eq name (codes "ct count")

-- statements that keep what they saw, or send a copy
abbrev pub is_keeping : List ℕ → Bool
is_keeping name =
    bytes_eq name (codes "set") || bytes_eq name (codes "map") || bytes_eq name (codes "meter")
    || bytes_eq name (codes "last") || bytes_eq name (codes "dup")

-- statements that change packets, or a mark
abbrev pub is_changing : List ℕ → Bool
is_changing name =
    bytes_eq name (codes "mangle") || bytes_eq name (codes "snat")
    || bytes_eq name (codes "dnat") || bytes_eq name (codes "masquerade")
    || bytes_eq name (codes "redirect")

-- statements that change what is known of a connection
abbrev pub is_tracking : List ℕ → Bool
is_tracking name =
    bytes_eq name (codes "notrack") || bytes_eq name (codes "ct helper")
    || bytes_eq name (codes "ct timeout") || bytes_eq name (codes "ct expectation")
    || bytes_eq name (codes "secmark")

-- statements that don't end a packet's way
abbrev pub is_quiet : List ℕ → Bool
is_quiet name = is_measuring name || is_keeping name || is_changing name || is_tracking name

-- targets of iptables that let packets go on
abbrev pub is_quiet_target : List ℕ → Bool
is_quiet_target name =
    bytes_eq name (codes "LOG") || bytes_eq name (codes "NFLOG") || bytes_eq name (codes "MARK")
    || bytes_eq name (codes "CONNMARK") || bytes_eq name (codes "TRACE")
    || bytes_eq name (codes "CHECKSUM")

-- it is one, if there is one
abbrev pub is_quiet_named : Option (List ℕ) → Bool
is_quiet_named None = false
is_quiet_named (Some name) = is_quiet_target name

-- a part of a rule of iptables that lets packets go on: a match, or such a target
abbrev pub is_quiet_part : Json → Bool
is_quiet_part said =
    is_text (codes "match") (text_in (codes "type") said)
    || is_quiet_named (text_in (codes "name") said)

-- it leads to a chain, or to one that isn't there
abbrev pub with_lead : ℕ → Option ℕ → Effects → Effects
with_lead handle None effects = stopped effects
with_lead handle (Some place) effects =
    record effects { leads = effects.leads ++ record { handle = handle; place = place } ∷ [] }

-- a verdict by its name and what it says
abbrev pub with_verdict_effect : Known → List ℕ → Json → Effects → Effects
with_verdict_effect known name said effects =
    if lets_go name then effects
    else (if is_one_of (codes "jump" ∷ codes "goto" ∷ []) name
    then with_lead known.handle (led_to known said) effects else stopped effects)

-- the verdict of an element by its only member, if it has one
abbrev pub with_only_effect : Known → Effects → Option (List ℕ × Json) → Effects
with_only_effect known effects None = stopped effects
with_only_effect known effects (Some found) = with_verdict_effect known found.0 found.1 effects

-- the verdict of an element by its value and its verdict
abbrev pub with_pair_effect : Known → Effects → Option (Json × Json) → Effects
with_pair_effect known effects None = stopped effects
with_pair_effect known effects (Some pair) = with_only_effect known effects (only pair.1)

-- an element of a map
abbrev pub with_element_effect : Known → Effects → Json → Effects
with_element_effect known effects element = with_pair_effect known effects (pair_of element)

-- the elements of a map, if they are known
abbrev pub with_elements_effect : Known → Effects → Result (List Json) RuleKind → Effects
with_elements_effect known effects (Err why) = stopped effects
with_elements_effect known effects (Ok elements) =
    fold (with_element_effect known) effects elements

-- a map by what it looks up, if that is there
abbrev pub with_map_effect : Known → Effects → Option Json → Effects
with_map_effect known effects None = stopped effects
with_map_effect known effects (Some found) =
    with_elements_effect known effects (known_elements known true found)

-- a statement that isn't quiet, by its name and what it says
abbrev pub with_acting_effect : Known → List ℕ → Json → Effects → Effects
with_acting_effect known name said effects =
    if bytes_eq name (codes "xt")
    then (if is_quiet_part said then effects else stopped effects)
    else (if bytes_eq name (codes "vmap")
    then with_map_effect known effects (get (codes "data") said)
    else with_verdict_effect known name said effects)

-- a statement by its name and what it says
abbrev pub with_named_effect : Known → List ℕ → Json → Effects → Effects
with_named_effect known name said effects =
    if is_quiet name then effects else with_acting_effect known name said effects

-- a statement by its only member, if it has one
abbrev pub with_found_effect : Known → Effects → Option (List ℕ × Json) → Effects
with_found_effect known effects None = stopped effects
with_found_effect known effects (Some found) = with_named_effect known found.0 found.1 effects

-- a statement, to which packets of the family come or not
abbrev pub with_statement_effect : Known → Effects → Json → Effects
with_statement_effect known effects statement =
    if effects.over then effects
    else (if is_missed known.question.asked.family statement then record effects { over = true }
    else with_found_effect known effects (only statement))

-- what the statements of a rule do
abbrev pub effects_of : Known → List Json → Effects
effects_of known statements = fold (with_statement_effect known) no_effects statements
