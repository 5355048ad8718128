-- The packets of which what is compared is an element. The left side of a comparison or the key of
-- a map may take several things together (libnftables-json(5), "CONCAT"): an element is the packets
-- that have its part in each of what is taken together.
use Rattle.std.specs.Prelude.{ℕ, ◌==◌, ◌||◌, Bool, true, false, not, is_some, if◌then◌else◌, codes}
use Rattle.std.specs.Prelude.{List, [], ◌∷◌, ◌++◌, length, Option, Some, None, option_and_then}
use Rattle.std.specs.Prelude.{Result, Ok, Err}
use Rattle.json.specs.Json.{Json}
use Rattle.nft_reader.specs.declared.fault.RuleKind.{RuleKind}
use Rattle.nft_reader.specs.declared.fault.RuleKind.TheVariants as kind
use Rattle.field_defs.specs.declared.field.Family.{Family}
use Rattle.list_packets.specs.declared.packets.Field.TheVariants as field
use Rattle.list_packets.specs.declared.packets.Packets.{Packets}
use Rattle.list_packets.specs.Packets.{all_packets, meets, with_span}
use Rattle.nft_reader.specs.declared.compared.Holders.{Holders}
use Rattle.nft_reader.specs.declared.compared.Holders.TheVariants as holders
use Rattle.nft_reader.specs.declared.compared.Left.{Left}
use Rattle.nft_reader.specs.declared.compared.Left.TheVariants as left
use Rattle.nft_reader.specs.declared.compared.Operator.{Operator}
use Rattle.nft_reader.specs.declared.compared.Operator.TheVariants as operator
use Rattle.nft_reader.specs.Assumed.{is_met}
use Rattle.nft_reader.specs.Compared.{MatchSides, is_negated, is_turned, left_of, sides_of}
use Rattle.nft_reader.specs.Comparisons.{ComparedBoxes, are_ported}
use Rattle.nft_reader.specs.Known.{Known, Question, known_elements}
use Rattle.nft_reader.specs.Shapes.{items_of, said_by}
use Rattle.nft_reader.specs.Stops.{◌>>=◌, folded, or_cant}
use Rattle.nft_reader.specs.Values.{bare_element, part_boxes}

-- packets of a protocol
abbrev pub protocol_packets : Family → ℕ → Packets
protocol_packets family number =
    with_span (all_packets family) field.Protocol (record { low = number; high = number })

-- the packets that have what is compared
abbrev pub held_packets : Family → Holders → Packets
held_packets family holders.All = all_packets family
held_packets family (holders.Protocol number) = protocol_packets family number
held_packets family holders.Ported = all_packets family

-- all packets, or none
abbrev pub truth_boxes : Family → Bool → List Packets
truth_boxes family true = all_packets family ∷ []
truth_boxes family false = []

-- ---- elements of a key

-- a thing can be told of packets in some boxes: ports of whatever protocol, if each has ports
abbrev pub is_told : Question → List Packets → Holders → Bool
is_told question boxes holders.All = true
is_told question boxes (holders.Protocol number) = true
is_told question boxes holders.Ported = question.ported || are_ported boxes

-- the packets of which one thing is an element, if it can be told of those in some boxes
abbrev pub thing_boxes : Question → List Packets → Left → Json → Result (List Packets) RuleKind
thing_boxes question boxes (left.Header which held) value =
    if is_told question boxes held
    then part_boxes question.asked.family (held_packets question.asked.family held) which
    (value ∷ [])
    else Err kind.CantSay
thing_boxes question boxes left.OtherFamily value = Ok []
thing_boxes question boxes (left.Fact which) value =
    is_met question which operator.Equal value >>= λ is_so.
    Ok (truth_boxes question.asked.family is_so)

-- those of some boxes of which one more thing is an element
abbrev pub with_thing : Question → List Packets → Json → Json → Result (List Packets) RuleKind
with_thing question boxes key value =
    or_cant (left_of question.asked.family key) >>= λ side.
    thing_boxes question boxes side value >>= λ more. Ok (meets boxes more)

-- those of which each thing is its part of an element
unfoldable pub parts_boxes : Question → List Packets → List Json → List Json →
    Result (List Packets) RuleKind
parts_boxes question boxes [] values = Ok boxes
parts_boxes question boxes (key ∷ keys) [] = Err kind.CantSay
parts_boxes question boxes (key ∷ keys) (value ∷ values) =
    with_thing question boxes key value >>= λ more. parts_boxes question more keys values

-- an element has a part for each thing that is taken together
abbrev pub concat_boxes : Question → List Json → List Json → Result (List Packets) RuleKind
concat_boxes question keys values =
    if length keys == length values
    then parts_boxes question (all_packets question.asked.family ∷ []) keys values
    else Err kind.CantSay

-- the parts of what is taken together
abbrev pub concat_of : Json → Option (List Json)
concat_of value = option_and_then items_of (said_by (codes "concat") value)

-- the packets of which a key is an element, by what it takes together
abbrev pub key_by : Question → Json → Json → Option (List Json) → Result (List Packets) RuleKind
key_by question key value None = concat_boxes question (key ∷ []) (value ∷ [])
key_by question key value (Some keys) = or_cant (concat_of value) >>= concat_boxes question keys

-- the packets of which a key is an element: one thing, or several
abbrev pub key_boxes : Question → Json → Json → Result (List Packets) RuleKind
key_boxes question key value = key_by question key value (concat_of key)

-- those of one more element, which may have a counter and a comment
abbrev pub with_key : Question → Json → List Packets → Json → Result (List Packets) RuleKind
with_key question key boxes element =
    or_cant (bare_element element) >>= λ value.
    key_boxes question key value >>= λ more. Ok (boxes ++ more)

-- the packets of which a key is one of some elements
abbrev pub elements_boxes : Question → Json → List Json → Result (List Packets) RuleKind
elements_boxes question key elements = folded (with_key question key) [] elements

-- ---- comparisons

-- a comparison by its left side: what is in the header of the other family no packet has
abbrev pub side_compared : Known → Left → Operator → Json → Result ComparedBoxes RuleKind
side_compared known (left.Header which held) compares right =
    if is_told known.question (all_packets known.question.asked.family ∷ []) held
    then (or_cant (is_negated compares) >>= λ negated.
    known_elements known false right >>= λ elements.
    part_boxes known.question.asked.family (all_packets known.question.asked.family) which elements
    >>= λ boxes. Ok (record { negated = negated; boxes = boxes }))
    else Err kind.CantSay
side_compared known left.OtherFamily compares right = Ok (record { negated = false; boxes = [] })
side_compared known (left.Fact which) compares right =
    or_cant (is_turned which compares) >>= λ turned.
    is_met known.question which compares right >>= λ is_so.
    Ok (record {
      negated = false;
      boxes = truth_boxes known.question.asked.family (if turned then not is_so else is_so);
    })

-- a comparison by its operator for equality and the elements of the right side: that several things
-- together are others isn't said
abbrev pub together_compared : Known → Json → Json → Bool → Result ComparedBoxes RuleKind
together_compared known key right true = Err kind.CantSay
together_compared known key right false =
    known_elements known false right >>= λ elements.
    elements_boxes known.question key elements >>= λ boxes.
    Ok (record { negated = false; boxes = boxes })

-- a comparison by its sides, of one thing or of several together
abbrev pub sides_compared : Known → MatchSides → Result ComparedBoxes RuleKind
sides_compared known sides =
    if is_some (concat_of sides.left)
    then (or_cant (is_negated sides.operator) >>= together_compared known sides.left sides.right)
    else (or_cant (left_of known.question.asked.family sides.left) >>= λ side.
    side_compared known side sides.operator sides.right)

-- a comparison
abbrev pub compared : Known → Json → Result ComparedBoxes RuleKind
compared known said = or_cant (sides_of said) >>= sides_compared known
