-- Maps to verdicts (libnftables-json(5), "VERDICT MAP"): each element is a branch of the rule. No
-- packets are those of two elements, so that their order doesn't matter; elements that overlap
-- aren't said. The element `*` has the packets of no other element. Packets of no element, and
-- those of an element that says to go on, come to the next rule.
use Rattle.std.specs.Prelude.{◌&&◌, ◌==◌, Bool, true, false, if◌then◌else◌, nat_le, codes}
use Rattle.std.specs.Prelude.{List, [], ◌∷◌, ◌++◌, Option, Some, None, option_and_then}
use Rattle.std.specs.Prelude.{Result, Ok, Err}
use Rattle.std.specs.List.{list_any}
use Rattle.json.specs.Json.{Json}
use Rattle.json.specs.Find.{as_str, get}
use Rattle.field_defs.specs.declared.field.Family.{Family}
use Rattle.list_chains.specs.declared.span.Span.{Span}
use Rattle.list_packets.specs.declared.packets.Packets.{Packets}
use Rattle.list_packets.specs.declared.values.AddressSpans.{AddressSpans}
use Rattle.list_packets.specs.Packets.{all_packets, with_boxes}
use Rattle.nft_reader.specs.declared.compared.Left.{Left}
use Rattle.nft_reader.specs.declared.compared.Left.TheVariants as left
use Rattle.nft_reader.specs.declared.fault.RuleKind.{RuleKind}
use Rattle.nft_reader.specs.declared.fault.RuleKind.TheVariants as kind
use Rattle.nft_reader.specs.declared.known.Branch.{Branch}
use Rattle.nft_reader.specs.declared.known.Outcome.{Outcome}
use Rattle.nft_reader.specs.Assumed.{is_known}
use Rattle.nft_reader.specs.Compared.{left_of}
use Rattle.nft_reader.specs.Comparisons.{ComparedBoxes, caught_by}
use Rattle.nft_reader.specs.Known.{Known, Question, known_elements, outcome_of}
use Rattle.nft_reader.specs.Keys.{held_packets, is_told, key_boxes}
use Rattle.nft_reader.specs.Stops.{◌>>=◌, folded, or_cant, or_cause}
use Rattle.nft_reader.specs.Sets.{is_text}
use Rattle.nft_reader.specs.Shapes.{len_of, only, pair_of}
use Rattle.nft_reader.specs.Values.{bare_element}

-- ---- packets that several elements have

-- the spans have a number in common
abbrev pub touches : Span → Span → Bool
touches one other = nat_le one.low other.high && nat_le other.low one.high

-- so have both halves of addresses
abbrev pub touch : AddressSpans → AddressSpans → Bool
touch one other = touches one.high other.high && touches one.low other.low

-- the boxes have packets in common
abbrev pub overlaps : Packets → Packets → Bool
overlaps one other =
    touches one.protocol other.protocol && touch one.source other.source
    && touch one.destination other.destination
    && touches one.source_ports other.source_ports
    && touches one.destination_ports other.destination_ports

-- boxes have packets in common with others
abbrev pub any_overlaps : List Packets → List Packets → Bool
any_overlaps ones others = list_any (λ one. list_any (overlaps one) others) ones

-- ---- elements

-- the elements so far: what becomes of their packets, and which these are
pub record Looked : Type 0 where
  pub branches : List Branch
  pub boxes : List Packets

-- none
abbrev pub none_looked : Looked
none_looked = record { branches = []; boxes = [] }

-- a branch of the packets of some boxes, but for others, that comparisons are true of, unless they
-- go on
abbrev pub branch_list : Family → List ComparedBoxes → List Packets → List Packets →
    Option Outcome → List Branch
branch_list family compared boxes but None = []
branch_list family compared boxes but (Some does) = record {
  caught = with_boxes true but (with_boxes false boxes (caught_by family compared));
  does = does;
} ∷ []

-- an element more, which has some boxes but for others
abbrev pub one_more : Family → List ComparedBoxes → List Packets → List Packets →
    Option Outcome → Looked → Looked
one_more family compared boxes but does looked = record {
  branches = looked.branches ++ branch_list family compared boxes but does;
  boxes = looked.boxes ++ boxes;
}

-- the packets that have what is compared, if that is said
abbrev pub having : Question → Left → Option Packets
having question (left.Header which held) =
    if is_told question (all_packets question.asked.family ∷ []) held
    then Some (held_packets question.asked.family held) else None
having question left.OtherFamily = None
having question (left.Fact which) =
    if is_known question.begin which then Some (all_packets question.asked.family) else None

-- those that have one thing; of several it isn't said
abbrev pub rest_box : Question → Json → Option Packets
rest_box question key = option_and_then (having question) (left_of question.asked.family key)

-- the element that stands for all others
abbrev pub is_rest : Json → Bool
is_rest value = is_text (codes "*") (as_str value)

-- an element whose packets are no other's
abbrev pub with_apart : Family → List ComparedBoxes → Option Outcome → Looked → List Packets →
    Result Looked RuleKind
with_apart family compared does looked boxes =
    if any_overlaps boxes looked.boxes then Err kind.CantSay
    else Ok (one_more family compared boxes [] does looked)

-- an element: the packets of its value, or of no value so far
abbrev pub with_looked : Question → Json → List ComparedBoxes → Json → Looked → Option Outcome →
    Result Looked RuleKind
with_looked question key compared value looked does =
    if is_rest value
    then (or_cant (rest_box question key) >>= λ packets.
    Ok (one_more question.asked.family compared (packets ∷ []) looked.boxes does looked))
    else (key_boxes question key value
    >>= with_apart question.asked.family compared does looked)

-- an element of a map: a value, and a verdict, which is a statement
abbrev pub with_element : Known → Json → List ComparedBoxes → Looked → Json →
    Result Looked RuleKind
with_element known key compared looked element =
    or_cant (pair_of element) >>= λ pair.
    or_cant (bare_element pair.0) >>= λ value.
    or_cause kind.BadStatement (only pair.1) >>= λ found.
    outcome_of known found.0 found.1 >>= with_looked known.question key compared value looked

-- a map: its key, and its elements, which it names or has
abbrev pub looked_up : Known → Json → List ComparedBoxes → Result Looked RuleKind
looked_up known said compared =
    if len_of said == 2
    then (or_cant (get (codes "key") said) >>= λ key.
    or_cant (get (codes "data") said) >>= λ found.
    known_elements known true found >>= λ elements.
    folded (with_element known key compared) none_looked elements)
    else Err kind.BadStatement
