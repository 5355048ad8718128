-- The parts that were read so far.
use Rattle.std.proofs.Common.{◌≡◌, ◌∷◌, [], map, drop}
use Rattle.json.specs.Value.{value_view}
use Rattle.list_packets.specs.Packets.{all_packets}
use Rattle.nft_reader.specs.Keys.{parts_boxes}
use Rattle.nft_reader.specs.Known.{question_of}
use Rattle.nft_reader.proofs.known.Known.parts_boxes.Given as goal

-- those that are left, among the boxes so far, make what all parts make
abbrev pub invariant-loop-place : goal.invariant-loop-place
invariant-loop-place l =
    parts_boxes (question_of l.self) (all_packets l.self.asked.family ∷ []) (map value_view l.keys)
    (map value_view l.values)
    ≡ parts_boxes (question_of l.self) l.caught.kept (map value_view (drop l.place l.keys))
    (map value_view (drop l.place l.values))
