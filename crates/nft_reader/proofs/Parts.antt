-- Parts of what is taken together: what the next one makes, and what is made where none is left.
use Rattle.std.proofs.Common.{◌≡◌, ℕ, ◌+◌, ◌<◌, List, [], ◌∷◌, length, map, drop, get_or, Ok, refl, ap, ◌∙◌}
use Rattle.list_lemmas.proofs.Loops.{left_is}
use Rattle.json.specs.Json.{Json}
use Rattle.json.specs.Value.{value_view}
use Rattle.json.specs.declared.value.Value.{Value}
use Rattle.list_packets.specs.declared.packets.Packets.{Packets}
use Rattle.nft_reader.specs.Keys.{parts_boxes, with_thing}
use Rattle.nft_reader.specs.Known.{Question}
use Rattle.nft_reader.specs.Stops.{◌>>=◌}

module _ (question : Question) (boxes : List Packets) where
  -- a part, and then those after it
  part_first : (key value : Json) (keys values : List Json) →
      parts_boxes question boxes (key ∷ keys) (value ∷ values)
      ≡ (with_thing question boxes key value >>= λ more. parts_boxes question more keys values)
  unfolding parts_boxes
  part_first key value keys values = refl

  -- none is left
  pub part_end : (values : List Json) → parts_boxes question boxes [] values ≡ Ok boxes
  unfolding parts_boxes
  part_end values = refl

  -- the part of the turn, and then those after it
  pub part_step : {A : Type 0} (keys values : List (Value A)) (k : ℕ) {key value : Value A} →
      k < length keys → k < length values → key ≡ get_or keys k key → value ≡ get_or values k value →
      parts_boxes question boxes (map value_view (drop k keys)) (map value_view (drop k values))
      ≡ (with_thing question boxes (value_view key) (value_view value) >>= λ more.
      parts_boxes question more (map value_view (drop (k + 1) keys)) (map value_view (drop (k + 1) values)))
  part_step keys values k {key} {value} of_keys of_values key_is value_is =
      ap (λ xs. parts_boxes question boxes (map value_view xs) (map value_view (drop k values)))
      (left_is keys k key of_keys key_is)
      ∙ ap (λ ys. parts_boxes question boxes (value_view key ∷ map value_view (drop (k + 1) keys)) (map value_view ys))
      (left_is values k value of_values value_is)
      ∙ part_first (value_view key) (value_view value) (map value_view (drop (k + 1) keys))
      (map value_view (drop (k + 1) values))
