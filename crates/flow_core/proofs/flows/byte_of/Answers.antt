use Rattle.std.proofs.Common.{arith}
use Rattle.flow_core.proofs.OnWay.{trie_of_flight, byte_there, byte_is, product_fits, place_in_key}
use Rattle.flow_core.proofs.flows.byte_of.Goals as goal

pub places-requires : goal.places-requires
places-requires c = trie_of_flight c.requires.on_way.1

pub overflow_mul-result : goal.overflow_mul-result
overflow_mul-result c = omega (
  arith,
  product_fits c.requires.on_way.1 c.key_len.ensures.value c.key_len.ensures.bound c.requires.few,
)

pub overflow_add-result : goal.overflow_add-result
overflow_add-result c = omega (
  arith,
  product_fits c.requires.on_way.1 c.key_len.ensures.value c.key_len.ensures.bound c.requires.few,
  place_in_key c.requires.on_way.1 c.stay_in.ensures.sound c.places.ensures.places c.from-place.ensures,
  c.key_len.ensures.bound,
  c.key_len.ensures.value,
)

pub bounds-keys-flight : goal.bounds-keys-flight
bounds-keys-flight c =
    byte_there c.requires.on_way.1 c.stay_in.ensures.sound c.places.ensures.places c.from-place.ensures
    c.key_len.ensures.value c.requires.whole

pub returns : goal.returns
returns c =
    byte_is c.requires.on_way.1 c.stay_in.ensures.sound c.places.ensures.places c.from-place.ensures
    c.key_len.ensures.value
