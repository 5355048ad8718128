-- Laws of workloads, over the definitions alone.
use Rattle.std.specs.Prelude.{◌≡◌, ℕ, ◌+◌, ◌*◌, ◌^◌, ◌<◌, List, [], ◌∷◌, ◌++◌, slice_get}
use Rattle.std.specs.Prelude.{slice_index}
use Rattle.std.specs.Prelude.{Some, None, true}
use Rattle.rand_pcg.specs.Lcg.{Lcg}
use Rattle.field_defs.specs.declared.field.FieldValue.TheVariants.{Range}
use Rattle.field_defs.specs.Layout.{ip4_fields}
use Rattle.rule_set.specs.Fault.{rule_fault}
use Rattle.rule_set.specs.Rule.{RuleView}
use Rattle.rule_set.specs.Winner.{rule_match}
use Rattle.workload_gen.specs.declared.packet.TheConstants.{KEY_WORDS}
use Rattle.workload_gen.specs.Draws.{after_words, words_of}
use Rattle.workload_gen.specs.Packet.{aimed_packet, key_of_words, packet_key}
use Rattle.workload_gen.specs.Rule.{last_port}
use Rattle.workload_gen.specs.Workload.{keys_of}

-- One more key is that of the words at which the generator stands after the keys before it, and
-- after its words the generator stands where one more key puts it.
pub record KeysComeOneByOne : Type 0 where
  pub key : (rules : List RuleView) (generator : Lcg) (count : ℕ) →
      keys_of rules generator (count + 1)
      ≡ keys_of rules generator count
      ++ key_of_words rules (words_of KEY_WORDS (after_words (KEY_WORDS * count) generator)) ∷ []
  pub state : (generator : Lcg) (count : ℕ) →
      after_words KEY_WORDS (after_words (KEY_WORDS * count) generator)
      ≡ after_words (KEY_WORDS * (count + 1)) generator

-- A packet that is aimed at a lawful rule matches it, where the rule is for all source ports, as
-- each rule of a workload is.
abbrev pub AimedPacketsMatch : Type 0
AimedPacketsMatch =
    (rule : RuleView) (words : List ℕ) → rule_fault ip4_fields rule.tag rule.fields ≡ None →
    slice_get rule.fields 3 ≡ Some (Range 0 last_port) →
    slice_index words 3 < 2 ^ 32 →
    rule_match ip4_fields rule.fields (packet_key (aimed_packet rule words)) ≡ true
