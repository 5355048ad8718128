-- So many rules have been drawn.
use Rattle.std.proofs.Common.{◌≡◌, ◌*◌}
use Rattle.field_defs.specs.Layout.{ip4_fields}
use Rattle.workload_gen.specs.declared.rule.TheConstants.{RULE_WORDS}
use Rattle.workload_gen.specs.Draws.{after_words, seeded}
use Rattle.workload_gen.specs.Workload.{rules_of}
use Rattle.workload_gen.proofs.workload.make_rules.Given as goal

abbrev pub invariant-loop-place : goal.invariant-loop-place
invariant-loop-place l = record {
  rules : l.rules ≡ record { layout = ip4_fields; rules = rules_of l.fn.seed l.place };
  state : l.generator ≡ after_words (RULE_WORDS * l.place) (seeded l.fn.seed);
}
