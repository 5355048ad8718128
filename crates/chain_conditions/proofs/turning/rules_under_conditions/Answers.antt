-- The chains over boxes with marks are as many, and their rules are those of the chains.
use Rattle.std.proofs.Common.{◌≡◌, length, map, subst, ◌∙◌}
use Rattle.std.proofs.lemmas.List.{length-map}
use Rattle.std.proofs.lemmas.Result.{IfOk-weaker}
use Rattle.list_chains.specs.declared.turning.TheConstants.{MAX_STEPS}
use Rattle.list_chains.specs.Tasks.{Chains}
use Rattle.list_chains.proofs.Offered.{every_bit}
use Rattle.chain_conditions.specs.Kinds.{masks_of}
use Rattle.chain_conditions.specs.Marked.{marked_rule}
use Rattle.chain_conditions.specs.Marked as spec
use Rattle.chain_conditions.specs.Turned.{IsTurned}
use Rattle.chain_conditions.proofs.MadeRules.{rules_of_categories}
use Rattle.chain_conditions.proofs.turning.rules_under_conditions.Goals as goal

pub returns-clause-rules : goal.returns-clause-rules
returns-clause-rules c =
    let layout = c.args.layout in
    let chains = c.args.chains.now in
    let kinds = c.args.kinds.now in
    let start = c.args.start in
    let policy = c.args.policy in
    let same : c.deref.result.now ≡ spec.marked_chains chains = c.deref.ensures.value ∙ c.in_ok-marked.ensures in
    let many : length (spec.marked_chains chains) ≡ length chains = length-map chains (map marked_rule) in
    IfOk-weaker c.rules_of_marked.result _ _ (λ set it.
    let its : IsTurned layout (masks_of kinds) (spec.marked_chains chains) start policy set =
    subst (λ (cs : Chains). IsTurned layout (masks_of kinds) cs start policy set) same it in
    record {
      layout = its.layout;
      rules = its.rules;
      verdicts = λ key category bytes small.
          rules_of_categories layout kinds chains (length chains) start policy MAX_STEPS set.rules key category bytes
          (every_bit category small) (rw many at its.steps);
    }) c.rules_of_marked.ensures.rules

pub returns-clause-fault : goal.returns-clause-fault
returns-clause-fault c =
    let same : c.deref.result.now ≡ spec.marked_chains c.args.chains.now =
    c.deref.ensures.value ∙ c.in_ok-marked.ensures in
    rw same at c.rules_of_marked.ensures.fault

pub returns-clause-refused : goal.returns-clause-refused
returns-clause-refused c =
    let same : c.deref.result.now ≡ spec.marked_chains c.args.chains.now =
    c.deref.ensures.value ∙ c.in_ok-marked.ensures in
    rw same at c.rules_of_marked.ensures.refused
