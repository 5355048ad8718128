-- The set has the rules that are made.
use Rattle.std.proofs.Common.{◌≡◌, ◌∷◌, length, true, false, sym, ap, ◌∙◌}
use Rattle.list_chains.specs.declared.turning.TheConstants.{MAX_STEPS}
use Rattle.list_chains.specs.Spans.{whole_box}
use Rattle.list_chains.specs.Chains.{at_or}
use Rattle.list_chains.specs.declared.fault.ChainsFault.TheVariants.{Loop}
use Rattle.list_chains.specs.Jumps as jumps
use Rattle.list_chains.specs.Jumps.{ending}
use Rattle.list_chains.specs.Made.{first_tasks}
use Rattle.list_chains.specs.Turned.{max_depth, or_limit}
use Rattle.list_chains.proofs.Offered.{way_on_loop}
use Rattle.chain_conditions.specs.Kinds.{masks_of}
use Rattle.chain_conditions.specs.Marked.{mark_def}
use Rattle.chain_conditions.proofs.Turnings.{start_made}
use Rattle.chain_conditions.proofs.turning.rules_of_marked.Goals as goal

pub returns-in-Ok-clause-rules : goal.returns-in-Ok-clause-rules
returns-in-Ok-clause-rules c =
    let layout = c.args.layout in
    let chains = c.args.chains.now in
    let began = c.in_ok-turning.ensures in
    let said = rw c.in-Ok.is at c.in_ok-set.ensures in
    let first = first_tasks (length chains) c.args.start (whole_box (mark_def ∷ layout)) in
    let made_so = sym (start_made layout (masks_of c.args.kinds.now) chains c.args.policy MAX_STEPS
    c.in_ok-turning.turning first began.1 began.2 began.3 began.4) ∙ said.1 in
    let marked : at_or (ending chains) c.args.start false ≡ true =
    ap (λ marks. at_or marks c.args.start false) (sym (c.deref.ensures.value ∙ c.in_ok-marks.ensures))
    ∙ sym c.is_marked.ensures ∙ c.if-not-is_marked.false in
    let few : at_or (jumps.shallow max_depth chains) c.args.start false ≡ true =
    sym c.in_ok-near.ensures ∙ c.if-not-near.false in
    record {
      layout = said.0 ∙ began.1;
      rules = rw (marked, few) (ap or_limit made_so);
      steps = made_so;
    }

pub returns-then-not-is_marked-clause-on_loop : goal.returns-then-not-is_marked-clause-on_loop
returns-then-not-is_marked-clause-on_loop c at is =
    let chains = c.args.chains.now in
    let start = c.args.start in
    let unmarked : at_or (ending chains) start false ≡ false =
    ap (λ marks. at_or marks start false) (sym (c.deref.ensures.value ∙ c.in_ok-marks.ensures))
    ∙ sym c.is_marked.ensures ∙ c.if-not-is_marked.true in
    let fault : c.way.result ≡ Loop at = cc in
    way_on_loop chains start at c.requires unmarked
    (ap (λ marks. jumps.way (length chains) chains marks start)
    (sym (c.deref-then-not-is_marked.ensures.value ∙ c.in_ok-marks.ensures))
    ∙ sym c.way.ensures ∙ fault)
