-- The rules of the chains that were read, or why there are none.
use Rattle.std.proofs.Common.{◌≡◌, ◌⊎◌, ℕ, List, Ok, Err, refl, sym, ap, subst, ◌∙◌, inl, inr}
use Rattle.field_defs.specs.declared.field.FieldDef.{FieldDef}
use Rattle.rule_set.specs.Rule.{RuleView}
use Rattle.list_chains.specs.declared.fault.ChainsFault.{ChainsFault}
use Rattle.list_chains.specs.declared.fault.ChainsFault.TheVariants as cause
use Rattle.list_chains.specs.Tasks.{Chains}
use Rattle.list_chains.specs.Turned.{turned}
use Rattle.iptables_reader.specs.declared.answers.Answers.{Answers}
use Rattle.list_tool.specs.Listing.{◌>>=◌, WayView, layout_of, or_unturned, refusal_of, rules_for, turned_way, unturned}
use Rattle.list_tool.specs.Listing.{way_of}
use Rattle.list_tool.specs.Printed.{Refuses}
use Rattle.list_tool.specs.Words.{Request}

module _ (request : Request) (bytes : List ℕ) (its : Answers) (way : WayView) (layout : List FieldDef) (chains : Chains)
    (read : way_of request its bytes ≡ Ok way) (same : layout ≡ layout_of request.form)
    (are : chains ≡ way.chains) where
  -- what is asked for is what the chains come to
  turned_so : rules_for request bytes its
      ≡ or_unturned request.form way (turned layout chains way.start.place way.start.policy)
  turned_so =
      ap (λ way. way >>= turned_way request.form) read
      ∙ ap (or_unturned request.form way)
      (λ i. turned (sym same i) (sym are i) way.start.place way.start.policy)

  -- their rules
  pub turned_rules : (rules : List RuleView) → turned layout chains way.start.place way.start.policy ≡ Ok rules →
      rules_for request bytes its ≡ Ok rules
  turned_rules rules said = turned_so ∙ ap (or_unturned request.form way) said

  -- or their fault
  refused_by : (fault : ChainsFault) → turned layout chains way.start.place way.start.policy ≡ Err fault →
      Refuses (rules_for request bytes its) (refusal_of request.form way fault)
  refused_by (cause.NoChain at) said = turned_so ∙ ap (or_unturned request.form way) said
  refused_by (cause.Loop at) said = turned_so ∙ ap (or_unturned request.form way) said
  refused_by (cause.Limit limit) said = turned_so ∙ ap (or_unturned request.form way) said
  refused_by cause.OutOfMemory said = tt

  pub turned_refused : (fault : ChainsFault) →
      (fault ≡ cause.OutOfMemory) ⊎ (turned layout chains way.start.place way.start.policy ≡ Err fault) →
      Refuses (rules_for request bytes its) (refusal_of request.form way fault)
  turned_refused fault (inl full) = rw full tt
  turned_refused fault (inr said) = refused_by fault said
