use Rattle.std.proofs.Common.{◌∙◌, sym}
use Rattle.std.proofs.Math.Logic.{⊎_map}
use Rattle.std.proofs.lemmas.Result.{on_ok_weaker}
use Rattle.trie_merge.proofs.follow.lead_entry.Goals as goal
use Rattle.trie_merge.proofs.Leads.{more_bytes}

pub loop-first-preserved : goal.loop-first-preserved
loop-first-preserved c =
    let column = c.args.column.now in
    let step = c.step.ensures column c.args.entry c.ask-asked.ensures in
    rw c.from-first.ensures
    (more_bytes c.loop-first.invariant c.loop-first-test.true c.last_alike-last.type_inv
    (c.last_alike-last.ensures.alike column c.args.entry c.ask-asked.ensures)
    c.in_ok-to.ensures.grows
    (λ other has. ⊎_map (λ before. before) (λ is. sym step ∙ is) (c.in_ok-to.ensures.entries other has))
    (rw step at c.in_ok-to.ensures.number) c.in_ok-to.ensures.within c.in_ok-push_piece.ensures)

pub returns-then-keeps : goal.returns-then-keeps
returns-then-keeps c =
    on_ok_weaker c.lead_kept.result
    (λ led. led c.args.column.now (c.keeps.ensures.step c.if-keeps.true)) c.lead_kept.ensures
