-- The last turn's marks are those of all turns.
use Rattle.std.proofs.Common.{◌≡◌, suc, map, sym, ap, ◌∙◌, arith}
use Rattle.std.specs.List.{list_all}
use Rattle.list_chains.specs.Jumps.{leads_well, shallow}
use Rattle.list_chains.proofs.Marks.{last_turn}
use Rattle.list_chains.proofs.jumps.shallow.Goals as goal

pub returns-then-are_same : goal.returns-then-are_same
returns-then-are_same c =
    let chains = c.args.chains.now in
    let turns = c.loop.counter in
    let before : c.deref.result.now ≡ shallow turns chains = cc in
    let made : c.in_ok-more.more.items ≡ shallow (suc turns) chains =
    c.in_ok-more.ensures ∙ ap (λ marks. map (list_all (leads_well marks)) chains) before in
    let told = c.are_same.ensures c.if-are_same.true in
    let same : c.in_ok-more.more.items ≡ shallow turns chains = cc in
    made ∙ last_turn chains turns c.args.depth (omega (arith, c.loop-test.true)) (sym made ∙ same)
