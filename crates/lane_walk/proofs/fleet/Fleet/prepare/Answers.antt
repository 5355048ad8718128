use Rattle.std.proofs.Common.{ℕ, ap, sym, ◌∙◌}
use Rattle.lane_walk.specs.Fleet.{set_below}
use Rattle.lane_walk.proofs.FleetSettles.{settled_clear}
use Rattle.lane_walk.proofs.LaneBits.{below_none, ones_below}
use Rattle.lane_walk.proofs.fleet.Fleet.prepare.Goals as goal

pub returns-then-self-clause-count : goal.returns-then-self-clause-count
returns-then-self-clause-count g c = ones_below g.row.W c.args.empty c.requires.empty

pub returns-then-empty-eq0-clause-settled : goal.returns-then-empty-eq0-clause-settled
returns-then-empty-eq0-clause-settled g c = settled_clear c.if-empty-eq0.true c.requires.given c.requires.small

pub returns-then-empty-eq0-clause-count : goal.returns-then-empty-eq0-clause-count
returns-then-empty-eq0-clause-count g c =
    sym (ap (λ (mask : ℕ). set_below mask g.row.W) c.if-empty-eq0.true ∙ below_none g.row.W)
