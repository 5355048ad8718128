use Rattle.std.proofs.Common.{ℕ}
use Rattle.std.specs.Prelude.{replicate}
use Rattle.std.proofs.lemmas.List.{length-replicate}
use Rattle.std.proofs.lemmas.Simd.{dot4_Fits, sum_dots}
use Rattle.scalar_walk.proofs.OneLane.{dot_at}
use Rattle.scalar_walk.proofs.vectors.sums.Goals as goal

pub dot4 : goal.dot4
dot4 c = (dot4_Fits c.args.bytes (replicate 16 1) c.fits-bytes.1 tt, tt)

pub returns-clause-sums : goal.returns-clause-sums
returns-clause-sums c = dot_at 4 c.args.bytes c.fits-bytes.0

pub returns-clause-len : goal.returns-clause-len
returns-clause-len c =
    (sum_dots 4 c.args.bytes (replicate 16 1) c.fits-bytes.0 (length-replicate {A = ℕ} 16 1)).1
