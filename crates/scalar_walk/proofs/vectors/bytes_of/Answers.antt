use Rattle.std.proofs.Common.{w32, arith, refl}
use Rattle.std.proofs.lemmas.Simd.{get_or_narrower, below_from_Fits}
use Rattle.scalar_walk.proofs.vectors.bytes_of.Goals as goal

pub returns : goal.returns
returns c i k within part =
    get_or_narrower 4294967296 4 256 16 c.args.numbers i k refl
    (below_from_Fits w32 c.args.numbers c.fits-numbers.1) part (omega (arith, within, part))
