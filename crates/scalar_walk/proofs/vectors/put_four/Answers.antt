use Rattle.std.proofs.Common.{w32, arith, inl, inr}
use Rattle.std.proofs.lemmas.Simd.{get_or-put_chunk_below, get_or-put_chunk_at, get_or-put_chunk_above}
use Rattle.scalar_walk.proofs.OneLane.{lane_fits}
use Rattle.scalar_walk.proofs.vectors.put_four.Goals as goal

pub returns-clause-four : goal.returns-clause-four
returns-clause-four g c k within = get_or-put_chunk_at c.args.first c.args.numbers.now c.args.four k 0
    (omega (arith, within, c.fits-four.0)) (omega (arith, c.requires, c.told-numbers, c.fits-four.0))

pub returns-clause-others : goal.returns-clause-others
returns-clause-others g c i either = elim either [
  | inl before ↦ get_or-put_chunk_below c.args.first c.args.numbers.now c.args.four i 0 before
  | inr past ↦ get_or-put_chunk_above c.args.first c.args.numbers.now c.args.four i 0
      (omega (arith, past, c.fits-four.0))
]

pub returns-clause-small : goal.returns-clause-small
returns-clause-small g c k within =
    omega (
      arith,
      get_or-put_chunk_at c.args.first c.args.numbers.now c.args.four k 0 (omega (arith, within, c.fits-four.0))
          (omega (arith, c.requires, c.told-numbers, c.fits-four.0)),
      lane_fits w32 c.args.four c.fits-four within,
    )
