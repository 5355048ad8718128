use Rattle.std.proofs.lemmas.Bool.{ltb-true, leb-true, and_parts}
use Rattle.node_expand.specs.declared.edge.Edge.TheVariants.{Free}
use Rattle.field_defs.proofs.Offered.{size_at_least_1}
use Rattle.node_expand.proofs.EdgeRests.{Starts, starts, range_start, mask_start, bitmask_start}
use Rattle.node_expand.proofs.expand.start_edge.Goals as goal

pub returns-in-Mask : goal.returns-in-Mask
returns-in-Mask c =
    let all : Starts c.args.value.now c.args.size c.whole_edge.result =
    rw (c.in-Mask.is, c.whole_edge.ensures, c.mask_ends-low.ensures.low, c.mask_ends-low.ensures.high)
    (starts _ c.args.size _
    (mask_start c.in-Mask.value c.in-Mask.bits c.args.size (size_at_least_1 c.args.size c.requires.value.lawful_size)
    (leb-true _ _ (rw c.in-Mask.is at c.requires.value.mask_within))
    (ltb-true _ _ (rw c.in-Mask.is at c.requires.value.within_size)))) in
    assumption all

pub returns-in-Range : goal.returns-in-Range
returns-in-Range c =
    let all : Starts c.args.value.now c.args.size c.whole_edge-in-Range.result =
    rw (c.in-Range.is, c.whole_edge-in-Range.ensures) (starts _ c.args.size _
    (range_start c.in-Range.low c.in-Range.high c.args.size (size_at_least_1 c.args.size c.requires.value.lawful_size)
    (leb-true _ _ (rw c.in-Range.is at c.requires.filled))
    (ltb-true _ _ (and_parts _ _ (rw c.in-Range.is at c.requires.value.within_size)).1))) in
    assumption all

pub returns-in-Bitmask : goal.returns-in-Bitmask
returns-in-Bitmask c =
    let all : Starts c.args.value.now c.args.size Free = rw c.in-Bitmask.is (starts _ c.args.size Free
    (bitmask_start c.in-Bitmask.value c.in-Bitmask.mask c.args.size
    (ltb-true _ _ (and_parts _ _ (rw c.in-Bitmask.is at c.requires.value.within_size)).0))) in
    assumption all
