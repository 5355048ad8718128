-- The first base chain of the name so far.
use Rattle.std.proofs.Common.{None}
use Rattle.json.specs.Value.{value_view}
use Rattle.nft_reader.specs.Ruleset.{with_begin}
use Rattle.nft_reader.proofs.Folds.{Made}
use Rattle.nft_reader.proofs.ruleset.begin_of.Given as goal

-- the objects that are left make of it what all make
abbrev pub invariant-loop-object : goal.invariant-loop-object
invariant-loop-object l =
    Made (with_begin l.family l.name) value_view l.objects l.object-index None l.begin
