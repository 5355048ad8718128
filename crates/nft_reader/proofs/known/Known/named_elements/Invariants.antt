-- No set so far is the one.
use Rattle.std.proofs.Common.{◌≡◌, map, drop}
use Rattle.std.specs.List.{find}
use Rattle.nft_reader.specs.Sets.{is_wanted, set_of}
use Rattle.nft_reader.proofs.known.Known.named_elements.Given as goal

-- it is the first of those that are left
abbrev pub invariant-loop-set : goal.invariant-loop-set
invariant-loop-set l =
    find (is_wanted l.verdicts (record l.self.owner.now { name = l.name })) (map set_of l.self.sets.now)
    ≡ find (is_wanted l.verdicts (record l.self.owner.now { name = l.name }))
    (map set_of (drop l.set-index l.self.sets.now))
