-- the walks of the fours that there are have read the bytes at the places so far
use Rattle.std.proofs.Common.{◌≡◌, ◌+◌, ◌-◌, ◌<◌, ◌≤◌, length}
use Rattle.flat_table.specs.Table.{places_of}
use Rattle.scalar_walk.specs.Lanes.{counted}
use Rattle.scalar_walk.proofs.InStep.{FourRead, FourWalks, way_of}
use Rattle.scalar_walk.proofs.in_step.walk_in_step.Given as goal

abbrev pub invariant-loop-words : goal.invariant-loop-words
invariant-loop-words g l =
    (0 < g.row.FOURS → FourWalks (way_of l.table l.trie l.places l.words) l.keys l.count 0 l.n l.first)
    × (1 < g.row.FOURS → FourWalks (way_of l.table l.trie l.places l.words) l.keys l.count 4 l.n l.second)
    × (2 < g.row.FOURS → FourWalks (way_of l.table l.trie l.places l.words) l.keys l.count 8 l.n l.third)
    × (3 < g.row.FOURS → FourWalks (way_of l.table l.trie l.places l.words) l.keys l.count 12 l.n l.fourth)
    × (l.n ≤ length l.places)
    × (l.steps ≡ l.fn.steps + counted l.first.taken l.own_first + counted l.second.taken l.own_second
    + counted l.third.taken l.own_third + counted l.fourth.taken l.own_fourth)

abbrev pub decreases-loop-words : goal.decreases-loop-words
decreases-loop-words g l = length (places_of l.table l.trie) - l.n

abbrev pub invariant-loop-place : goal.invariant-loop-place
invariant-loop-place g l =
    (0 < g.row.FOURS → FourRead (way_of l.table l.trie l.places l.words) l.keys l.count 0 l.n l.read l.of_first l.place
    l.first)
    × (1 < g.row.FOURS → FourRead (way_of l.table l.trie l.places l.words) l.keys l.count 4 l.n l.read l.of_second
    l.place l.second)
    × (2 < g.row.FOURS → FourRead (way_of l.table l.trie l.places l.words) l.keys l.count 8 l.n l.read l.of_third
    l.place l.third)
    × (3 < g.row.FOURS → FourRead (way_of l.table l.trie l.places l.words) l.keys l.count 12 l.n l.read l.of_fourth
    l.place l.fourth)
    × (l.steps ≡ l.fn.steps + counted l.first.taken l.own_first + counted l.second.taken l.own_second
    + counted l.third.taken l.own_third + counted l.fourth.taken l.own_fourth)
