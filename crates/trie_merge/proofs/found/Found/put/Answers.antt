use Rattle.std.proofs.Common.{◌≡◌, ◌<◌, ◌≤◌, ◌+◌, refl, sym, subst, length, arith, false}
use Rattle.std.specs.Prelude.{nat_eq}
use Rattle.std.specs.List.{list_any}
use Rattle.trie_merge.specs.FoundNumbers.{place_after, ArePlaces}
use Rattle.trie_merge.proofs.FoundPlaces.{is_absent, more_room, one_more, place_of_last}
use Rattle.trie_merge.proofs.found.Found.put.Goals as goal
use Rattle.trie_merge.proofs.found.Found.put.Goals.{then-len-at+in_ok-resize, else-len-at}

-- the number isn't found yet
absent : (c : goal.After-self-1) → list_any (nat_eq c.args.number) c.self.inside.keys.items ≡ false
absent c =
    is_absent c.self.inside.keys.items c.args.number
    (subst (λ found. place_after found.keys c.args.number ≡ 0) (sym c.self.view_is) c.requires.new)

-- there is room for its place, and the others stay
room : (c : goal.After-self-1) → ArePlaces c.self.inside.keys.items c.if-len-at.self-inside.places.items
    × (c.args.number < length c.if-len-at.self-inside.places.items)
    × (c.if-len-at.self-inside.keys.items ≡ c.self.inside.keys.items)
room c =
    let keys = c.self.inside.keys.items in
    let places = c.self.inside.places.items in
    elim c.if-len-at.branch [
      | then-len-at+in_ok-resize w ↦
          let few : length places ≤ c.args.number + 1 = omega (arith, c.len.ensures, w.if-len-at.true) in
          rw (w.self-inside-is) (
            rw (w.in_ok-resize.ensures.items, c.self.inside.places.ok.0)
                (more_room keys places (c.args.number + 1) c.self.invariant few),
            omega (arith, w.in_ok-resize.ensures.len),
            refl,
          )
      | else-len-at w ↦
          rw w.self-inside-is (c.self.invariant, omega (arith, c.len.ensures, w.if-len-at.false), refl)
    ]

pub invariant_of-self-2 : goal.invariant_of-self-2
invariant_of-self-2 c =
    let there = room c in
    let places = c.if-len-at.self-inside.places.items in
    rw (c.in_ok-push.ensures.items, c.len-place.ensures, c.if-len-at.self-inside.keys.ok.0, there.2)
    (one_more c.self.inside.keys.items places c.args.number there.0 (absent c) there.1)

pub returns-clause-place : goal.returns-clause-place
returns-clause-place c =
    let there = room c in
    rw (c.in_ok-push.ensures.items, c.len-place.ensures, c.if-len-at.self-inside.keys.ok.0, there.2)
    (sym (place_of_last c.self.inside.keys.items c.args.number (absent c)))
