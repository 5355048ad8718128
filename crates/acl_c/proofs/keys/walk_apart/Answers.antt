-- Each turn writes the verdicts of some keys more.
use Rattle.std.proofs.Common.{◌≡◌, ℕ, ◌+◌, ◌-◌, ◌*◌, ◌≤◌, List, ◌++◌, take, drop, length, sym, ap, ◌∙◌, subst, arith}
use Rattle.std.proofs.lemmas.List.{take_all}
use borrow.Rule.Slice.PartMut.{put_mid}
use Rattle.list_lemmas.proofs.Positions.{WrittenTo, piece_written}
use Rattle.acl_c.specs.declared.keys.Key.{Key}
use Rattle.acl_c.specs.Keys.{each_verdicts}
use Rattle.acl_c.proofs.Apart.{part_of_len, parts_more, sum_more, length_part, room_of_part, end_of_part, bytes_more}
use Rattle.acl_c.proofs.Apart.{written_all}
use Rattle.acl_c.proofs.keys.walk_apart.Goals as goal

pub walk_some-taken-requires-clause-lens : goal.walk_some-taken-requires-clause-lens
walk_some-taken-requires-clause-lens c =
    part_of_len c.args.table.now.key_len c.loop-done.done (c.end_of-end.result - c.loop-done.done) c.args.keys.now
    c.requires.lens

pub walk_some-taken-requires-clause-room : goal.walk_some-taken-requires-clause-room
walk_some-taken-requires-clause-room c =
    let keys = c.args.keys.now in
    let count : c.count-count.result ≡ c.args.asked.cats.count = c.count-count.ensures.value in
    let room : length c.loop-done.verdicts ≡ length keys * c.count-count.result =
    c.loop-done.auto.verdicts ∙ c.requires.room ∙ ap (λ (n : ℕ). length keys * n) (sym count) in
    room_of_part c.loop-done.verdicts keys c.loop-done.done c.end_of-end.result c.count-count.result
    (omega (arith, c.end_of-end.ensures.more)) c.end_of-end.ensures.within room
    ∙ ap (λ (n : ℕ). length (take (c.end_of-end.result - c.loop-done.done) (drop c.loop-done.done keys)) * n) count

pub loop-done-preserved : goal.loop-done-preserved
loop-done-preserved c =
    let l = c.loop-done in
    let keys = c.args.keys.now in
    let count : ℕ = c.count-count.result in
    let end : ℕ = c.end_of-end.result in
    let some : List Key = take (end - l.done) (drop l.done keys) in
    let later : l.done ≤ end = omega (arith, c.end_of-end.ensures.more) in
    let w = c.walk_some-taken.ensures in
    let piece : List ℕ = c.walk_some-taken.new.verdicts in
    let few = length_part keys l.done end c.end_of-end.ensures.within in
    let room : length l.verdicts ≡ length keys * count =
    l.auto.verdicts ∙ c.requires.room ∙ ap (λ (n : ℕ). length keys * n) (sym c.count-count.ensures.value) in
    let written = piece_written l.invariant.written piece (end * count)
    (end_of_part l.verdicts piece keys l.done end count later c.end_of-end.ensures.within room
    c.walk_some-taken.auto.verdicts) in
    record {
      written = subst (λ (front : List ℕ). WrittenTo c.args.verdicts.now (end * count) front
          (put_mid (l.done * count) (end * count - l.done * count) l.verdicts piece))
          (ap (λ (more : List ℕ). each_verdicts c.args.table.now c.args.asked.cats.count (take l.done keys) ++ more)
          w.verdicts
          ∙ sym (parts_more _ keys l.done end later)) written;
      taken = (λ i. l.invariant.taken i + w.taken i) ∙ sym (sum_more _ keys l.done end later);
      bound = omega (arith, l.invariant.bound, w.bound, few);
      within = c.end_of-end.ensures.within;
      bytes = bytes_more keys l.done end later l.invariant.bytes w.bytes;
      lanes = w.len ∙ l.invariant.lanes;
    }

pub returns-clause-verdicts : goal.returns-clause-verdicts
returns-clause-verdicts c =
    let l = c.loop-done in
    let keys = c.args.keys.now in
    let count : ℕ = c.args.asked.cats.count in
    let all : length keys ≡ l.done = omega (arith, l.invariant.within, c.loop-done-test.false) in
    let room : length c.args.verdicts.now ≡ l.done * c.count-count.result =
    c.requires.room ∙ (λ i. all i * sym c.count-count.ensures.value i) in
    written_all l.invariant.written (omega (arith, room))
    ∙ ap (λ (ks : List Key). each_verdicts c.args.table.now count ks) (take_all l.done keys (omega (arith, all)))
