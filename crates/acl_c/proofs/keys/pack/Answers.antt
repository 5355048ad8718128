-- Each turn writes the bytes of one key more.
use Rattle.std.proofs.Common.{ℕ, ◌+◌, ◌-◌, ◌*◌, ◌<◌, List, ◌++◌, take, All, sym, ap, ◌∙◌, subst, arith}
use borrow.Rule.Slice.PartMut.{put_mid}
use Rattle.std.proofs.lemmas.List.{take_all}
use Rattle.list_lemmas.proofs.Positions.{WrittenTo, piece_written}
use Rattle.acl_c.specs.declared.keys.Key.{Key}
use Rattle.acl_c.specs.Keys.{packed}
use Rattle.acl_c.proofs.Apart.{packed_more, front_bytes}
use Rattle.acl_c.proofs.keys.pack.Goals as goal

pub loop-place-preserved : goal.loop-place-preserved
loop-place-preserved c =
    let l = c.loop-place in
    let keys = c.args.keys.now in
    let len : ℕ = c.args.key_len in
    let end : ℕ = (l.place + 1) * len in
    let piece : List ℕ = c.copy_from_slice.new.self in
    let out : List ℕ = put_mid (l.place * len) (end - l.place * len) l.into piece in
    let written = piece_written l.invariant.written piece end (omega (arith, c.copy_from_slice.auto.self)) in
    let more : WrittenTo c.args.into.now end (packed (take (l.place + 1) keys)) out =
    subst (λ (front : List ℕ). WrittenTo c.args.into.now end front out)
    (ap (λ (bytes : List ℕ). packed (take l.place keys) ++ bytes) c.copy_from_slice.ensures.after
    ∙ sym (packed_more keys l.place _ c.loop-place-test.true)) written in
    record { written = more; bytes = front_bytes more (λ k. omega (arith, c.type_inv.into k)) }

pub returns-clause-bytes : goal.returns-clause-bytes
returns-clause-bytes c =
    subst (λ (keys : List Key). All (λ (byte : ℕ). byte < 256) (packed keys))
    (take_all c.loop-place.place c.args.keys.now c.loop-place-test.false) c.loop-place.invariant.bytes
