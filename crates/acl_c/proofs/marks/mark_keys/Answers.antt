-- Each turn writes the marks of one key more.
use Rattle.std.proofs.Common.{◌≡◌, ℕ, ◌+◌, ◌-◌, ◌*◌, ◌/◌, ◌≤◌, List, ◌++◌, length, ap, sym, ◌∙◌, subst, arith}
use borrow.Rule.Slice.PartMut.{put_mid}
use Rattle.list_lemmas.proofs.Positions.{WrittenTo, piece_written}
use Rattle.flat_table.specs.Batch.{key_at, keys_in}
use Rattle.acl_c.specs.Marks.{key_marks, first_marks}
use Rattle.acl_c.proofs.Marking.{first_marks-more, length-key_marks, key_cut, length_cut}
use Rattle.acl_c.proofs.marks.mark_keys.Goals as goal

pub loop-k-preserved : goal.loop-k-preserved
loop-k-preserved c =
    let l = c.loop-k in
    let table = c.args.table.now in
    let keys = c.args.keys.now in
    let count : ℕ = c.args.count in
    let n : ℕ = keys_in table keys in
    let piece : List ℕ = c.mark_key.new.marks in
    let len = c.key_len-key_len.ensures.value in
    let within : l.k + 1 ≤ n =
    omega (arith, c.loop-k-test.true, ap (λ (size : ℕ). length keys / size) len) in
    let few = length_cut l.marks l.k n count (l.auto.marks ∙ c.requires.fits.room_fits) within in
    let is : piece ≡ key_marks table count (key_at table keys l.k) =
    c.mark_key.ensures ∙ (λ i. key_marks table (few i) (key_cut table keys c.key_len-key_len.result l.k len i)) in
    let long : length piece ≡ count =
    ap (λ (marks : List ℕ). length marks) is ∙ length-key_marks table count keys (key_at table keys l.k) in
    let written = piece_written l.invariant piece ((l.k + 1) * count) (omega (arith, long)) in
    let out : List ℕ = put_mid (l.k * count) ((l.k + 1) * count - l.k * count) l.marks piece in
    subst (λ (front : List ℕ). WrittenTo c.args.marks.now ((l.k + 1) * count) front out)
    (ap (λ (marks : List ℕ). first_marks table count keys l.k ++ marks) is
    ∙ sym (first_marks-more table count keys l.k)) written
