use Rattle.std.proofs.Common.{◌≡◌, ◌+◌, ◌-◌, ◌^◌, ◌≤◌, length, sym, ◌∙◌, arith}
use Rattle.std.proofs.Math.Pow.{pow_mono}
use Rattle.list_lemmas.proofs.Sums.{bits_small}
use Rattle.trie_merge.proofs.kept.kept_bits.Goals as goal
use Rattle.trie_merge.proofs.kept.kept_bits.Goals.{then-is_kept, else-is_kept}
use Rattle.table_sizes.specs.Groups.{group_of}
use Rattle.list_lemmas.proofs.Spans.{bits_of_yes, bits_of_no}
use Rattle.trie_merge.specs.Wild.{is_kept_by, bits_by}

pub overflow_add-bits : goal.overflow_add-bits
overflow_add-bits c =
    let below : c.loop-input.input ≤ 126 = omega (arith, c.group_of-input-end.ensures.value, c.requires.few) in
    let power : 2 ^ c.loop-input.input ≤ 2 ^ 126 = pow_mono below in
    omega (arith, power, bits_small (is_kept_by c.args.wild.now) c.loop-input.input, c.bit-bits.ensures)

pub loop-input-preserved : goal.loop-input-preserved
loop-input-preserved c =
    let test = is_kept_by c.args.wild.now in
    elim c.if-is_kept.branch [
      | then-is_kept w ↦
          let more = bits_of_yes test c.loop-input.input (sym c.is_kept.ensures ∙ w.if-is_kept.true) in
          rw w.bits-is (omega (arith, more, w.bit-bits.ensures))
      | else-is_kept w ↦
          let same = bits_of_no test c.loop-input.input (sym c.is_kept.ensures ∙ w.if-is_kept.false) in
          rw w.bits-is (omega (arith, same))
    ]

pub returns : goal.returns
unfolding bits_by
returns c =
    let end : c.loop-input.input ≡ 1 + group_of (length c.args.wild.now - 1) =
    omega (arith, c.group_of-input-end.ensures.value) in
    rw end at c.loop-input.invariant
