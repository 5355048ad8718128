use Rattle.std.proofs.Common.{arith}
use Rattle.table_image.proofs.Written.{words_typed, some_written, none_left}
use Rattle.table_image.proofs.saving.put_words.Goals as goal

pub loop-portion-preserved : goal.loop-portion-preserved
loop-portion-preserved c =
    let l = c.loop-portion in
    record {
      text = some_written 8 c.min.result l.left.now c.split_at.result.0.now c.split_at.result.1.now l.out.items
          c.put_portion.new.out.items _ c.split_at.ensures.front c.split_at.ensures.back
          c.in_ok-put_portion.ensures.text
          l.invariant.text;
      turns = omega (arith, c.split_at.ensures.back_len, c.min.ensures, l.invariant.turns);
    }

pub returns-clause-text : goal.returns-clause-text
returns-clause-text c =
    none_left 8 c.loop-portion.left.now c.loop-portion.out.items _ (omega (arith, c.loop-portion.invariant.turns))
    c.loop-portion.invariant.text

pub returns-clause-typed : goal.returns-clause-typed
returns-clause-typed c = words_typed c.args.words.now (λ k. omega (arith, c.type_inv.words k))
