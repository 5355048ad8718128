use Rattle.std.proofs.Common.{◌≡◌, ◌+◌, ◌*◌, ap, ◌∙◌, arith}
use Rattle.std.proofs.lemmas.List.FromFn.{map-range_with_len_more}
use Rattle.workload_gen.specs.declared.packet.TheConstants.{KEY_WORDS}
use Rattle.workload_gen.specs.Draws.{after_words}
use Rattle.workload_gen.specs.Workload.{key_at}
use Rattle.workload_gen.proofs.Words.{after_both}
use Rattle.workload_gen.proofs.laws.keys_come_one_by_one.Goals as goal

pub returns : goal.returns
returns c = record {
  key = λ rules generator count. map-range_with_len_more (key_at rules generator) 0 count count (omega arith);
  state = λ generator count.
      let same : KEY_WORDS * count + KEY_WORDS ≡ KEY_WORDS * (count + 1) = omega arith in
      after_both (KEY_WORDS * count) KEY_WORDS generator ∙ ap (λ n. after_words n generator) same;
}
