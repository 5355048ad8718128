use Rattle.std.proofs.Common.{◌+◌, ◌-◌, ◌∙◌, arith, refl}
use Rattle.std.proofs.lemmas.Result.{err_from_is_err_and}
use Rattle.table_image.specs.ImageReading.{one_trie, tries_after}
use Rattle.table_image.specs.Loading.{tries_of}
use Rattle.table_image.proofs.Readings.{both}
use Rattle.table_image.proofs.Loops.{fault_of_both, fault_of_same, trie_more, tries_end}
use Rattle.table_image.proofs.tries.Tries.read.Goals as goal

pub returns-in_err-read_one-clause-fault : goal.returns-in_err-read_one-clause-fault
returns-in_err-read_one-clause-fault c =
    let more = c.loop-trie.invariant.rest
    ∙ trie_more c.args.version c.args.key_len c.args.taken c.args.bytes.now (c.args.count - c.loop-trie.trie)
    (c.args.count - (c.loop-trie.trie + 1)) (tries_of c.loop-trie.tries) (omega arith) in
    let one = fault_of_both (one_trie c.args.version c.args.key_len c.args.taken c.args.bytes.now
    (tries_of c.loop-trie.tries))
    (tries_after c.args.version c.args.key_len c.args.taken c.args.bytes.now (c.args.count - (c.loop-trie.trie + 1)))
    c.in_err-read_one.field-0.0 c.in_err-read_one.ensures.fault in
    let failed = err_from_is_err_and c.from_residual.result c.from_residual.ensures.1 in
    rw (failed.1, failed.2) (fault_of_same _ _ _ more one)

pub loop-trie-preserved : goal.loop-trie-preserved
loop-trie-preserved c = record {
  rest = c.loop-trie.invariant.rest
      ∙ trie_more c.args.version c.args.key_len c.args.taken c.args.bytes.now (c.args.count - c.loop-trie.trie)
      (c.args.count - (c.loop-trie.trie + 1)) (tries_of c.loop-trie.tries) (omega arith)
      ∙ both (one_trie c.args.version c.args.key_len c.args.taken c.args.bytes.now (tries_of c.loop-trie.tries))
      (tries_after c.args.version c.args.key_len c.args.taken c.args.bytes.now (c.args.count - (c.loop-trie.trie + 1)))
      (tries_of c.read_one.new.self) _ c.in_ok-read_one.ensures.trie refl;
  inside = c.in_ok-read_one.ensures.inside;
  words = c.in_ok-read_one.ensures.words;
  room = c.in_ok-read_one.ensures.room;
}

pub returns-clause-tries : goal.returns-clause-tries
returns-clause-tries c =
    c.loop-trie.invariant.rest
    ∙ tries_end c.args.version c.args.key_len c.args.taken c.args.bytes.now (c.args.count - c.loop-trie.trie)
    (tries_of c.loop-trie.tries) (omega arith)
