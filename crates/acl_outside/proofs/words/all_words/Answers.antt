use Rattle.std.proofs.Common.{◌≡◌, List, Result, Ok, Err, IfOk, IfSome, refl}
use Rattle.std.proofs.lemmas.Iterator.{items_from_collect}
use Rattle.std.proofs.lemmas.Iterator.Adapters.{YieldsList-from_vec}
use Rattle.std.specs.Vec.{vec_items}
use Rattle.std.specs.Vec.Iter.{into_iter_items}
use Rattle.std.specs.Result.{result_ok}
use Rattle.std.specs.declared.vec.Vec.{Vec}
use Rattle.acl_outside.proofs.words.all_words.Goals as goal

-- what is known of a value is known where it is kept
kept : {A Z E : Type 0} (xs : List A) (result : Result (Vec A Z) E) → IfOk result (λ v. vec_items v ≡ xs) →
    IfSome (result_ok result) (λ v. v.items ≡ xs)
kept xs (Ok v) same = same
kept xs (Err e) same = tt

pub returns : goal.returns
returns c =
    rw (c.ok.ensures.value)
    (kept (into_iter_items c.args.args) c.collect.result
    (items_from_collect c.collect.result c.collect.ensures.ran
    (YieldsList-from_vec (into_iter_items c.args.args) refl (c.args.args.rest.ok.0))))
