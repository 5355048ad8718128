-- The sets of one object more, and of all.
use Rattle.std.proofs.Common.{◌+◌, ◌++◌, map, drop, sym, ap, ◌∙◌, arith}
use Rattle.std.proofs.lemmas.List.{append-nil, append_assoc, drop_all}
use Rattle.std.proofs.lemmas.List.Concat.{flat_map-cons}
use Rattle.list_lemmas.proofs.Loops.{left_is}
use Rattle.std.specs.Option.{option_to_list}
use Rattle.json.specs.Value.{value_view}
use Rattle.nft_reader.specs.Sets.{set_object, set_of, sets_in}
use Rattle.nft_reader.proofs.sets.sets_in.Goals as goal

pub loop-object-preserved : goal.loop-object-preserved
loop-object-preserved c =
    let l = c.loop-object in
    let xs = c.args.objects.now in
    let x = c.object-item.result in
    let all = c.args.changes.now in
    let rest = map value_view (drop (l.object-index + 1) xs) in
    let here = left_is xs l.object-index x (omega arith) c.object-item.is in
    let one = option_to_list (set_object all (value_view x)) in
    ap (λ sets. sets ++ sets_in all rest) c.in_ok-put_set.ensures
    ∙ append_assoc (map set_of l.found.items) one (sets_in all rest)
    ∙ ap (λ sets. map set_of l.found.items ++ sets)
    (sym (ap (λ values. sets_in all (map value_view values)) here
    ∙ flat_map-cons (λ value. option_to_list (set_object all value)) (value_view x) rest))
    ∙ l.invariant

pub returns : goal.returns
returns c =
    let l = c.loop-object in
    let xs = c.args.objects.now in
    let all = c.args.changes.now in
    sym (append-nil (map set_of l.found.items))
    ∙ ap (λ values. map set_of l.found.items ++ sets_in all (map value_view values))
    (sym (drop_all l.object-index xs (omega arith)))
    ∙ l.invariant
