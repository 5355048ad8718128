-- What a part makes, why one isn't read, and what is made where none is left.
use Rattle.std.proofs.Common.{◌+◌, map, drop, sym, ap, ◌∙◌, subst, arith, rules}
use Rattle.std.proofs.lemmas.List.{drop_all}
use Rattle.json.specs.Value.{value_view}
use Rattle.nft_reader.specs.Keys.{parts_boxes}
use Rattle.nft_reader.specs.Known.{question_of}
use Rattle.nft_reader.specs.Stops.{◌>>=◌, Refuses}
use Rattle.nft_reader.proofs.Folding.{then_stops}
use Rattle.nft_reader.proofs.Parts.{part_end, part_step}
use Rattle.nft_reader.proofs.known.Known.parts_boxes.Goals as goal

pub returns-in_err-take_thing : goal.returns-in_err-take_thing
returns-in_err-take_thing c =
    let question = question_of c.args.self.now in
    let l = c.loop-place in
    let keys = c.args.keys.now in
    let values = c.args.values.now in
    let stop = c.in_err-take_thing.field-0.0 in
    let all = l.invariant
    ∙ part_step question l.caught.kept keys values l.place (omega arith) (omega (arith, c.requires))
    c.index-keys-place.is c.index-values-place.is in
    let refused = subst (λ it. Refuses it stop) (sym all)
    (then_stops _ (λ more. parts_boxes question more (map value_view (drop (l.place + 1) keys))
    (map value_view (drop (l.place + 1) values))) stop c.in_err-take_thing.ensures) in
    search (rules, refused)

pub loop-place-preserved : goal.loop-place-preserved
loop-place-preserved c =
    let question = question_of c.args.self.now in
    let l = c.loop-place in
    let keys = c.args.keys.now in
    let values = c.args.values.now in
    l.invariant
    ∙ part_step question l.caught.kept keys values l.place (omega arith) (omega (arith, c.requires))
    c.index-keys-place.is c.index-values-place.is
    ∙ ap (λ it. it >>= λ more. parts_boxes question more (map value_view (drop (l.place + 1) keys))
    (map value_view (drop (l.place + 1) values))) c.in_ok-take_thing.ensures

pub returns : goal.returns
returns c =
    let question = question_of c.args.self.now in
    let l = c.loop-place in
    l.invariant
    ∙ ap (λ xs. parts_boxes question l.caught.kept (map value_view xs)
    (map value_view (drop l.place c.args.values.now)))
    (drop_all l.place c.args.keys.now (omega arith))
    ∙ part_end question l.caught.kept (map value_view (drop l.place c.args.values.now))
