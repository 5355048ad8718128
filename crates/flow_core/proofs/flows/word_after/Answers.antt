use Rattle.std.proofs.Common.{ℕ, List, ap, sym, ◌∙◌, length, arith, subst}
use Rattle.std.specs.Prelude.{slice_index}
use Rattle.flat_table.specs.Word.{next_place}
use Rattle.flow_core.specs.Standing.{LeadsOnward}
use Rattle.flow_core.proofs.OnWay.{word_onward, leads_onward}
use Rattle.flow_core.proofs.flows.word_after.Goals as goal

pub bounds-words-next_place : goal.bounds-words-next_place
bounds-words-next_place c =
    let l = word_onward c.requires.on_way.1 c.stay_in.ensures.stay c.stay_in.ensures.sound
    c.byte_of.result c.byte_of.type_inv in
    omega (arith, l.there, c.next_place.ensures, ap (λ (xs : List ℕ). length xs) c.words.ensures)

pub returns-clause-value : goal.returns-clause-value
returns-clause-value c =
    (λ i. slice_index (c.words.ensures i) (c.next_place.ensures i))
    ∙ ap (λ (byte : ℕ). slice_index c.args.table.now.words (next_place c.args.flight.word byte)) c.byte_of.ensures

pub returns-clause-onward : goal.returns-clause-onward
returns-clause-onward c =
    let l = word_onward c.requires.on_way.1 c.stay_in.ensures.stay c.stay_in.ensures.sound
    c.byte_of.result c.byte_of.type_inv in
    subst (LeadsOnward c.args.table.now c.args.flight)
    (λ i. slice_index (sym c.words.ensures i) (sym c.next_place.ensures i))
    (leads_onward c.requires.on_way.1 c.stay_in.ensures.stay c.stay_in.ensures.sound
    (next_place c.args.flight.word c.byte_of.result) l)
