use Rattle.std.proofs.Common.{◌≡◌, ◌&&◌, ◌+◌, length, take, drop, sym, ap, ◌∙◌, arith}
use Rattle.std.proofs.lemmas.Bool.{and_left}
use Rattle.std.proofs.lemmas.List.{length_push}
use Rattle.std.proofs.lemmas.List.Sums.{sum_by-drop_more}
use Rattle.std.proofs.lemmas.Slice.Zip.{zip_turn, zip_end}
use Rattle.byte_numbers.specs.Number.{number_of}
use Rattle.field_defs.specs.declared.field.FieldDef.{FieldDef}
use Rattle.field_defs.specs.FieldMatch.{field_match}
use Rattle.field_defs.specs.FieldBounds.{CanMatch}
use Rattle.field_defs.proofs.Offered.{size_at_most_8}
use Rattle.rule_set.specs.Winner.{rule_match}
use Rattle.rule_set.proofs.Fields.{can_match_pair, rule_match-drop, rule_match-drop_all}
use Rattle.list_lemmas.proofs.Elements.{length-AllZip}
use Rattle.rule_set.proofs.plain.matches_key.Goals as goal

pub network_number-requires : goal.network_number-requires
network_number-requires c =
    let turn = zip_turn c.args.defs.now c.args.values.now c.loop-def.yielded c.into_iter-def-iterator.result _
    c.next.new.self _ (cc) (cc) c.loop-def.yielded_by _ c.in-Some.is c.next.ensures.steps in
    let can : CanMatch c.in-Some.value.now c.in-Some.def.now.size =
    can_match_pair _ _ _ _ _ c.requires.values turn.0 (turn.2 _) (turn.3 _) in
    omega (arith, size_at_most_8 c.in-Some.def.now.size can.lawful_size)

pub field_matches-requires-clause-value : goal.field_matches-requires-clause-value
field_matches-requires-clause-value c =
    let turn = zip_turn c.args.defs.now c.args.values.now c.loop-def.yielded c.into_iter-def-iterator.result _
    c.next.new.self _ (cc) (cc) c.loop-def.yielded_by _ c.in-Some.is c.next.ensures.steps in
    can_match_pair _ _ _ _ _ c.requires.values turn.0 (turn.2 _) (turn.3 _)

pub returns-then-not-field_matches : goal.returns-then-not-field_matches
returns-then-not-field_matches c =
    let n = length c.loop-def.yielded in
    let rest = c.loop-def.rest.now in
    let def = c.in-Some.def.now in
    let value = c.in-Some.value.now in
    let turn = zip_turn c.args.defs.now c.args.values.now c.loop-def.yielded c.into_iter-def-iterator.result _
    c.next.new.self _ (cc) (cc) c.loop-def.yielded_by _ c.in-Some.is c.next.ensures.steps in
    let step = rule_match-drop c.args.defs.now c.args.values.now rest n def value turn.0 turn.1 (turn.2 _) (turn.3 _) in
    let answer : field_match value def.size (number_of (take def.size rest)) ≡ c.field_matches.result = cc in
    sym (c.loop-def.invariant.1 ∙ step ∙ and_left _ _ (answer ∙ c.if-not-field_matches.true))

pub loop-def-preserved : goal.loop-def-preserved
loop-def-preserved c =
    let n = length c.loop-def.yielded in
    let rest = c.loop-def.rest.now in
    let def = c.in-Some.def.now in
    let value = c.in-Some.value.now in
    let turn = zip_turn c.args.defs.now c.args.values.now c.loop-def.yielded c.into_iter-def-iterator.result _
    c.next.new.self _ (cc) (cc) c.loop-def.yielded_by _ c.in-Some.is c.next.ensures.steps in
    let step = rule_match-drop c.args.defs.now c.args.values.now rest n def value turn.0 turn.1 (turn.2 _) (turn.3 _) in
    let answer : field_match value def.size (number_of (take def.size rest)) ≡ c.field_matches.result = cc in
    let others = rule_match (drop (n + 1) c.args.defs.now) (drop (n + 1) c.args.values.now) in
    rw (length_push c.loop-def.yielded (c.in-Some.def, c.in-Some.value)) (
      omega (
        arith,
        c.loop-def.invariant.0,
        sum_by-drop_more (λ (d : FieldDef). d.size) c.args.defs.now n def turn.0,
        ap (λ (d : FieldDef). d.size) (turn.2 def),
        c.split_at.ensures.back_len,
      ),
      c.loop-def.invariant.1 ∙ step
          ∙ ap (λ here. here && others (drop def.size rest)) (answer ∙ c.if-not-field_matches.false)
          ∙ ap others (ap (λ size. drop size rest) (sym c.from.ensures) ∙ sym c.split_at.ensures.back),
    )

pub returns : goal.returns
returns c =
    let all = zip_end c.args.defs.now c.args.values.now c.loop-def.yielded c.into_iter-def-iterator.result _
    c.next.new.self _ (cc) (cc) c.loop-def.yielded_by c.in-None.is c.next.ensures.steps in
    let same = length-AllZip (λ (def : FieldDef) value. CanMatch value def.size) c.args.defs.now
    c.args.values.now c.requires.values in
    sym (c.loop-def.invariant.1 ∙ rule_match-drop_all c.args.defs.now c.args.values.now c.loop-def.rest.now
    (length c.loop-def.yielded) (omega arith) (omega arith))
