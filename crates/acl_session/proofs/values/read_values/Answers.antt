use Rattle.std.proofs.Common.{◌≡◌, List, [], ◌∷◌, ◌++◌, sym, subst}
use Rattle.std.specs.Option.{option_map}
use Rattle.field_defs.specs.declared.field.FieldValue.{FieldValue}
use Rattle.text_scan.specs.Parts.{words_of}
use Rattle.acl_session.specs.Values.{values_of}
use Rattle.acl_session.proofs.ReadValues.{values-more}
use Rattle.acl_session.proofs.values.read_values.Goals as goal

pub loop-word-preserved : goal.loop-word-preserved
loop-word-preserved c =
    let items : c.push.new.self.items ≡ c.loop-word.values.items ++ c.in-Some-read_value.value ∷ [] =
    c.in_ok-push-in-Some-read_value.ensures.items in
    subst (λ (values : List FieldValue). values_of (words_of c.args.text.now)
    ≡ option_map (λ (others : List FieldValue). values ++ others) (values_of (words_of c.in-Some.rest.now)))
    (sym items)
    (values-more (words_of c.args.text.now) (words_of c.in-Some.rest.now) (words_of c.loop-word.left.now)
    c.in-Some.word.now c.loop-word.values.items c.in-Some-read_value.value c.loop-word.invariant
    c.in-Some.ensures.words (sym c.in-Some-read_value.ensures))
