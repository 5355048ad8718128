use Rattle.std.proofs.Common.{◌*◌, ◌+◌, Some, None, ◌∙◌}
use Rattle.field_defs.specs.Lawful.{IsLayout}
use Rattle.acl_audit.specs.Half.{half_len}
use Rattle.acl_audit.specs.Ways.{AreMerged}
use Rattle.acl_audit.proofs.Comparing.{half_told}
use Rattle.acl_audit.proofs.Ready.{rows_fit}
use Rattle.acl_audit.proofs.compare.find_unlike.Goals as goal

pub first_unlike-requires : goal.first_unlike-requires
first_unlike-requires c =
    let layout : IsLayout c.args.rules.now.layout = rw c.layout.ensures at c.fields-fields.ensures.lawful in
    let its : AreMerged c.args.rules.now c.args.levels.now = record {
      some = c.requires.some;
      rules = c.all-rules.ensures.lawful;
      layout = layout;
      merged = c.requires.levels;
      among = c.the_winner_is_among_all_places.ensures;
    } in
    rows_fit c.args.rules.now c.args.levels.now its

pub returns-in_ok-key-in-Some : goal.returns-in_ok-key-in-Some
returns-in_ok-key-in-Some c =
    let layout : IsLayout c.args.rules.now.layout = rw c.layout.ensures at c.fields-fields.ensures.lawful in
    let its : AreMerged c.args.rules.now c.args.levels.now = record {
      some = c.requires.some;
      rules = c.all-rules.ensures.lawful;
      layout = layout;
      merged = c.requires.levels;
      among = c.the_winner_is_among_all_places.ensures;
    } in
    record {
      told = λ one two layouts is. (λ i. Some (record {
        key = c.in_ok-key-in-Some.ensures i;
        category = half_len * c.args.half + c.in-Some.unlike.category;
      }))
          ∙ half_told one two c.args.half c.args.rules.now c.args.levels.now (Some c.in-Some.unlike) layouts is its
          c.in-Some.ensures.first;
    }

pub returns-in-None : goal.returns-in-None
returns-in-None c =
    let layout : IsLayout c.args.rules.now.layout = rw c.layout.ensures at c.fields-fields.ensures.lawful in
    let its : AreMerged c.args.rules.now c.args.levels.now = record {
      some = c.requires.some;
      rules = c.all-rules.ensures.lawful;
      layout = layout;
      merged = c.requires.levels;
      among = c.the_winner_is_among_all_places.ensures;
    } in
    record {
      told = λ one two layouts is. half_told one two c.args.half c.args.rules.now c.args.levels.now None layouts is its
          c.in-None.ensures.first;
    }
