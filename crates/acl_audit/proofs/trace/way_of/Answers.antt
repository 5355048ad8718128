use Rattle.std.proofs.Common.{◌≡◌, ap, ◌∙◌, arith}
use Rattle.field_defs.specs.Layout.{key_len_of}
use Rattle.field_defs.specs.Lawful.{IsLayout}
use Rattle.field_defs.proofs.Offered.{short_keys}
use Rattle.table_sizes.specs.Groups.{kept_places}
use Rattle.acl_audit.specs.Ways.{AreMerged}
use Rattle.acl_audit.proofs.Ready.{states_fit}
use Rattle.acl_audit.proofs.trace.way_of.Goals as goal

pub kept_places-requires : goal.kept_places-requires
kept_places-requires c =
    let layout : IsLayout c.args.rules.now.layout = rw c.layout.ensures at c.fields-fields.ensures.lawful in
    let len_is : c.key_len-key_len.result ≡ key_len_of c.args.rules.now.layout =
    c.key_len-key_len.ensures ∙ ap key_len_of c.layout-2.ensures in
    omega (arith, len_is, (short_keys c.args.rules.now.layout layout).1)

pub links_of-requires : goal.links_of-requires
links_of-requires c =
    let layout : IsLayout c.args.rules.now.layout = rw c.layout.ensures at c.fields-fields.ensures.lawful in
    let its : AreMerged c.args.rules.now c.args.levels.now = record {
      some = c.requires.some;
      rules = c.all-rules.ensures.lawful;
      layout = layout;
      merged = c.requires.levels;
      among = c.the_winner_is_among_all_places.ensures;
    } in
    states_fit c.args.rules.now c.args.levels.now its c.requires.within

pub returns : goal.returns
returns c =
    let layout : IsLayout c.args.rules.now.layout = rw c.layout.ensures at c.fields-fields.ensures.lawful in
    let its : AreMerged c.args.rules.now c.args.levels.now = record {
      some = c.requires.some;
      rules = c.all-rules.ensures.lawful;
      layout = layout;
      merged = c.requires.levels;
      among = c.the_winner_is_among_all_places.ensures;
    } in
    let len_is : c.key_len-key_len.result ≡ key_len_of c.args.rules.now.layout =
    c.key_len-key_len.ensures ∙ ap key_len_of c.layout-2.ensures in
    record {
      its = its;
      links_are = c.in_ok-links.ensures;
      places_are = c.in_ok-places.ensures ∙ (λ i. kept_places (len_is i) (c.kept.ensures i));
      len_is = len_is;
    }
