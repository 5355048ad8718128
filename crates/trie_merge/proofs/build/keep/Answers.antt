use Rattle.std.proofs.Common.{rules}
use Rattle.field_defs.specs.Lawful.{IsLayout}
use Rattle.field_defs.proofs.Offered.{short_keys}
use Rattle.trie_merge.proofs.build.keep.Goals as goal

pub new-requires : goal.new-requires
new-requires c =
    let layout : IsLayout c.args.rules.now.layout = rw c.layout.ensures at c.fields-fields.ensures.lawful in
    let keys = short_keys c.args.rules.now.layout layout in
    record { numbers = search rules; some = keys.0; few = keys.1 }
