use Rattle.std.proofs.Common.{ap, arith}
use Rattle.field_defs.specs.Layout.{key_len_of}
use Rattle.field_defs.specs.Lawful.{IsLayout}
use Rattle.field_defs.proofs.Offered.{short_keys}
use Rattle.table_fill.proofs.filling.sizes.Goals as goal

pub overflow_cast-result : goal.overflow_cast-result
overflow_cast-result c =
    let layout : IsLayout c.args.rules.now.layout = rw c.layout.ensures at c.fields-fields.ensures.lawful in
    omega (arith, c.key_len.ensures, ap key_len_of c.layout-2.ensures, (short_keys c.args.rules.now.layout layout).1)
