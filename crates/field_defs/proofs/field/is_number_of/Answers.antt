use Rattle.std.proofs.Common.{sym, ◌∙◌}
use Rattle.std.proofs.lemmas.Bool.{le-leb}
use Rattle.field_defs.proofs.field.is_number_of.Goals as goal
use Rattle.list_lemmas.proofs.Powers.{number_of_eight_bytes, nothing_above_the_bits}

pub returns-then-size-ge8 : goal.returns-then-size-ge8
returns-then-size-ge8 c = le-leb 8 c.args.size c.if-size-ge8.true
    ∙ sym (number_of_eight_bytes c.args.number c.args.size c.ranges.number.fits c.if-size-ge8.true)

pub returns-else-size-ge8 : goal.returns-else-size-ge8
returns-else-size-ge8 c = nothing_above_the_bits c.args.number c.args.size
