use Rattle.std.proofs.Common.{rules}
use Rattle.std.specs.Str.{bytes_eq}
use Rattle.state_parts.proofs.Keys.{insert_grows}
use Rattle.state_parts.proofs.rows.Rows.number.Goals as goal

pub returns-clause-grows : goal.returns-clause-grows
returns-clause-grows c =
    let grown = insert_grows bytes_eq c.args.self.now.rows c.args.row in (grown.0, search (rules, grown.1))
