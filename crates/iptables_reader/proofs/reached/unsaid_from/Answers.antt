-- Packets come to no line that no rule file says, where there is none.
use Rattle.std.proofs.Common.{sym, ◌∙◌, false}
use Rattle.iptables_reader.specs.Chains.{place_of}
use Rattle.iptables_reader.proofs.SaidChains.{said_from}
use Rattle.iptables_reader.proofs.reached.unsaid_from.Goals as goal

pub returns-then-are_said : goal.returns-then-are_said
returns-then-are_said c =
    let chains = c.args.chains.now in
    sym (said_from chains (sym c.are_said.ensures ∙ c.if-are_said.true) (place_of false c.args.name.now chains))
