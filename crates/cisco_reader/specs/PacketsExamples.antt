-- Examples of rules of entries, each checked by evaluation: their addresses stand as spans.
use Rattle.std.specs.Prelude.{◌≡◌, ℕ, List, [], ◌∷◌, true, false, Some, None, refl}
use Rattle.list_chains.specs.declared.chain.Target.TheVariants.{Decide}
use Rattle.list_chains.specs.declared.span.Span.{Span}
use Rattle.list_chains.specs.Chains.{ListRule}
use Rattle.cisco_reader.specs.declared.entry.Verdict.TheVariants.{Permit, Deny}
use Rattle.cisco_reader.specs.declared.packets.Answers.TheVariants.{Line, Verdict}
use Rattle.cisco_reader.specs.declared.services.Protocols.TheVariants.{Between, TcpUdp}
use Rattle.cisco_reader.specs.Packets.{EntryPairs, answer_of, kept_ports, left_ports, service_rules}

-- the numbers from one to another
infixl 20 ◌to◌
abbrev ◌to◌ : ℕ → ℕ → Span
low to high = record { low = low; high = high }

-- an entry of line 8 for some sources
abbrev pairs : List Span → EntryPairs
pairs sources = record { answer = 8; sources = sources; destinations = (9 to 9) ∷ [] }

-- its rule for one source and one port, which leaves one source port out
abbrev rule : Span → Span → ListRule (List Span)
rule source port = record {
  userdata = 8;
  inside = (6 to 6) ∷ source ∷ (9 to 9) ∷ (0 to 65535) ∷ port ∷ [];
  but = ((0 to 255) ∷ (0 to 4294967295) ∷ (0 to 4294967295) ∷ (23 to 23) ∷ (0 to 65535) ∷ []) ∷ [];
  target = Decide;
}

-- one for each pair of two sources and two destination ports
four_rules : service_rules (pairs ((1 to 1) ∷ (4 to 7) ∷ [])) (record {
  protocols = Between (6 to 6);
  source = Some (record { negated = true; ports = (23 to 23) ∷ [] });
  destination = Some (record { negated = false; ports = (80 to 80) ∷ (443 to 443) ∷ [] });
})
    ≡ rule (1 to 1) (80 to 80) ∷ rule (1 to 1) (443 to 443) ∷ rule (4 to 7) (80 to 80)
    ∷ rule (4 to 7) (443 to 443) ∷ []
four_rules = refl

-- the rule of one protocol to a port
abbrev served : Span → ListRule (List Span)
served protocol = record {
  userdata = 8;
  inside = protocol ∷ (1 to 1) ∷ (9 to 9) ∷ (0 to 65535) ∷ (53 to 53) ∷ [];
  but = [];
  target = Decide;
}

-- `tcp-udp` is one for each of both
both : service_rules (pairs ((1 to 1) ∷ [])) (record {
  protocols = TcpUdp;
  source = None;
  destination = Some (record { negated = false; ports = (53 to 53) ∷ [] });
})
    ≡ served (6 to 6) ∷ served (17 to 17) ∷ []
both = refl

-- after neq all ports are in the box, and those that are named are left out of it
kept : kept_ports (Some (record { negated = true; ports = (23 to 23) ∷ [] })) ≡ (0 to 65535) ∷ []
kept = refl

left : left_ports (Some (record { negated = true; ports = (23 to 23) ∷ [] })) ≡ (23 to 23) ∷ []
left = refl

-- the answer is the line, or the verdict
by_line : answer_of Line 8 Deny ≡ 8
by_line = refl

permitted : answer_of Verdict 8 Permit ≡ 1
permitted = refl

denied : answer_of Verdict 8 Deny ≡ 2
denied = refl
