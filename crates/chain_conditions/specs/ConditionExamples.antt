-- Examples of chains with conditions, each checked by evaluation. A box is one span of ports.
--
--     1 -A INPUT -m limit --limit 3/min -j SMALL     condition 1
--     2 -A INPUT -p tcp --dport 20:29 -j DROP
--     3 -A INPUT -p tcp --dport 10:19 -m set --match-set a src -j ACCEPT     condition 3
--     4 -A SMALL -p tcp --dport 20:24 -m mark --mark 1 -j RETURN     condition 4
--     5 -A SMALL -p tcp --dport 0:27 -j ACCEPT
--     6 -P INPUT DROP
use Rattle.std.specs.Prelude.{◌≡◌, ℕ, List, [], ◌∷◌, Bool, true}
use Rattle.std.specs.Prelude.{false, ◌==◌, ◌||◌, Option, Some, None, refl}
use Rattle.std.specs.Prelude.{if◌then◌else◌, nat_le}
use Rattle.list_chains.specs.declared.chain.Target.{Target}
use Rattle.list_chains.specs.declared.chain.Target.TheVariants.{Decide, Return, Jump}
use Rattle.list_chains.specs.declared.span.Span.{Span}
use Rattle.list_chains.specs.Spans.{in_span, common}
use Rattle.list_chains.specs.Chains.{ListRule}
use Rattle.list_chains.specs.Flat.{Entry}
use Rattle.chain_conditions.specs.Conditions.{Conditional, possible}
use Rattle.chain_conditions.specs.Laws.{ConditionalChains, conditional_list}
use Rattle.chain_conditions.specs.Laws.{decides_by, category_answer}
use Rattle.chain_conditions.specs.Anew.{always}

-- spans of ports
abbrev span_meet : Span → Span → Option Span
span_meet one other =
    if nat_le (common one other).low (common one other).high then Some (common one other) else None

infixl 20 ◌to◌
abbrev ◌to◌ : ℕ → ℕ → Span
low to high = record { low = low; high = high }

abbrev rule : ℕ → Span → List ℕ → Target → ListRule (Conditional Span)
rule userdata box conditions target = record {
  userdata = userdata;
  inside = record { box = box; conditions = conditions };
  but = [];
  target = target;
}

firewall : ConditionalChains Span
firewall =
    (rule 1 (0 to 65535) (1 ∷ []) (Jump 1)
    ∷ rule 2 (20 to 29) [] Decide
    ∷ rule 3 (10 to 19) (3 ∷ []) Decide
    ∷ [])
    ∷ (rule 4 (20 to 24) (4 ∷ []) Return
    ∷ rule 5 (0 to 27) [] Decide
    ∷ [])
    ∷ []

-- one list: under conditions 1 and 4 what follows the jump, then under 1, and then surely
abbrev list : List (Entry (Conditional Span))
list = conditional_list span_meet 2 firewall 0 6 (0 to 65535)

abbrev entry : ℕ → ℕ → List ℕ → ℕ → Entry (Conditional Span)
entry low high conditions userdata =
    record { box = record { box = low to high; conditions = conditions }; userdata = userdata }

the_list : list
    ≡ entry 20 24 (1 ∷ 4 ∷ []) 2 ∷ entry 20 24 (1 ∷ 4 ∷ []) 6 ∷ entry 0 27 (1 ∷ []) 5
    ∷ entry 20 29 [] 2 ∷ entry 10 19 (3 ∷ []) 3 ∷ entry 0 65535 [] 6 ∷ []
unfolding firewall
the_list = refl

abbrev at : ℕ → Span → Bool
at port span = in_span span port

-- lines 3 and 5 accept
abbrev accepts : ℕ → Bool
accepts line = line == 3 || line == 5

-- the answers of port 22, one for each entry that it is in
port_22 : possible (at 22) list ≡ Some 2 ∷ Some 2 ∷ Some 5 ∷ Some 2 ∷ Some 2 ∷ Some 2 ∷ []
unfolding firewall
port_22 = refl

-- port 28 is refused by every oracle: both categories say line 2
refused_28 : category_answer (at 28) accepts list ≡ 2
unfolding firewall
refused_28 = refl

always_28 : always (λ line. line == 2) (at 28) 2 firewall 0 6 ≡ true
unfolding firewall
always_28 = refl

-- port 15 may be accepted by line 5, and refused by the policy
accepted_15 : category_answer (at 15) accepts list ≡ 5
unfolding firewall
accepted_15 = refl

refused_15 : category_answer (at 15) (λ line. line == 2 || line == 6) list ≡ 6
unfolding firewall
refused_15 = refl

-- as two oracles do
by_1 : decides_by (at 15) (λ condition. condition == 1) 2 firewall 0 6 ≡ 5
unfolding firewall
by_1 = refl

by_none : decides_by (at 15) (λ condition. false) 2 firewall 0 6 ≡ 6
unfolding firewall
by_none = refl
