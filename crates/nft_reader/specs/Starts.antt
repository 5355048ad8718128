-- The base chain that is asked for. Packets of another base chain on their way must not be dropped
-- there: what this one answers would be no answer.
use Rattle.std.specs.Prelude.{ℕ, zero, suc, ◌+◌, Bool, true, false, ◌&&◌, ◌||◌, not, is_some, if◌then◌else◌}
use Rattle.std.specs.Prelude.{codes, List, [], drop, map, slice_get, slice_index_or}
use Rattle.std.specs.Prelude.{Option, Some, None, option_and_then, Result, Ok, Err}
use Rattle.std.specs.List.{position_from}
use Rattle.std.specs.Option.{option_map}
use Rattle.std.specs.Str.{bytes_eq}
use Rattle.nft_reader.specs.declared.chain.Lead.{Lead}
use Rattle.nft_reader.specs.declared.compared.Way.{Way}
use Rattle.nft_reader.specs.declared.compared.Way.TheVariants as way
use Rattle.nft_reader.specs.declared.fault.StartFault.{StartFault}
use Rattle.nft_reader.specs.declared.fault.StartFault.TheVariants as start
use Rattle.nft_reader.specs.declared.hooks.Base.{Base}
use Rattle.nft_reader.specs.Assumed.{interface_of}
use Rattle.nft_reader.specs.Chains.{ListedChain, is_same, no_chain}
use Rattle.nft_reader.specs.Hooks.{has_way, is_nat, share_a_way}
use Rattle.nft_reader.specs.Stops.{◌>>=◌, or_cause}
use Rattle.nft_reader.specs.Values.{first_of}

-- ---- chains that may drop

-- a chain is marked
abbrev pub is_set : Option Bool → Bool
is_set None = false
is_set (Some mark) = mark

-- a rule leads to a marked chain, which is found by its place
abbrev pub leads_to_marked : List Bool → Lead → Bool
leads_to_marked marks lead = is_set (slice_get marks lead.place)

-- the first rule that leads to a marked chain, by its place among those that lead on
abbrev pub led_place : List Bool → List Lead → Option ℕ
led_place marks leads = position_from (leads_to_marked marks) 0 leads

-- no rule
abbrev pub no_lead : Lead
no_lead = record { handle = 0; place = 0 }

-- its handle
abbrev pub led_handle : List Bool → List Lead → Option ℕ
led_handle marks leads =
    option_map (λ place. (slice_index_or leads place no_lead).handle) (led_place marks leads)

-- the handle of a rule of a chain that may drop, or that leads to a marked chain
abbrev pub stop_of : List Bool → ListedChain → Option ℕ
stop_of marks chain = first_of chain.stops (led_handle marks chain.leads)

-- the chains with such a rule
abbrev pub spread : List ListedChain → List Bool → List Bool
spread chains marks = map (λ chain. is_some (stop_of marks chain)) chains

-- the same some steps on
unfoldable pub spread_on : ℕ → List ListedChain → List Bool → List Bool
spread_on zero chains marks = marks
spread_on (suc steps) chains marks = spread_on steps chains (spread chains marks)

-- the chains of which a rule may drop, and those that lead to such a chain by at most 16 rules:
-- the kernel takes no longer ways
abbrev pub stopping_chains : List ListedChain → List Bool
stopping_chains chains = spread_on 16 chains (spread chains [])

-- ---- the chain of a name

-- packets have the address of the network that the chain's rules compare
abbrev pub is_of_network : ListedChain → Bool
is_of_network chain = not (bytes_eq chain.owner.family (codes "netdev"))

-- the chain has the name, and packets come to it by themselves
abbrev pub is_start : List ℕ → ListedChain → Bool
is_start name chain =
    bytes_eq chain.owner.name name && is_some chain.policy && is_of_network chain

-- the first such chain from a place on
abbrev pub start_from : List ℕ → ℕ → List ListedChain → Option ℕ
start_from name from chains = position_from (is_start name) from (drop from chains)

-- it is the only one, whatever its table
abbrev pub only_after : List ℕ → List ListedChain → Option ℕ → Result ℕ StartFault
only_after name chains None = Err start.NoStart
only_after name chains (Some place) =
    if is_some (start_from name (place + 1) chains) then Err start.ManyStarts else Ok place

-- the place of the one chain of a name that packets come to by themselves
abbrev pub only_start : List ℕ → List ListedChain → Result ℕ StartFault
only_start name chains = only_after name chains (start_from name 0 chains)

-- ---- what is asked of it

-- an interface is assumed that packets don't have there
abbrev pub lacks_way : List ℕ → Base → Way → Bool
lacks_way assumed base which =
    is_some (interface_of which assumed) && not (has_way which base.hook)

-- why a base chain can't be asked: to one of type nat only first packets of connections come
abbrev pub unasked : List ℕ → Base → Option StartFault
unasked assumed base =
    if is_nat base.kind then Some start.NatStart
    else (if lacks_way assumed base way.In || lacks_way assumed base way.Out
    then Some start.OtherInterface else None)

-- the policy of a base chain drops, or else a rule that may
abbrev pub dropped_by : List Bool → ListedChain → Base → Option ℕ
dropped_by marks chain base = if base.drops then Some chain.handle else stop_of marks chain

-- a base chain is on the way of packets of a hook
abbrev pub is_beside : Base → Option Base → Bool
is_beside asked None = false
is_beside asked (Some base) = share_a_way asked.hook base.hook

-- what drops in a base chain, if it is one
abbrev pub drop_of : List Bool → ListedChain → Option ℕ
drop_of marks chain = option_and_then (dropped_by marks chain) chain.base

-- another base chain on the way may drop
abbrev pub drops_beside : List Bool → ListedChain → Base → ListedChain → Bool
drops_beside marks asked base chain =
    not (is_same chain.owner asked.owner) && is_beside base chain.base
    && is_some (drop_of marks chain)

-- the first one, by its place
abbrev pub place_beside : List Bool → ListedChain → Base → List ListedChain → Option ℕ
place_beside marks asked base chains = position_from (drops_beside marks asked base) 0 chains

-- the handle of its policy's chain, or of its rule that may drop
abbrev pub handle_beside : List Bool → ListedChain → Base → List ListedChain → Option ℕ
handle_beside marks asked base chains =
    option_and_then (λ place. drop_of marks (slice_index_or chains place no_chain))
    (place_beside marks asked base chains)

-- a chain by its place, if none beside it may drop
abbrev pub if_alone : ℕ → Option ℕ → Result ℕ StartFault
if_alone place None = Ok place
if_alone place (Some handle) = Err (start.Beside handle)

-- a chain by its place, if it can be asked
abbrev pub if_asked : List Bool → List ListedChain → ListedChain → ℕ → Base → Option StartFault →
    Result ℕ StartFault
if_asked marks chains asked place base None =
    if_alone place (handle_beside marks asked base chains)
if_asked marks chains asked place base (Some why) = Err why

-- a chain by its place and what it is
abbrev pub start_at : List Bool → List ℕ → List ListedChain → ListedChain → ℕ → Option Base →
    Result ℕ StartFault
start_at marks assumed chains asked place None = Err start.NoStart
start_at marks assumed chains asked place (Some base) =
    if_asked marks chains asked place base (unasked assumed base)

-- a chain by its place
abbrev pub start_of_place : List Bool → List ℕ → List ListedChain → ℕ → Result ℕ StartFault
start_of_place marks assumed chains place =
    start_at marks assumed chains (slice_index_or chains place no_chain) place
    (slice_index_or chains place no_chain).base

-- the place of the one base chain of a name, where some chains are marked that may drop
abbrev pub start_with : List Bool → List ℕ → List ℕ → List ListedChain → Result ℕ StartFault
start_with marks assumed name chains =
    only_start name chains >>= start_of_place marks assumed chains

-- the same with those that do
abbrev pub start_of : List ℕ → List ℕ → List ListedChain → Result ℕ StartFault
start_of assumed name chains = start_with (stopping_chains chains) assumed name chains
