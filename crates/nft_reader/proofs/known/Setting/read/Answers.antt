-- What an object makes, the fault of one, and what is made where none is left.
use Rattle.std.proofs.Common.{◌≡◌, ℕ, ◌+◌, ◌<◌, List, length, map, get_or, Global, Result, Ok, ap, arith, subst, sym}
use Rattle.json.specs.Value.{value_view}
use Rattle.json.specs.declared.value.Value.{Value}
use Rattle.nft_reader.specs.declared.fault.ObjectFault.{ObjectFault}
use Rattle.nft_reader.specs.declared.fault.ObjectKind.{ObjectKind}
use Rattle.nft_reader.specs.declared.fault.Stop.{Stop}
use Rattle.nft_reader.specs.declared.fault.Stop.TheVariants as stop
use Rattle.nft_reader.specs.Chains.{ListedChain}
use Rattle.nft_reader.specs.Known.{Setting, setting_of}
use Rattle.nft_reader.specs.Ruleset.{ReadObjects, fault_of, none_read, objects_read, one_more, with_next, with_object}
use Rattle.nft_reader.specs.Stops.{◌>>=◌, IsToldOf, Refuses}
use Rattle.nft_reader.proofs.Folding.{Folding, folding_all, folding_more, folding_stops}
use Rattle.nft_reader.proofs.known.Setting.read.Goals as goal

pub loop-value-preserved : goal.loop-value-preserved
loop-value-preserved c =
    let l = c.loop-value in (
      omega (arith, l.invariant.0),
      folding_more _ l.invariant.1 (omega arith) c.value-item.is (ap (one_more (l.object + 1)) c.in-Ok.ensures),
    )

-- the fault of an object is that of the ruleset, and want of memory is none
told : (setting : Setting) (objects : List (Value Global)) (k : ℕ) (chains : List ListedChain) (number : ℕ)
    (object : Value Global) (halt : Stop ObjectKind) →
    Folding (with_next setting) value_view objects k none_read (record { number = number; chains = chains }) →
    k < length objects → object ≡ get_or objects k object →
    Refuses (with_object setting chains (value_view object)) halt →
    IsToldOf (objects_read setting (map value_view objects)) (fault_of (number + 1) halt)
told setting objects k chains number object (stop.Told why) so_far below is refused =
    ap (λ (it : Result ReadObjects ObjectFault). it >>= λ read. Ok read.chains)
    (folding_stops _ (stop.Told _) so_far below is (ap (one_more (number + 1)) refused))
told setting objects k chains number object stop.OutOfMemory so_far below is refused = refused

pub returns-in-Err-clause-fault : goal.returns-in-Err-clause-fault
returns-in-Err-clause-fault c =
    let l = c.loop-value in
    subst (IsToldOf (objects_read (setting_of c.args.self.now) (map value_view c.args.objects.now)))
    (sym c.fault_of.ensures)
    (told (setting_of c.args.self.now) c.args.objects.now l.value-index l.chains.items l.object c.value-item.result
    c.in-Err.stop l.invariant.1 (omega arith) c.value-item.is c.in-Err.ensures)

pub returns-clause-chains : goal.returns-clause-chains
returns-clause-chains c =
    let l = c.loop-value in
    ap (λ (it : Result ReadObjects ObjectFault). it >>= λ read. Ok read.chains)
    (folding_all l.invariant.1 (omega arith))
