-- What a call of `next` promises, by what was read for it.
use Rattle.std.proofs.Common.{◌≡◌, Bool, true, false, None, Ok}
use Rattle.std.proofs.Common.{refl, sym, subst, ap, ◌∙◌}
use Rattle.std.proofs.lemmas.Bool.{false≢true}
use denote.Enum.Bare.{sameb}
use Rattle.acl_outside.specs.Desk.{DeskView}
use Rattle.pcap_reader.specs.contracts.state.Progress.{the_type}
use Rattle.pcap_reader.specs.declared.state.CaptureState.{CaptureState}
use Rattle.pcap_reader.specs.declared.state.Progress.{Progress}
use Rattle.pcap_reader.specs.declared.state.Progress.TheVariants.{Reading, Ended, Failed}
use Rattle.pcap_reader.specs.State.{Answer}
use Rattle.pcap_reader.specs.ReaderStates.{has_ended}
use Rattle.pcap_reader.specs.Reader.{ReadsNext, TakesNext}

-- what a comparison with the end says
pub ended : (progress : Progress) (same : Bool) → same ≡ sameb the_type progress Ended → same ≡ true →
    progress ≡ Ended
ended Reading same is holds = absurd (false≢true (sym is ∙ holds))
ended Ended same is holds = refl
ended Failed same is holds = absurd (false≢true (sym is ∙ holds))

-- a reader that isn't compared as ended hasn't ended
pub not_ended : (progress : Progress) (same : Bool) → same ≡ sameb the_type progress Ended → same ≡ false →
    has_ended progress ≡ false
not_ended Reading same is fails = refl
not_ended Ended same is fails = absurd (false≢true (sym fails ∙ is))
not_ended Failed same is fails = refl

-- at the end nothing is asked
pub TakesNext-ended : (state : CaptureState) (view : DeskView) → state.progress ≡ Ended →
    TakesNext state view view (Ok None)
TakesNext-ended state view is =
    ((λ over. (refl, refl)), λ going. absurd (false≢true (sym going ∙ ap has_ended is)))

-- before it the next record is read, by a reader with this state inside
pub TakesNext-reads : {inside state : CaptureState} {old new : DeskView} (answer : CaptureState → Answer) →
    inside ≡ state → has_ended inside.progress ≡ false → ReadsNext inside old new (answer inside) →
    TakesNext state old new (answer state)
TakesNext-reads {inside} {state} {old} {new} answer is going reads =
    subst (λ (s : CaptureState). TakesNext s old new (answer s)) is
    ((λ over. absurd (false≢true (sym going ∙ over))), λ none. reads)
