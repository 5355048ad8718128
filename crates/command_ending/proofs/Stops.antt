-- Commands that ask for no file any more: they stop, put their last lines, or have no memory.
use Rattle.std.proofs.Common.{◌≡◌, ℕ, ◌+◌, List, [], Option, Some, None, Ok, Err, true, false, inl, inr, refl, sym}
use Rattle.std.proofs.Common.{ap}
use Rattle.std.proofs.Common.{◌∙◌, arith}
use Rattle.std.proofs.lemmas.Bool.{false≢true}
use Rattle.acl_outside.specs.Desk.{DeskView}
use Rattle.acl_outside.specs.Sink.{SinkView}
use Rattle.acl_outside.specs.Together.{HoldsTogether}
use Rattle.acl_outside.proofs.Offered.{KeepsMade-same, KeepsCounts-same}
use Rattle.command_ending.specs.declared.status.Status.{Status}
use Rattle.command_ending.specs.declared.status.Status.TheVariants.{Done, WriteFault, OutOfMemory}
use Rattle.command_ending.specs.Plan.{Outcome, Plan, Give, Stop, Read, making}
use Rattle.command_ending.specs.Follow.{Reached, Given, Stopped, Before, Follows}
use Rattle.command_ending.specs.Endings.{is_decided, is_reported}
use Rattle.command_ending.specs.StepEffects.{Outside, outside, files_of, heard_of, KeepsFiles, Keeps, PutsLast}
use Rattle.command_ending.specs.StepEffects.{EndsMaking, Ends, IsOpenIn, MakesAll}
use Rattle.command_ending.proofs.Gained.{Gains-none, GainsPrefix-none}

-- a desk that was left alone
pub KeepsFiles-same : (desk : DeskView) → KeepsFiles desk desk
KeepsFiles-same desk = record {
  files = refl;
  made = KeepsMade-same desk;
  counts = KeepsCounts-same desk;
  together = λ before. before;
}

-- where all files were kept, so were all that a command doesn't make
pub Keeps-any : (makes : Option (List ℕ)) (old new : DeskView) → KeepsFiles old new → Keeps makes old new
Keeps-any None old new kept = kept
Keeps-any (Some name) old new kept = record {
  files = λ before told. (before, kept.files ∙ told, λ other apart. refl);
  counts = kept.counts;
  together = kept.together;
}

-- what was heard of the opened file and what is left of it stay the file
pub Keeps-together : (makes : Option (List ℕ)) (old new : DeskView) → Keeps makes old new → HoldsTogether old →
    HoldsTogether new
Keeps-together None old new kept = kept.together
Keeps-together (Some name) old new kept = kept.together

-- a status that comes with no report is no write fault
pub unwritten : (status : Status) → is_reported status ≡ false → status ≡ WriteFault → ⊥
unwritten status unreported is = false≢true (sym unreported ∙ ap is_reported is)

-- A plan that stops asks for nothing.
pub Ends-stopped : (makes : Option (List ℕ)) (refusal : Status) (view : Outside) → is_reported refusal ≡ false →
    is_decided refusal ≡ true → EndsMaking makes (Stop refusal) view view refusal
Ends-stopped makes refusal view unreported decided = record {
  reached = Stopped refusal;
  follows = (refl, refl);
  ended = inl refl;
  text = λ other full. Gains-none view.out;
  prefix = λ w. absurd (unwritten refusal unreported w);
  out_of_memory = λ e. Gains-none view.out;
  steps = λ d. omega arith;
  made = λ d. KeepsFiles-same view.desk;
  broken = λ w. KeepsFiles-same view.desk;
  unmade = λ e. KeepsFiles-same view.desk;
  read_fault = λ e. absurd (false≢true (sym (ap is_decided e) ∙ decided));
  write_fault = λ w. absurd (unwritten refusal unreported w);
  absent = λ files told isnt. refl;
  opened = λ files told. tt;
  kept = Keeps-any makes view.desk view.desk (KeepsFiles-same view.desk);
  count = omega arith;
}

-- a command that has heard nothing may end for want of memory
full_at : (makes : Option (List ℕ)) (plan : Plan Outcome) (view : Outside) (reached : Reached Outcome) →
    Follows (files_of view.desk) plan (heard_of view.desk) (heard_of view.desk) reached → IsOpenIn reached view.desk →
    EndsMaking makes plan view view OutOfMemory
full_at makes plan view reached follows opened = record {
  reached = reached;
  follows = follows;
  ended = inr (inr refl);
  text = λ other full. absurd (full refl);
  prefix = λ w. absurd (cc);
  out_of_memory = λ e. Gains-none view.out;
  steps = λ d. absurd (false≢true d);
  made = λ d. absurd (false≢true d);
  broken = λ w. absurd (cc);
  unmade = λ e. KeepsFiles-same view.desk;
  read_fault = λ e. absurd (cc);
  write_fault = λ w. absurd (cc);
  absent = λ files told isnt. refl;
  opened = λ files told. opened;
  kept = Keeps-any makes view.desk view.desk (KeepsFiles-same view.desk);
  count = omega arith;
}

-- Memory ran out before anything was asked for, whatever the plan is.
pub Ends-full : (makes : Option (List ℕ)) (plan : Plan Outcome) (view : Outside) →
    EndsMaking makes plan view view OutOfMemory
Ends-full makes (Give outcome) view = full_at makes (Give outcome) view (Given outcome) (refl, refl) tt
Ends-full makes (Stop status) view = full_at makes (Stop status) view (Stopped status) (refl, refl) tt
Ends-full makes (Read name shown next) view =
    full_at makes (Read name shown next) view (Before name) (inl (refl, refl)) tt

-- The lines of an outcome were put, and the transitions counted.
pub Ends-put : (outcome : Outcome) (desk : DeskView) (out_old out_new : SinkView) (steps : ℕ) (status : Status) →
    outcome.status ≡ Done → outcome.made ≡ None → PutsLast outcome.text out_old out_new status →
    Ends (Give outcome) (outside desk out_old steps) (outside desk out_new (steps + outcome.transitions)) status
Ends-put outcome desk out_old out_new steps status done unmade puts = record {
  reached = Given outcome;
  follows = (refl, refl);
  ended = elim puts.puts [ inl all ↦ inl (all.0 ∙ sym done) | inr part ↦ inr (inl part.0) ];
  text = λ other full. elim puts.puts [ inl all ↦ all.1 | inr part ↦ absurd (other part.0) ];
  prefix = λ e. elim puts.puts [ inl all ↦ absurd (let both = sym e ∙ all.0 in cc) | inr part ↦ part.1 ];
  out_of_memory = λ e. elim puts.puts [
    | inl all ↦ absurd (let both = sym e ∙ all.0 in cc)
    | inr part ↦ absurd (let both = sym e ∙ part.0 in cc)
  ];
  steps = λ decided. refl;
  made = λ decided. rw unmade (KeepsFiles-same desk);
  broken = λ written. rw unmade (KeepsFiles-same desk);
  unmade = λ fault. KeepsFiles-same desk;
  read_fault = λ e. elim puts.puts [
    | inl all ↦ absurd (let both = sym e ∙ all.0 in cc)
    | inr part ↦ absurd (let both = sym e ∙ part.0 in cc)
  ];
  write_fault = λ e. elim puts.puts [ inl all ↦ absurd (let both = sym e ∙ all.0 in cc) | inr part ↦ part.2 ];
  absent = λ files told isnt. refl;
  opened = λ files told. tt;
  kept = KeepsFiles-same desk;
  count = puts.count;
}

-- The file of an outcome was made.
pub Ends-made : {T E : Type 0} (name bytes : List ℕ) (old new : DeskView) (out : SinkView) (steps : ℕ) (x : T) →
    MakesAll {E = E} name bytes old new (Ok x) →
    EndsMaking (Some name) (Give (making name bytes)) (outside old out steps) (outside new out steps) Done
Ends-made name bytes old new out steps x makes = record {
  reached = Given (making name bytes);
  follows = (makes.heard.heard, refl);
  ended = inl refl;
  text = λ other full. Gains-none out;
  prefix = λ w. absurd (cc);
  out_of_memory = λ e. absurd (cc);
  steps = λ decided. omega arith;
  made = λ decided. makes.whole;
  broken = λ w. absurd (cc);
  unmade = λ e. elim e [ inl read ↦ absurd (cc) | inr full ↦ absurd (cc) ];
  read_fault = λ e. absurd (cc);
  write_fault = λ w. absurd (cc);
  absent = λ files told isnt. makes.heard.absent;
  opened = λ files told. tt;
  kept = makes.others;
  count = omega arith;
}

-- It couldn't be made, or not whole.
pub Ends-broken : {T E : Type 0} (name bytes : List ℕ) (old new : DeskView) (out : SinkView) (steps : ℕ) (e : E) →
    MakesAll {T = T} name bytes old new (Err e) →
    EndsMaking (Some name) (Give (making name bytes)) (outside old out steps) (outside new out steps) WriteFault
Ends-broken name bytes old new out steps e makes = record {
  reached = Given (making name bytes);
  follows = (makes.heard.heard, refl);
  ended = inr (inl refl);
  text = λ other full. absurd (other refl);
  prefix = λ w. GainsPrefix-none [] out;
  out_of_memory = λ full. absurd (cc);
  steps = λ decided. absurd (false≢true decided);
  made = λ decided. absurd (false≢true decided);
  broken = λ w. makes.part;
  unmade = λ fault. elim fault [ inl read ↦ absurd (cc) | inr full ↦ absurd (cc) ];
  read_fault = λ read. absurd (cc);
  write_fault = λ w. makes.cause;
  absent = λ files told isnt. makes.heard.absent;
  opened = λ files told. tt;
  kept = makes.others;
  count = omega arith;
}
