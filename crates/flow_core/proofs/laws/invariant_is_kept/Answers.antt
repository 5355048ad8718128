use Rattle.flow_core.proofs.Ends.{all_joined}
use Rattle.flow_core.proofs.Runs.{first_flown, flown_step}
use Rattle.flow_core.proofs.laws.invariant_is_kept.Goals as goal

pub returns : goal.returns
returns c = record {
  begin = λ table keys width sound. first_flown table keys width;
  step = λ table keys state slot sound bytes within flown.
      flown_step table keys c.walks_stay.ensures sound bytes state slot within flown;
  end = λ table keys state flown done. all_joined table keys state flown done;
}
