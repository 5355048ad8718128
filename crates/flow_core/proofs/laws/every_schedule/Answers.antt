use Rattle.flow_core.specs.Machine.{flow_from_first}
use Rattle.flow_core.proofs.Ends.{all_joined}
use Rattle.flow_core.proofs.Enough.{done_enough, rounds_there, one_round}
use Rattle.flow_core.proofs.Runs.{from_first}
use Rattle.flow_core.proofs.laws.every_schedule.Goals as goal

pub returns : goal.returns
returns c = record {
  rows = λ table keys width slots sound bytes below done.
      all_joined table keys (flow_from_first table keys width slots)
      (from_first table keys c.walks_stay.ensures sound bytes width slots below) done;
  done = λ table keys width slots sound bytes below some enough.
      done_enough table keys c.walks_stay.ensures sound bytes width slots below some enough;
  rounds = λ table keys width sound bytes some.
      rounds_there table keys width c.walks_stay.ensures sound bytes some;
  one = λ table keys width n other first second. one_round table keys width n other first second;
}
