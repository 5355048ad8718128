use Rattle.std.proofs.Common.{arith}
use Rattle.flow_core.proofs.Lent.{lent, word_step, word_others, word_stands, job_taken, job_stands, none_left}
use Rattle.flow_core.proofs.flows.Flows.step_slot.Goals as goal

pub returns-in-Some-clause-step : goal.returns-in-Some-clause-step
returns-in-Some-clause-step g c =
    let machine = lent c.self.view_is c.requires.stands c.requires.slot c.self.told in
    word_step machine c.in-Some.is c.take_word.ensures.held c.take_word.ensures.rows

pub returns-in-Some-clause-others : goal.returns-in-Some-clause-others
returns-in-Some-clause-others g c =
    let machine = lent c.self.view_is c.requires.stands c.requires.slot c.self.told in
    word_others machine c.in-Some.is c.take_word.ensures.held c.take_word.ensures.rows

pub returns-in-Some-clause-stands : goal.returns-in-Some-clause-stands
returns-in-Some-clause-stands g c =
    let machine = lent c.self.view_is c.requires.stands c.requires.slot c.self.told in
    word_stands machine c.in-Some.is c.take_word.ensures.held c.take_word.ensures.rows c.take_word.ensures.onward

pub returns-then-self-clause-step : goal.returns-then-self-clause-step
returns-then-self-clause-step g c =
    let machine = lent c.self.view_is c.requires.stands c.requires.slot c.self.told in
    job_taken machine c.in-None.is c.flight_of.ensures c.if-self.true

pub returns-then-self-clause-stands : goal.returns-then-self-clause-stands
returns-then-self-clause-stands g c =
    let machine = lent c.self.view_is c.requires.stands c.requires.slot c.self.told in
    job_stands machine c.in-None.is c.flight_of.ensures c.if-self.true c.stay_in.ensures.sound c.stay_in.ensures.stay

pub returns-else-self-clause-step : goal.returns-else-self-clause-step
returns-else-self-clause-step g c =
    let machine = lent c.self.view_is c.requires.stands c.requires.slot c.self.told in
    none_left machine c.in-None.is (omega (arith, c.if-self.false))
