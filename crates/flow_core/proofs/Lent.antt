-- A machine that is lent to a step, with what it has inside.
use Rattle.std.proofs.Common.{◌≡◌, ℕ, ◌+◌, ◌<◌, ◌≤◌, List, sym, ap, ◌∙◌, arith, length, drop, get_or, set, subst}
use Rattle.std.specs.Prelude.{None, Some, Option}
use Rattle.flat_table.specs.Table.{TableView}
use Rattle.flat_table.specs.Batch.{keys_in}
use Rattle.flat_table.specs.Laws.{WalksStay}
use Rattle.flat_table.specs.Sound.{sound_fault}
use Rattle.flow_core.specs.declared.flight.Flight.{Flight}
use Rattle.flow_core.specs.Jobs.{job_at}
use Rattle.flow_core.specs.Machine.{Machine, state_of, flow_step, begun, word_of}
use Rattle.flow_core.specs.Standing.{StandsOver, IsOnWay, LeadsOnward, held_after, rows_after}
use Rattle.flow_core.proofs.OnWay.{key_of_flight}
use Rattle.flow_core.proofs.Stepped.{busy_step, others_stay, job_step, idle_step, stands_word, stands_job, flight_on_way}

-- what it has inside is what callers see, it may be stepped, and the slot is one of its own
pub record IsLent (table : TableView) (keys : List ℕ) (inside before : Machine) (rows : List (List ℕ)) (slot : ℕ)
    : Type 0 where
  pub is : inside ≡ before
  pub stands : StandsOver table keys before (length rows)
  pub within : slot < length inside.slots

-- from what a step is told of a machine of so many slots
pub lent : {table : TableView} {keys : List ℕ} {inside before : Machine} {rows : List (List ℕ)} {slot width : ℕ} →
    inside ≡ before → StandsOver table keys before (length rows) → slot < width → length inside.slots ≡ width →
    IsLent table keys inside before rows slot
lent is stands within told = record {
  is = is;
  stands = stands;
  within = omega (arith, within, told);
}

module _ {table : TableView} {keys : List ℕ} {inside before : Machine} {rows : List (List ℕ)} {slot : ℕ}
    (l : IsLent table keys inside before rows slot) where
  -- the machine inside stands over the batch
  stands_inside : StandsOver table keys inside (length rows)
  stands_inside = subst (λ (machine : Machine). StandsOver table keys machine (length rows)) (sym l.is) l.stands

  -- a step over what it has inside is one over what callers see
  seen : flow_step table keys (state_of table keys inside rows) slot
      ≡ flow_step table keys (state_of table keys before rows) slot
  seen = ap (λ (machine : Machine). flow_step table keys (state_of table keys machine rows) slot) l.is

  -- ---- a busy slot took a word
  module _ {flight : Flight} (busy : get_or inside.slots slot None ≡ Some flight) {held : Option Flight}
      (held_is : held ≡ held_after flight (word_of table keys flight)) {new : List (List ℕ)}
      (new_is : new ≡ rows_after table flight (word_of table keys flight) rows) where
    -- the flight is on its way
    pub on_way : IsOnWay table keys inside.given flight
    on_way = flight_on_way table keys inside rows slot stands_inside l.within flight busy

    -- the word that was taken is a step of the machine
    pub word_step :
        state_of table keys record {
          jobs = inside.jobs;
          given = inside.given;
          slots = set inside.slots slot held;
        } new ≡ flow_step table keys (state_of table keys before rows) slot
    word_step =
        (λ i. state_of table keys record {
          jobs = inside.jobs;
          given = inside.given;
          slots = set inside.slots slot (held_is i);
        } (new_is i))
        ∙ busy_step table keys inside rows slot flight (key_of_flight on_way) busy ∙ seen

    -- the rows after those of the keys are as before
    pub word_others : drop (keys_in table keys) new ≡ drop (keys_in table keys) rows
    word_others =
        ap (λ (them : List (List ℕ)). drop (keys_in table keys) them) new_is
        ∙ others_stay table keys inside rows slot flight (key_of_flight on_way) (word_of table keys flight)

    -- the machine stands over the batch after the word
    pub word_stands : LeadsOnward table flight (word_of table keys flight) →
        StandsOver table keys record {
          jobs = inside.jobs;
          given = inside.given;
          slots = set inside.slots slot held;
        } (length new)
    word_stands onward =
        subst (λ (them : List (List ℕ)). StandsOver table keys record {
          jobs = inside.jobs;
          given = inside.given;
          slots = set inside.slots slot held;
        } (length them)) (sym new_is)
        (subst (λ (it : Option Flight). StandsOver table keys record {
          jobs = inside.jobs;
          given = inside.given;
          slots = set inside.slots slot it;
        } (length (rows_after table flight (word_of table keys flight) rows))) (sym held_is)
        (stands_word table keys inside rows slot stands_inside l.within flight (word_of table keys flight) busy onward))

  -- ---- an empty slot took a job, or found none
  module _ (empty : get_or inside.slots slot None ≡ None) where
    -- a job that was taken is a step of the machine
    pub job_taken : {flight : Flight} → flight ≡ begun table (job_at table inside.given) →
        inside.given < inside.jobs →
        state_of table keys record {
          jobs = inside.jobs;
          given = inside.given + 1;
          slots = set inside.slots slot (Some flight);
        } rows ≡ flow_step table keys (state_of table keys before rows) slot
    job_taken is left =
        ap (λ (flight : Flight). state_of table keys record {
          jobs = inside.jobs;
          given = inside.given + 1;
          slots = set inside.slots slot (Some flight);
        } rows) is
        ∙ job_step table keys inside rows slot stands_inside.jobs empty left ∙ seen

    -- the machine stands over the batch after the job
    pub job_stands : {flight : Flight} → flight ≡ begun table (job_at table inside.given) →
        inside.given < inside.jobs → sound_fault table ≡ None → WalksStay →
        StandsOver table keys record {
          jobs = inside.jobs;
          given = inside.given + 1;
          slots = set inside.slots slot (Some flight);
        } (length rows)
    job_stands is left sound stay =
        subst (λ (flight : Flight). StandsOver table keys record {
          jobs = inside.jobs;
          given = inside.given + 1;
          slots = set inside.slots slot (Some flight);
        } (length rows)) (sym is)
        (stands_job table keys inside rows slot stands_inside sound stay left)

    -- a step without a job that is left changes nothing
    pub none_left : inside.jobs ≤ inside.given →
        state_of table keys before rows ≡ flow_step table keys (state_of table keys before rows) slot
    none_left all =
        ap (λ (machine : Machine). state_of table keys machine rows) (sym l.is)
        ∙ idle_step table keys inside rows slot stands_inside.jobs empty all ∙ seen
