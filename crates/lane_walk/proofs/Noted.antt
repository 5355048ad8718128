-- The rows that are noted, step by step.
use Rattle.std.proofs.Common.{◌≡◌, ◌≢◌, ◌⊎◌, ℕ, zero, suc, ◌+◌, ◌*◌, ◌<◌, ◌≤◌, List, [], ◌∷◌, sym, ap, ◌∙◌, refl, arith}
use Rattle.std.proofs.Common.{length, drop, get_or, set, subst}
use Rattle.std.proofs.Common.{true, false, inl, inr, length-set, get_or-set_same, get_or-set_other}
use Rattle.std.specs.Prelude.{None, Some, Option, IfSome, slice_index, nat_le, replicate}
use Rattle.std.specs.List.{list_all}
use Rattle.std.proofs.lemmas.Bool.{cases_Bool, cases_lt, cases_eq, and_parts}
use Rattle.std.proofs.lemmas.Bool.Decides.{nat_tests}
use Rattle.std.proofs.lemmas.List.{drop-set-lt, get_or-replicate, length-replicate, set_past}
use Rattle.std.proofs.lemmas.List.Elements.{All-set, All-weaker, All-get_or, All-from_get_or}
use Rattle.flat_table.specs.Laws.{WalksStay}
use Rattle.flat_table.specs.Sound.{sound_fault}
use Rattle.flat_table.specs.Table.{TableView}
use Rattle.flat_table.specs.Word.{index_of, is_match}
use Rattle.flat_table.specs.Batch.{keys_in}
use Rattle.flow_core.specs.declared.flight.Flight.{Flight}
use Rattle.flow_core.specs.Jobs.{Job, job_at, job_count}
use Rattle.flow_core.specs.Machine.{Machine, begun, first_machine, is_done, is_empty, moved_to, word_of}
use Rattle.flow_core.specs.Standing.{LeadsOnward, held_after, job_of}
use Rattle.flow_core.specs.Invariant.{IsInWalk}
use Rattle.flow_core.specs.Laws.{AreBytes}
use Rattle.flow_core.proofs.Offered.{Takes, takes, flies, later, number_there}
use Rattle.lane_walk.specs.Turn.{AreAllNoted, AreNoted, IsHeldIn, IsNotedAs, Notes}

-- there are as many rows after the note
pub notes_len : {flight : Flight} {word : ℕ} {old new : List (List ℕ)} → Notes flight word old new →
    length new ≡ length old
notes_len {flight = flight} {old = old} n =
    ap (λ (rows : List (List ℕ)). length rows) n.rows ∙ length-set old flight.key _

-- and the rows after those of the keys stay
pub notes_others : {flight : Flight} {word : ℕ} {old new : List (List ℕ)} (keys : ℕ) → Notes flight word old new →
    flight.key < keys → drop keys new ≡ drop keys old
notes_others {flight = flight} {old = old} keys n below =
    ap (λ (rows : List (List ℕ)). drop keys rows) n.rows ∙ drop-set-lt keys old flight.key _ below

-- a job whose word stays is still noted
as_before : (table : TableView) (keys : List ℕ) (old new : List (List ℕ)) (job : Job) →
    slice_index (get_or new job.key []) job.trie ≡ slice_index (get_or old job.key []) job.trie →
    IsNotedAs table keys old job → IsNotedAs table keys new job
as_before table keys old new job same noted = (ap (λ (word : ℕ). index_of word) same ∙ noted.0, noted.1)

-- so is each that isn't of the flight whose word is noted
still_noted : (table : TableView) (keys : List ℕ) {flight : Flight} {word : ℕ} {old new : List (List ℕ)} →
    Notes flight word old new → (job : Job) → IsNotedAs table keys old job →
    (job_of flight ≡ job) ⊎ IsNotedAs table keys new job
still_noted table keys {flight = flight} {word = word} {old = old} {new = new} n job noted =
    let row : List ℕ = set (get_or old flight.key []) flight.trie word in
    let is : new ≡ set old flight.key row = n.rows in
    elim (cases_eq job.key flight.key) [
      | inl key ↦ elim (cases_eq job.trie flight.trie) [
        | inl trie ↦ inl (λ i. record { key = sym key i; trie = sym trie i })
        | inr trie ↦ elim (cases_lt flight.key (length old)) [
          | inl there ↦ inr (as_before table keys old new job ((λ i. slice_index (get_or (is i) (key i) []) job.trie)
              ∙ ap (λ (them : List ℕ). slice_index them job.trie) (get_or-set_same old flight.key row [] there)
              ∙ get_or-set_other (get_or old flight.key []) flight.trie job.trie word 0 trie
              ∙ ap (λ (k : ℕ). slice_index (get_or old k []) job.trie) (sym key)) noted)
          | inr past ↦ inr (as_before table keys old new job
              (ap (λ (rows : List (List ℕ)). slice_index (get_or rows job.key []) job.trie)
              (is ∙ set_past old flight.key row past)) noted)
        ]
      ]
      | inr key ↦ inr (as_before table keys old new job
          (ap (λ (rows : List (List ℕ)). slice_index (get_or rows job.key []) job.trie) is
          ∙ ap (λ (them : List ℕ). slice_index them job.trie) (get_or-set_other old flight.key job.key row [] key))
          noted)
    ]

-- what a slot that holds the flight of a job says of the job
held_same : (slots : List (Option Flight)) {flight other : Flight} (lane : ℕ) →
    get_or slots lane None ≡ Some flight → get_or slots lane None ≡ Some other → flight ≡ other
held_same slots {flight = flight} lane holds same =
    ap (λ (held : Option Flight). the_flight flight held) (sym holds ∙ same)
  where
    the_flight : Flight → Option Flight → Flight
    the_flight d None = d
    the_flight d (Some flight) = flight

module _ {table : TableView} {keys : List ℕ} where
  -- ---- a busy slot takes a word
  module _ {before : Machine} {old new : List (List ℕ)} {lane : ℕ} {flight : Flight}
      (within : lane < length before.slots) (holds : get_or before.slots lane None ≡ Some flight)
      (sound : sound_fault table ≡ None) (bytes : AreBytes keys)
      (onward : LeadsOnward table flight (word_of table keys flight))
      (n : Notes flight (word_of table keys flight) old new) (a : AreNoted table keys before old) where
    -- the flight is in its walk
    in_walk : IsInWalk table keys before.given flight
    in_walk = subst (λ (held : Option Flight). IfSome held (IsInWalk table keys before.given)) holds
        (All-get_or (λ held. IfSome held (IsInWalk table keys before.given)) before.slots lane None within a.flights)

    -- it takes the next word of its walk
    taking : Takes table keys before.given flight
    taking = takes table keys sound before.given flight bytes in_walk

    -- a job that another slot holds is held still
    held_else : (held : Option Flight) (job : Job) → IsHeldIn before.slots job →
        IsHeldIn (set before.slots lane held) job ⊎ (job_of flight ≡ job)
    held_else held job (other, f, at, is) = elim (cases_eq other lane) [
      | inl same ↦ inr (ap job_of (held_same before.slots lane holds
          (ap (λ (k : ℕ). get_or before.slots k None) (sym same) ∙ at)) ∙ is)
      | inr apart ↦ inl (other, f, get_or-set_other before.slots lane other held None apart ∙ at, is)
    ]

    -- after a match its job is noted
    own_noted : is_match (word_of table keys flight) ≡ true → (job : Job) → job_of flight ≡ job →
        IsNotedAs table keys new job
    own_noted match job own = subst (λ (it : Job). IsNotedAs table keys new it) own (
      ap (λ (word : ℕ). index_of word) n.number ∙ taking.row match,
      omega (arith, onward.row match, taking.row match),
    )

    -- so each job that was given out is, or is held by another slot
    noted_end : is_match (word_of table keys flight) ≡ true → AreNoted table keys record {
      jobs = before.jobs;
      given = before.given;
      slots = set before.slots lane None;
    } new
    noted_end match = record {
      flights = All-set (λ held. IfSome held (IsInWalk table keys before.given)) before.slots lane None tt a.flights;
      each = λ m below. elim (a.each m below) [
        | inl held ↦ elim (held_else None (job_at table m) held) [
          | inl else ↦ inl else
          | inr own ↦ inr (own_noted match (job_at table m) own)
        ]
        | inr noted ↦ elim (still_noted table keys n (job_at table m) noted) [
          | inl own ↦ inr (own_noted match (job_at table m) own)
          | inr still ↦ inr still
        ]
      ];
    }

    -- after another word its slot holds it still
    noted_on : is_match (word_of table keys flight) ≡ false → AreNoted table keys record {
      jobs = before.jobs;
      given = before.given;
      slots = set before.slots lane (Some (moved_to (word_of table keys flight) flight));
    } new
    noted_on on =
        let next : Flight = moved_to (word_of table keys flight) flight in
        record {
          flights = All-set (λ held. IfSome held (IsInWalk table keys before.given)) before.slots lane (Some next)
              (taking.node on) a.flights;
          each = λ m below. elim (a.each m below) [
            | inl held ↦ elim (held_else (Some next) (job_at table m) held) [
              | inl else ↦ inl else
              | inr own ↦ inl (lane, next, get_or-set_same before.slots lane (Some next) None within, own)
            ]
            | inr noted ↦ elim (still_noted table keys n (job_at table m) noted) [
              | inl own ↦ inl (lane, next, get_or-set_same before.slots lane (Some next) None within, own)
              | inr still ↦ inr still
            ]
          ];
        }

    -- so the rows are noted after the word
    pub noted_word : AreNoted table keys record {
      jobs = before.jobs;
      given = before.given;
      slots = set before.slots lane (held_after flight (word_of table keys flight));
    } new
    noted_word = elim (cases_Bool (is_match (word_of table keys flight))) [
      | inl match ↦ rw match (noted_end match)
      | inr on ↦ rw on (noted_on on)
    ]

  -- ---- an empty slot takes a job
  pub noted_job : {before : Machine} {rows : List (List ℕ)} {lane : ℕ} → lane < length before.slots →
      get_or before.slots lane None ≡ None → before.given < job_count table keys → WalksStay →
      sound_fault table ≡ None → AreNoted table keys before rows → AreNoted table keys record {
        jobs = before.jobs;
        given = before.given + 1;
        slots = set before.slots lane (Some (begun table (job_at table before.given)));
      } rows
  noted_job {before = before} {rows = rows} {lane = lane} within empty few stay sound a =
      let P = λ (given : ℕ) (held : Option Flight). IfSome held (IsInWalk table keys given) in
      let next : Flight = begun table (job_at table before.given) in
      record {
        flights = All-set (P (before.given + 1)) before.slots lane (Some next)
            (flies table keys sound stay before.given few)
            (All-weaker (P before.given) (P (before.given + 1)) (later table keys before.given few) before.slots
            a.flights);
        each = λ m below. elim (cases_lt m before.given) [
          | inl less ↦ elim (a.each m less) [
            | inl held ↦ inl (
              held.0,
              held.1,
              get_or-set_other before.slots lane held.0 (Some next) None (apart held.0 held.1 held.2) ∙ held.2,
              held.3,
            )
            | inr noted ↦ inr noted
          ]
          | inr last ↦ (
              let own : before.given ≡ m = omega (arith, below, last) in
              inl (
                lane,
                next,
                get_or-set_same before.slots lane (Some next) None within,
                ap (λ (number : ℕ). job_at table number) own,
              )
              )
        ];
      }
    where
      apart : (other : ℕ) (flight : Flight) → get_or before.slots other None ≡ Some flight → other ≢ lane
      apart other flight at same =
          cc (sym at ∙ ap (λ (k : ℕ). get_or before.slots k None) same ∙ empty)

-- ---- at the beginning and at the end

-- before the first step no job is given out
pub noted_none : (table : TableView) (keys : List ℕ) (width : ℕ) (rows : List (List ℕ)) →
    AreNoted table keys (first_machine table keys width) rows
noted_none table keys width rows = record {
  flights = All-from_get_or (λ held. IfSome held (IsInWalk table keys 0)) (replicate width None) None
      (λ i below. subst (λ (held : Option Flight). IfSome held (IsInWalk table keys 0))
      (sym (get_or-replicate width i None None (omega (arith, below, length-replicate {A = Option Flight} width None))))
      tt);
  each = λ m below. absurd (omega (arith, below));
}

-- where every slot is empty no job is held
pub none_held : (slots : List (Option Flight)) → list_all is_empty slots ≡ true → (lane : ℕ) →
    get_or slots lane None ≡ None
none_held [] empty lane = refl
none_held (None ∷ slots) empty zero = refl
none_held (None ∷ slots) empty (suc lane) = none_held slots empty lane
none_held (Some flight ∷ slots) empty lane = absurd (cc empty)

-- after the last step the row of each key and trie is noted
pub all_noted : {table : TableView} {keys : List ℕ} {machine : Machine} {rows : List (List ℕ)} →
    AreNoted table keys machine rows → machine.jobs ≡ job_count table keys → is_done machine ≡ true →
    AreAllNoted table keys rows
all_noted {table = table} {keys = keys} {machine = machine} {rows = rows} a jobs done =
    let parts = and_parts (nat_le machine.jobs machine.given) (list_all is_empty machine.slots) done in
    let over : nat_le machine.jobs machine.given ≡ true = parts.0 in
    let all : machine.jobs ≤ machine.given = grind (arith, nat_tests) in
    let noted : (key trie : ℕ) → key < keys_in table keys → trie < length table.roots →
    IsNotedAs table keys rows record { key = key; trie = trie } =
    λ key trie below within.
    let n = number_there table keys key trie below within in
    elim (a.each (key * length table.roots + trie) (omega (arith, n.0, all, jobs))) [
      | inl held ↦ absurd (cc (sym (none_held machine.slots parts.1 held.0) ∙ held.2))
      | inr is ↦ subst (λ (job : Job). IsNotedAs table keys rows job) n.1 is
    ] in
    record {
      each = λ key trie below within. (noted key trie below within).0;
      there = λ key trie below within.
          omega (arith, (noted key trie below within).0, (noted key trie below within).1);
    }
