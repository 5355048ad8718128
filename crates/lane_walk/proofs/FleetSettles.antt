-- Lanes of a fleet that begin, and that are settled one after the other where they were empty.
use Rattle.std.proofs.Common.{◌≡◌, ◌≢◌, ◌⊎◌, ℕ, ◌+◌, ◌-◌, ◌*◌, ◌%◌, ◌^◌, ◌<◌, ◌≤◌, List, sym, ap, ◌∙◌, refl, arith}
use Rattle.std.proofs.Common.{subst}
use Rattle.std.proofs.Common.{length, get_or, set, inl, inr, length-set, get_or-set_same, get_or-set_other}
use Rattle.std.specs.Prelude.{slice_index, replicate, true}
use Rattle.std.specs.Int.{bit_at}
use Rattle.std.proofs.lemmas.Bool.{cases_lt, cases_eq}
use Rattle.std.proofs.lemmas.List.{get_or-replicate, get_or_past, length-replicate}
use Rattle.std.proofs.lemmas.Nat.Bits.{bit_at-zero, bit_at_above}
use Rattle.flat_table.specs.Word.{is_match}
use Rattle.lane_walk.specs.declared.fleet.Course.{Course}
use Rattle.lane_walk.specs.declared.fleet.Fleet.{Fleet}
use Rattle.lane_walk.specs.Fleet.{IsBegun, SettledTo, SettlesLane, set_below, set_out, with_word, noted_of}
use Rattle.lane_walk.proofs.FleetNotes.{NotesOne, one_noted}
use Rattle.lane_walk.proofs.LaneBits.{IsLeast, below_few, below_more, below_same}

-- a fleet has numbers for each lane
pub record IsWide {W : ℕ} (fleet : Fleet W) : Type 0 where
  pub words : length fleet.words ≡ W
  pub ats : length fleet.ats ≡ W
  pub keys : length fleet.keys ≡ W

-- a lane that sets out leaves as many
wide_out : {W : ℕ} {fleet : Fleet W} (lane : ℕ) → IsWide fleet → IsWide (set_out fleet lane)
wide_out {fleet = fleet} lane w = record {
  words = length-set fleet.words lane fleet.course.root ∙ w.words;
  ats = length-set fleet.ats lane ((fleet.given * fleet.course.len + fleet.course.first) % 2 ^ 32) ∙ w.ats;
  keys = length-set fleet.keys lane fleet.given ∙ w.keys;
}

-- it stands at the root of the key that was next
out_begun : {W : ℕ} {fleet : Fleet W} {lane : ℕ} → IsWide fleet → lane < W →
    IsBegun (set_out fleet lane) lane fleet.given
out_begun {fleet = fleet} {lane = lane} w below = record {
  word = get_or-set_same fleet.words lane fleet.course.root 0 (omega (arith, below, w.words));
  at = get_or-set_same fleet.ats lane ((fleet.given * fleet.course.len + fleet.course.first) % 2 ^ 32) 0
      (omega (arith, below, w.ats));
  key_is = get_or-set_same fleet.keys lane fleet.given 0 (omega (arith, below, w.keys));
}

-- another lane stands where it stood
out_other : {W : ℕ} {fleet : Fleet W} {lane other key : ℕ} → other ≢ lane → IsBegun fleet other key →
    IsBegun (set_out fleet lane) other key
out_other {fleet = fleet} {lane = lane} {other = other} apart b = record {
  word = get_or-set_other fleet.words lane other fleet.course.root 0 apart ∙ b.word;
  at = get_or-set_other fleet.ats lane other ((fleet.given * fleet.course.len + fleet.course.first) % 2 ^ 32) 0 apart
      ∙ b.at;
  key_is = get_or-set_other fleet.keys lane other fleet.given 0 apart ∙ b.key_is;
}

-- ---- the lanes that begin

-- the first n lanes walk the keys of their numbers, and the others are empty
pub record BeginsTo {W : ℕ} (course : Course) (n : ℕ) (fleet : Fleet W) : Type 0 where
  pub course_is : fleet.course ≡ course
  pub given : fleet.given ≡ n
  pub begun : (lane : ℕ) → lane < n → IsBegun fleet lane lane
  pub empty : (lane : ℕ) → n ≤ lane → lane < W → is_match (slice_index fleet.words lane) ≡ true
  pub small : (lane : ℕ) → 0 < course.jobs → slice_index fleet.keys lane < course.jobs
  pub wide : IsWide fleet

-- one lane more
pub begins_more : {W : ℕ} {course : Course} {n : ℕ} {fleet : Fleet W} → BeginsTo course n fleet → n < W →
    n < course.jobs → BeginsTo course (n + 1) (set_out fleet n)
begins_more {W = W} {course = course} {n = n} {fleet = fleet} b below few = record {
  course_is = b.course_is;
  given = omega (arith, b.given);
  begun = λ lane within. elim (cases_eq lane n) [
    | inl same ↦ subst (λ (k : ℕ). IsBegun (set_out fleet n) k k) (sym same)
        (subst (IsBegun (set_out fleet n) n) b.given (out_begun b.wide below))
    | inr other ↦ out_other other (b.begun lane (omega (arith, within, other)))
  ];
  empty = λ lane past there.
      let other : lane ≢ n = λ same. omega (arith, past, same) in
      ap (λ (word : ℕ). is_match word) (get_or-set_other fleet.words n lane fleet.course.root 0 other)
      ∙ b.empty lane (omega (arith, past)) there;
  small = λ lane some. elim (cases_eq lane n) [
    | inl same ↦ omega (
      arith,
      ap (λ (k : ℕ). get_or (set fleet.keys n fleet.given) k 0) same,
      get_or-set_same fleet.keys n fleet.given 0 (omega (arith, below, b.wide.keys)),
      b.given,
      few,
    )
    | inr other ↦ omega (arith, get_or-set_other fleet.keys n lane fleet.given 0 other, b.small lane some)
  ];
  wide = wide_out n b.wide;
}

-- ---- lanes that are settled

-- before the first lane none is settled
settled_none : {W mask : ℕ} {words : List ℕ} {from : Fleet W} {rows : List (List ℕ)} →
    from.given ≤ from.course.jobs → ((lane : ℕ) → lane < W → slice_index from.keys lane < from.course.jobs) →
    SettledTo mask 0 words from from rows rows
unfolding set_below
settled_none few small = record {
  some = λ fits. omega arith;
  all = λ past. omega (arith, few, past);
  course = refl;
  walks = λ lane apart. refl;
  begins = λ lane below bit less. absurd (omega (arith, below));
  rests = λ lane below bit past. absurd (omega (arith, below));
  noted = λ lane below bit less. absurd (omega (arith, below));
  others = λ key. inl refl;
  small = small;
  len = refl;
  past = refl;
}

module _ {W : ℕ} {mask : ℕ} {words : List ℕ} {from now : Fleet W} {rows new : List (List ℕ)} where
  -- over lanes that weren't empty
  pub settled_pass : {n : ℕ} (m : ℕ) → n ≤ m → ((lane : ℕ) → n ≤ lane → lane < m → bit_at mask lane ≡ 0) →
      SettledTo mask n words from now rows new → SettledTo mask m words from now rows new
  settled_pass {n = n} m past none s =
      let same : set_below mask m ≡ set_below mask n =
      (let at : m ≡ n + (m - n) = omega (arith, past) in ap (set_below mask) at)
      ∙ below_same mask n (m - n) (λ lane more less. none lane more (omega (arith, less, past))) in
      let before : (lane : ℕ) → lane < m → bit_at mask lane ≡ 1 → lane < n = λ lane below bit.
      elim (cases_lt lane n) [
        | inl less ↦ less
        | inr more ↦ absurd (omega (arith, none lane more below, bit))
      ] in
      let apart : (lane : ℕ) → (bit_at mask lane ≡ 0) ⊎ (m ≤ lane) → (bit_at mask lane ≡ 0) ⊎ (n ≤ lane) =
      λ lane either. elim either [
        | inl clear ↦ inl clear
        | inr more ↦ inr (omega (arith, more, past))
      ] in
      record {
        some = λ fits. omega (arith, s.some (omega (arith, fits, same)), same);
        all = λ over. s.all (omega (arith, over, same));
        course = s.course;
        walks = λ lane either. s.walks lane (apart lane either);
        begins = λ lane below bit less. s.begins lane (before lane below bit) bit less;
        rests = λ lane below bit over. s.rests lane (before lane below bit) bit over;
        noted = λ lane below bit less.
            let it = s.noted lane (before lane below bit) bit less in
            (it.0, omega (arith, it.1, past), it.2, it.3, it.4);
        others = λ key. elim (s.others key) [
          | inl still ↦ inl still
          | inr (some, (lane, below, bit, key_is, noted)) ↦
              inr (some, (lane, omega (arith, below, past), bit, key_is, noted))
        ];
        small = s.small;
        len = s.len;
        past = s.past;
      }

-- where no lane was empty
pub settled_clear : {W mask : ℕ} {words : List ℕ} {from : Fleet W} {rows : List (List ℕ)} → mask ≡ 0 →
    from.given ≤ from.course.jobs → ((lane : ℕ) → lane < W → slice_index from.keys lane < from.course.jobs) →
    SettledTo mask W words from from rows rows
settled_clear {W = W} clear few small = settled_pass W (omega arith)
    (λ lane past less. ap (λ (n : ℕ). bit_at n lane) clear ∙ bit_at-zero lane) (settled_none few small)

module _ {W : ℕ} {mask n : ℕ} {words : List ℕ} {from now : Fleet W} {rows new : List (List ℕ)}
    (s : SettledTo mask n words from now rows new) (wide : IsWide now) (below : n < W) (is_set : bit_at mask n ≡ 1)
  where
    -- one more bit is set below the next lane
    more : set_below mask (n + 1) ≡ set_below mask n + 1
    more = omega (arith, below_more mask n, is_set)

    -- the lane walked the key that it walked
    own_key : slice_index now.keys n ≡ slice_index from.keys n
    own_key = s.walks n (inr (omega arith))

    jobs_are : now.course.jobs ≡ from.course.jobs
    jobs_are = ap (λ (course : Course). course.jobs) s.course

    -- a lane that isn't to be settled is another
    not_here : (lane : ℕ) → (bit_at mask lane ≡ 0) ⊎ (n + 1 ≤ lane) → lane ≢ n
    not_here lane (inl clear) same = absurd (omega (arith, clear, is_set, ap (bit_at mask) same))
    not_here lane (inr past) same = omega (arith, past, same)

    not_yet : (lane : ℕ) → (bit_at mask lane ≡ 0) ⊎ (n + 1 ≤ lane) → (bit_at mask lane ≡ 0) ⊎ (n ≤ lane)
    not_yet lane (inl clear) = inl clear
    not_yet lane (inr past) = inr (omega (arith, past))

    -- it notes its word and takes the next job
    settled_job : {after : List (List ℕ)} → from.given + set_below mask n < from.course.jobs →
        NotesOne (slice_index from.keys n) (slice_index words n) from.course.jobs new after →
        SettledTo mask (n + 1) words from (set_out now n) rows after
    settled_job {after = after} few note =
        let given : now.given ≡ from.given + set_below mask n = s.some (omega (arith, few)) in
        record {
          some = λ fits. omega (arith, given, more);
          all = λ past. omega (arith, given, more, past, few);
          course = s.course;
          walks = λ lane either. get_or-set_other now.keys n lane now.given 0 (not_here lane either)
              ∙ s.walks lane (not_yet lane either);
          begins = λ lane within bit less. elim (cases_eq lane n) [
            | inl same ↦ subst (λ (k : ℕ). IsBegun (set_out now n) k (from.given + set_below mask k)) (sym same)
                (subst (IsBegun (set_out now n) n) given (out_begun wide below))
            | inr other ↦ out_other other (s.begins lane (omega (arith, within, other)) bit less)
          ];
          rests = λ lane within bit past. elim (cases_eq lane n) [
            | inl same ↦ absurd (omega (arith, past, few, ap (set_below mask) same))
            | inr other ↦ (
                let it = s.rests lane (omega (arith, within, other)) bit past in (
                  get_or-set_other now.words n lane now.course.root 0 other ∙ it.0,
                  get_or-set_other now.keys n lane now.given 0 other ∙ it.1,
                )
                )
          ];
          noted = λ lane within bit less. elim (cases_eq (slice_index from.keys n) (slice_index from.keys lane)) [
            | inl same ↦ (
              n,
              omega arith,
              is_set,
              same,
              ap (λ (key : ℕ). noted_of after key) (sym same) ∙ note.number,
            )
            | inr other ↦ elim (cases_eq lane n) [
              | inl here ↦ absurd (other (ap (λ (k : ℕ). slice_index from.keys k) (sym here)))
              | inr before ↦ (
                  let it = s.noted lane (omega (arith, within, before)) bit less in (
                    it.0,
                    omega (arith, it.1),
                    it.2,
                    it.3,
                    note.apart (slice_index from.keys lane) (λ is. other (sym is)) ∙ it.4,
                  )
                  )
            ]
          ];
          others = λ key. elim (cases_eq key (slice_index from.keys n)) [
            | inl same ↦ inr (
              omega (arith, few),
              (n, omega arith, is_set, sym same, ap (λ (k : ℕ). noted_of after k) same ∙ note.number),
            )
            | inr other ↦ elim (s.others key) [
              | inl still ↦ inl (note.apart key other ∙ still)
              | inr (some, (lane, within, bit, key_is, noted)) ↦
                  inr (some, (lane, omega (arith, within), bit, key_is, note.apart key other ∙ noted))
            ]
          ];
          small = λ lane there. elim (cases_eq lane n) [
            | inl same ↦ omega (
              arith,
              ap (λ (k : ℕ). get_or (set now.keys n now.given) k 0) same,
              get_or-set_same now.keys n now.given 0 (omega (arith, below, wide.keys)),
              given,
              few,
            )
            | inr other ↦ omega (arith, get_or-set_other now.keys n lane now.given 0 other, s.small lane there)
          ];
          len = note.len ∙ s.len;
          past = note.past ∙ s.past;
        }

    -- or it keeps its word
    settled_idle : from.course.jobs ≤ from.given + set_below mask n →
        SettledTo mask (n + 1) words from (with_word now n (slice_index words n)) rows new
    settled_idle past = record {
      some = λ fits. absurd (omega (arith, fits, past, more));
      all = λ over. s.all past;
      course = s.course;
      walks = λ lane either. s.walks lane (not_yet lane either);
      begins = λ lane within bit less. elim (cases_eq lane n) [
        | inl same ↦ absurd (omega (arith, past, less, ap (set_below mask) same))
        | inr other ↦ (
            let it = s.begins lane (omega (arith, within, other)) bit less in
            record {
              word = get_or-set_other now.words n lane (slice_index words n) 0 other ∙ it.word;
              at = it.at;
              key_is = it.key_is;
            }
            )
      ];
      rests = λ lane within bit over. elim (cases_eq lane n) [
        | inl same ↦ (
          ap (λ (k : ℕ). get_or (set now.words n (slice_index words n)) k 0) same
              ∙ get_or-set_same now.words n (slice_index words n) 0 (omega (arith, below, wide.words))
              ∙ ap (λ (k : ℕ). slice_index words k) (sym same),
          ap (λ (k : ℕ). slice_index now.keys k) same ∙ own_key ∙ ap (λ (k : ℕ). slice_index from.keys k) (sym same),
        )
        | inr other ↦ (
            let it = s.rests lane (omega (arith, within, other)) bit over in
            (get_or-set_other now.words n lane (slice_index words n) 0 other ∙ it.0, it.1)
            )
      ];
      noted = λ lane within bit less. elim (cases_eq lane n) [
        | inl same ↦ absurd (omega (arith, past, less, ap (set_below mask) same))
        | inr other ↦ (
            let it = s.noted lane (omega (arith, within, other)) bit less in
            (it.0, omega (arith, it.1), it.2, it.3, it.4)
            )
      ];
      others = λ key. elim (s.others key) [
        | inl still ↦ inl still
        | inr (some, (lane, within, bit, key_is, noted)) ↦
            inr (some, (lane, omega (arith, within), bit, key_is, noted))
      ];
      small = s.small;
      len = s.len;
      past = s.past;
    }

    -- as the code does
    pub settled_more : {next : Fleet W} {after : List (List ℕ)} →
        SettlesLane n (slice_index words n) now next new after →
        SettledTo mask (n + 1) words from next rows after
    settled_more {next = next} {after = after} l = elim (cases_lt (from.given + set_below mask n) from.course.jobs) [
      | inl few ↦ (
          let given : now.given ≡ from.given + set_below mask n = s.some (omega (arith, few)) in
          let less : now.given < now.course.jobs = omega (arith, given, few, jobs_are) in
          let note : NotesOne (slice_index now.keys n) (slice_index words n) from.course.jobs new after =
          one_noted (l.noted less) (l.number less) (s.small n below) in
          subst (λ (it : Fleet W). SettledTo mask (n + 1) words from it rows after) (sym (l.job less))
          (settled_job few
          (subst (λ (key : ℕ). NotesOne key (slice_index words n) from.course.jobs new after) own_key note))
          )
      | inr past ↦ (
          let over : now.course.jobs ≤ now.given = omega (arith, s.all past, jobs_are) in
          subst (λ (it : Fleet W). SettledTo mask (n + 1) words from it rows after) (sym (l.idle over))
          (subst (λ (them : List (List ℕ)). SettledTo mask (n + 1) words from
          (with_word now n (slice_index words n)) rows them) (sym (l.same over)) (settled_idle past))
          )
    ]

    -- and the lanes are as many
    pub wide_more : {next : Fleet W} {after : List (List ℕ)} → SettlesLane n (slice_index words n) now next new after →
        IsWide next
    wide_more {next = next} l = elim (cases_lt now.given now.course.jobs) [
      | inl less ↦ subst (λ (it : Fleet W). IsWide it) (sym (l.job less)) (wide_out n wide)
      | inr over ↦ subst (λ (it : Fleet W). IsWide it) (sym (l.idle over)) record {
        words = length-set now.words n (slice_index words n) ∙ wide.words;
        ats = wide.ats;
        keys = wide.keys;
      }
    ]

-- ---- the loop over the bits

-- the lanes below one are settled, and the bits that are left are those of the later ones
pub record SettlesOn {W : ℕ} (mask : ℕ) (words : List ℕ) (from now : Fleet W) (rows new : List (List ℕ))
    (rest count : ℕ) : Type 0 where
  pub to : ℕ
  pub within : to ≤ W
  pub settled : SettledTo mask to words from now rows new
  pub wide : IsWide now
  pub gone : (lane : ℕ) → lane < to → bit_at rest lane ≡ 0
  pub left : (lane : ℕ) → to ≤ lane → lane < 64 → bit_at rest lane ≡ bit_at mask lane
  pub count_is : count ≡ set_below mask to

module _ {W : ℕ} {mask : ℕ} {words : List ℕ} {from now : Fleet W} {rows new : List (List ℕ)} {rest count : ℕ}
    (s : SettlesOn mask words from now rows new rest count) (few : W ≤ 16) (small : mask < 2 ^ W) where
  module _ {lane : ℕ} (l : IsLeast rest lane) where
    -- its lane isn't settled
    least_past : s.to ≤ lane
    least_past = elim (cases_lt lane s.to) [
      | inl less ↦ absurd (omega (arith, l.is_one, s.gone lane less))
      | inr past ↦ past
    ]

    -- it is one of the mask
    pub least_set : bit_at mask lane ≡ 1
    least_set = sym (s.left lane least_past l.small) ∙ l.is_one

    -- and so one of the lanes
    pub least_below : lane < W
    least_below = elim (cases_lt lane W) [
      | inl less ↦ less
      | inr past ↦ absurd (omega (arith, least_set, bit_at_above mask W lane small past))
    ]

    -- the lanes before it are settled
    pub settled_least : SettledTo mask lane words from now rows new
    settled_least = settled_pass lane least_past
        (λ other past less. sym (s.left other past (omega (arith, less, least_below, few))) ∙ l.before other less)
        s.settled

    -- as many are counted
    least_count : count ≡ set_below mask lane
    least_count =
        let at : lane ≡ s.to + (lane - s.to) = omega (arith, least_past) in
        s.count_is ∙ sym (ap (set_below mask) at ∙ below_same mask s.to (lane - s.to)
        (λ other past less. sym (s.left other past (omega (arith, less, least_past, least_below, few)))
        ∙ l.before other (omega (arith, less, least_past))))

    -- fewer than there are lanes
    pub least_few : count < W
    least_few = omega (arith, least_count, below_few mask lane, least_below)

    -- one lane more
    pub settles_more : {next : Fleet W} {after : List (List ℕ)} {rest' : ℕ} →
        SettlesLane lane (slice_index words lane) now next new after → bit_at rest' lane ≡ 0 →
        ((other : ℕ) → other < 64 → other ≢ lane → bit_at rest' other ≡ bit_at rest other) →
        SettlesOn mask words from next rows after rest' (count + 1)
    settles_more done clear others = record {
      to = lane + 1;
      within = omega (arith, least_below);
      settled = settled_more settled_least s.wide least_below least_set done;
      wide = wide_more settled_least s.wide least_below least_set done;
      gone = λ other less. elim (cases_eq other lane) [
        | inl same ↦ ap (bit_at _) same ∙ clear
        | inr apart ↦ others other (omega (arith, less, l.small)) apart ∙ l.before other (omega (arith, less, apart))
      ];
      left = λ other past there.
          others other there (omega (arith, past)) ∙ s.left other (omega (arith, past, least_past)) there;
      count_is = omega (arith, least_count, below_more mask lane, least_set);
    }

  -- where no bit is left all lanes are settled
  pub settled_all : rest ≡ 0 → SettledTo mask W words from now rows new
  settled_all none = settled_pass W s.within
      (λ lane past less. sym (s.left lane past (omega (arith, less, few))) ∙ ap (λ (n : ℕ). bit_at n lane) none
      ∙ bit_at-zero lane)
      s.settled

  -- and counted
  pub count_all : rest ≡ 0 → count ≡ set_below mask W
  count_all none =
      let at : W ≡ s.to + (W - s.to) = omega (arith, s.within) in
      s.count_is ∙ sym (ap (set_below mask) at ∙ below_same mask s.to (W - s.to)
      (λ lane past less. sym (s.left lane past (omega (arith, less, s.within, few)))
      ∙ ap (λ (n : ℕ). bit_at n lane) none ∙ bit_at-zero lane))

-- before the first bit no lane is settled
pub settles_none : {W mask : ℕ} {words : List ℕ} {from : Fleet W} {rows : List (List ℕ)} →
    from.given ≤ from.course.jobs → ((lane : ℕ) → lane < W → slice_index from.keys lane < from.course.jobs) →
    IsWide from → SettlesOn mask words from from rows rows mask 0
unfolding set_below
settles_none few small wide = record {
  to = 0;
  within = omega arith;
  settled = settled_none few small;
  wide = wide;
  gone = λ lane less. absurd (omega (arith, less));
  left = λ lane past there. refl;
  count_is = refl;
}

-- lanes that are all empty
pub begins_none : {W : ℕ} (course : Course) →
    BeginsTo {W = W} course 0 record {
      course = course;
      given = 0;
      words = replicate W (4 * 2 ^ 29);
      ats = replicate W 0;
      keys = replicate W 0;
    }
begins_none {W = W} course = record {
  course_is = refl;
  given = refl;
  begun = λ lane less. absurd (omega (arith, less));
  empty = λ lane past below. ap (λ (word : ℕ). is_match word) (get_or-replicate W lane (4 * 2 ^ 29) 0 below);
  small = λ lane some. elim (cases_lt lane W) [
    | inl below ↦ omega (arith, get_or-replicate {A = ℕ} W lane 0 0 below, some)
    | inr past ↦ omega (
      arith,
      get_or_past (replicate {A = ℕ} W 0) lane 0 (omega (arith, past, length-replicate {A = ℕ} W 0)),
      some,
    )
  ];
  wide = record {
    words = length-replicate {A = ℕ} W (4 * 2 ^ 29);
    ats = length-replicate {A = ℕ} W 0;
    keys = length-replicate {A = ℕ} W 0;
  };
}
