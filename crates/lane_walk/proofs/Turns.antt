-- The lanes of a turn, one after the other.
use Rattle.std.proofs.Common.{◌≡◌, ℕ, ◌+◌, ◌-◌, ◌*◌, ◌/◌, ◌<◌, ◌≤◌, List, [], ◌∷◌, sym, ap, ◌∙◌, arith, take, drop}
use Rattle.std.proofs.Common.{get_or, Bool, cond, inl, inr}
use Rattle.std.specs.Prelude.{None, count_by}
use Rattle.std.specs.List.{range_with_len}
use Rattle.std.proofs.Math.Seq.{take-add}
use Rattle.std.proofs.lemmas.List.{drop-drop, get_or-drop}
use Rattle.std.proofs.lemmas.List.Sums.{fold-append, sum_by-append}
use Rattle.list_lemmas.proofs.Positions.{range-append, range-push}
use Rattle.flat_table.specs.Table.{TableView}
use Rattle.flow_core.specs.Machine.{Machine, FlowState, state_of, flow_step, flow_run}
use Rattle.lane_walk.specs.Turn.{is_busy, IsLanes, StepsLanes}

-- one lane more, as a run
pub lane_more : (table : TableView) (keys : List ℕ) (state : FlowState) (n : ℕ) →
    flow_run table keys state (range_with_len 0 (n + 1))
    ≡ flow_step table keys (flow_run table keys state (range_with_len 0 n)) n
lane_more table keys state n =
    ap (λ (lanes : List ℕ). flow_run table keys state lanes) (range-push 0 n)
    ∙ fold-append (flow_step table keys) state (range_with_len 0 n) ((0 + n) ∷ [])
    ∙ ap (λ (lane : ℕ). flow_step table keys (flow_run table keys state (range_with_len 0 n)) lane) (omega arith)

-- how many of some elements pass, and then of some more
pub counted : {X : Type 0} (p : X → Bool) (a b from : ℕ) (xs : List X) →
    count_by p (take (a + b) (drop from xs))
    ≡ count_by p (take a (drop from xs)) + count_by p (take b (drop (from + a) xs))
counted p a b from xs =
    ap (λ (ys : List _). count_by p ys) (take-add a b (drop from xs))
    ∙ sum_by-append (λ x. cond (p x) 1 0) (take a (drop from xs)) (take b (drop a (drop from xs)))
    ∙ ap (λ (ys : List _). count_by p (take a (drop from xs)) + count_by p (take b ys)) (drop-drop a from xs)

module _ {table : TableView} {keys : List ℕ} {before mid : Machine} {old rows : List (List ℕ)} {from a busy : ℕ}
    (s : StepsLanes table keys before old from a mid rows busy) where
  -- lanes, and then some more
  pub and_then : {now : Machine} {new : List (List ℕ)} {b more : ℕ} →
      StepsLanes table keys mid rows (from + a) b now new more →
      StepsLanes table keys before old from (a + b) now new (busy + more)
  and_then {now = now} {b = b} l =
      let at : from + a + b ≡ from + (a + b) = omega arith in
      record {
        state = l.state
            ∙ ap (λ (state : FlowState). flow_run table keys state (range_with_len (from + a) b)) s.state
            ∙ sym (ap (λ (lanes : List ℕ). flow_run table keys (state_of table keys before old) lanes)
            (range-append from a b)
            ∙ fold-append (flow_step table keys) (state_of table keys before old) (range_with_len from a)
            (range_with_len (from + a) b));
        stands = l.stands;
        others = l.others ∙ s.others;
        later = ap (λ (n : ℕ). drop n now.slots) (sym at) ∙ l.later
            ∙ sym (drop-drop b (from + a) mid.slots)
            ∙ ap (λ (held : List _). drop b held) s.later
            ∙ drop-drop b (from + a) before.slots ∙ ap (λ (n : ℕ). drop n before.slots) at;
        busy_is = (λ i. s.busy_is i + l.busy_is i)
            ∙ ap (λ (held : List _).
            count_by is_busy (take a (drop from before.slots)) + count_by is_busy (take b held)) s.later
            ∙ sym (counted is_busy a b from before.slots);
      }

  -- a later lane holds what it held
  pub holds_as_before : (lane : ℕ) → from + a ≤ lane → get_or mid.slots lane None ≡ get_or before.slots lane None
  holds_as_before lane past =
      let at : from + a + (lane - (from + a)) ≡ lane = omega (arith, past) in
      ap (λ (n : ℕ). get_or mid.slots n None) (sym at)
      ∙ sym (get_or-drop (from + a) mid.slots (lane - (from + a)) None)
      ∙ ap (λ (held : List _). get_or held (lane - (from + a)) None) s.later
      ∙ get_or-drop (from + a) before.slots (lane - (from + a)) None
      ∙ ap (λ (n : ℕ). get_or before.slots n None) at

-- there is a lane
pub lanes_some : {width : ℕ} → IsLanes width → 0 < width
lanes_some (inl four) = omega (arith, four)
lanes_some (inr (inl eight)) = omega (arith, eight)
lanes_some (inr (inr sixteen)) = omega (arith, sixteen)

-- there are at most sixteen lanes
pub lanes_few : {width : ℕ} → IsLanes width → width ≤ 16
lanes_few (inl four) = omega (arith, four)
lanes_few (inr (inl eight)) = omega (arith, eight)
lanes_few (inr (inr sixteen)) = omega (arith, sixteen)

-- the lanes are fours without a rest
in_fours : {width : ℕ} → IsLanes width → width / 4 * 4 ≡ width
in_fours (inl four) = omega (arith, four)
in_fours (inr (inl eight)) = omega (arith, eight)
in_fours (inr (inr sixteen)) = omega (arith, sixteen)

-- and all fours of them are all lanes
pub all_groups : {width lanes n : ℕ} → IsLanes width → lanes ≡ width → n ≤ lanes / 4 → lanes / 4 ≤ n → n * 4 ≡ width
all_groups {width = width} {lanes = lanes} {n = n} is same most least =
    let whole : n ≡ lanes / 4 = omega (arith, most, least) in
    ap (λ (k : ℕ). k * 4) (whole ∙ ap (λ (k : ℕ). k / 4) same) ∙ in_fours is

-- and they are whole fours
pub lanes_whole : {width : ℕ} → IsLanes width → width / 4 * 4 ≡ width
lanes_whole {width = width} lanes = elim lanes [
  | inl four ↦ omega (arith, four)
  | inr (inl eight) ↦ omega (arith, eight)
  | inr (inr sixteen) ↦ omega (arith, sixteen)
]
