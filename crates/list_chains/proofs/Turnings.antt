-- What a step makes of the rules so far and of what is left to do.
use Rattle.std.proofs.Common.{◌≡◌, ℕ, suc, ◌+◌, ◌-◌, ◌≤◌, ◌<◌, List, [], ◌∷◌, ◌++◌, length, take, get_or, true, false, pos}
use Rattle.std.proofs.Common.{Some, None, Option, Result, Ok, Err, refl, sym, ap, subst, ◌∙◌, arith, ltb, eqb, length-append}
use Rattle.std.specs.List.{AllZip, list_any, range_with_len}
use Rattle.std.specs.Int.{bit_at}
use Rattle.std.proofs.lemmas.List.FromFn.{get_or-range_with_len}
use Rattle.std.proofs.lemmas.List.Sums.{AllPass-from_list_all}
use Rattle.std.proofs.lemmas.Bool.{le-leb, le-ltb, eqb-true}
use Rattle.std.proofs.lemmas.List.{append_assoc, append-nil, map_push, length-take-le}
use Rattle.list_lemmas.proofs.Loops.{gone_is}
use Rattle.field_defs.specs.Lawful.{IsLayout}
use Rattle.field_defs.specs.declared.field.FieldDef.{FieldDef}
use Rattle.field_defs.specs.declared.field.FieldValue.{FieldValue}
use Rattle.rule_set.specs.declared.rule.RuleTag.{RuleTag}
use Rattle.rule_set.specs.Rule.{RuleView}
use Rattle.rule_set.specs.Fault.{rule_fault, categories}
use Rattle.rule_set.specs.Lawful.{IsLawfulValue}
use Rattle.rule_set.specs.Limits.{max_priority}
use Rattle.rule_set.specs.Winner.{is_in_category}
use Rattle.rule_set.proofs.Offered.{faultless_rules, some_category}
use Rattle.table_sizes.specs.Sizes.{max_rules}
use Rattle.list_chains.specs.declared.span.Span.{Span}
use Rattle.list_chains.specs.declared.fault.LimitFault.{LimitFault}
use Rattle.list_chains.specs.declared.fault.LimitFault.TheVariants.{TooManySteps}
use Rattle.list_chains.specs.declared.task.Frame.{Frame}
use Rattle.list_chains.specs.declared.task.Act.{Act}
use Rattle.list_chains.specs.declared.task.Act.TheVariants.{Follow, Leave, Answer}
use Rattle.list_chains.specs.declared.turning.Turning.{Turning}
use Rattle.list_chains.specs.declared.turning.Turn.{Turn}
use Rattle.list_chains.specs.declared.turning.Turn.TheVariants.{More, Done, Full}
use Rattle.list_chains.specs.Flat.{Entry}
use Rattle.list_chains.specs.Tasks.{Chains, TaskView, task_tasks}
use Rattle.list_chains.specs.Values.{box_rows}
use Rattle.list_chains.specs.Ranked.{rule_of, ranked, answered, every_category}
use Rattle.list_chains.specs.Made.{Making, is_decided, rules_before, rows_made, act_made, made}
use Rattle.list_chains.specs.Turned.{HaveBoxes, IsTurning, with_rest, left_made, TurnIs, Turns, WriteIs, Writes}
use Rattle.list_chains.specs.StepLaws.{IsNoAnswer}
use Rattle.list_chains.proofs.Fitting.{step_keeps}
use Rattle.list_chains.proofs.MadeRules.{ranked_append, length_answered}

-- as many rules as entries
pub length_ranked : (priority : ℕ) (entries : List (Entry (List FieldValue))) →
    length (ranked priority entries) ≡ length entries
length_ranked priority [] = refl
length_ranked priority (entry ∷ entries) = ap (λ n. suc n) (length_ranked (priority - 1) entries)

-- as many rules as rows
pub length_rules : (priority userdata : ℕ) (rows : List (List FieldValue)) →
    length (ranked priority (answered userdata rows)) ≡ length rows
length_rules priority userdata rows = length_ranked priority (answered userdata rows) ∙ length_answered userdata rows

-- one rule more, for one row more
pub rows_more : (old now more : List RuleView) (userdata : ℕ) (rows : List (List FieldValue)) (k : ℕ)
    (d : List FieldValue) {row : List FieldValue} → k < length rows → row ≡ get_or rows k d →
    now ≡ old ++ ranked (max_rules - length old) (answered userdata (take k rows)) →
    more ≡ now ++ rule_of (max_rules - length now) userdata row ∷ [] →
    more ≡ old ++ ranked (max_rules - length old) (answered userdata (take (k + 1) rows))
rows_more old now more userdata rows k d {row = row} below is so_far pushed =
    let room = max_rules - length old in
    let gone = answered userdata (take k rows) in
    let last : Entry (List FieldValue) = record { box = row; userdata = userdata } in
    let taken : length (take k rows) ≡ k = length-take-le k rows (omega (arith, below)) in
    let many = length_rules room userdata (take k rows) in
    let counted : length gone ≡ length (take k rows) = length_answered userdata (take k rows) in
    let sized : length now ≡ length old + length (ranked room gone) =
    ap (λ rs. length rs) so_far ∙ length-append old (ranked room gone) in
    let priority : max_rules - length now ≡ room - length gone = omega (arith, sized, many, counted) in
    let answers : answered userdata (take (k + 1) rows) ≡ gone ++ last ∷ [] =
    ap (answered userdata) (gone_is rows k d below is)
    ∙ map_push (λ values. record { box = values; userdata = userdata }) (take k rows) row in
    pushed
    ∙ (λ i. so_far i ++ rule_of (priority i) userdata row ∷ [])
    ∙ append_assoc old (ranked room gone) (rule_of (room - length gone) userdata row ∷ [])
    ∙ ap (λ rs. old ++ rs) (sym (ap (ranked room) answers ∙ ranked_append room gone (last ∷ [])))

-- a row of lawful values is a lawful rule
pub row_lawful : (layout : List FieldDef) (priority userdata : ℕ) (row : List FieldValue) → IsLayout layout →
    priority ≤ max_rules → AllZip IsLawfulValue layout row →
    rule_fault layout (record { category_mask = every_category; priority = pos priority; userdata = userdata }) row
    ≡ None
row_lawful layout priority userdata row lawful within values =
    let its : RuleTag = record { category_mask = every_category; priority = pos priority; userdata = userdata } in
    let category : list_any (is_in_category its) categories ≡ true = sym (some_category its) in
    (faultless_rules layout its row lawful).1 (record {
      tag = record {
        category = category;
        not_below = grind (arith, le-leb 0 priority (omega arith));
        not_above = grind (arith, le-leb priority max_priority (omega (arith, within)));
      };
      values = values;
    })

-- rules before rules before others
before_twice : (xs ys : List RuleView) (others : Result (List RuleView) LimitFault) →
    rules_before xs (rules_before ys others) ≡ rules_before (xs ++ ys) others
before_twice xs ys (Ok others) = ap (λ rs. Ok rs) (sym (append_assoc xs ys others))
before_twice xs ys (Err fault) = refl

-- rows for which there is room are written
pub written : (making : Making) (old new : List RuleView) (userdata : ℕ) (box : List Span) (tasks : List TaskView)
    (rows : List (List FieldValue)) → length rows ≤ max_rules - length old →
    new ≡ old ++ ranked (max_rules - length old) (answered userdata rows) →
    rules_before old (rows_made making (max_rules - length old) userdata box tasks rows)
    ≡ rules_before new (making (max_rules - length new) (Some box) tasks)
written making old new userdata box tasks rows room is =
    let all = max_rules - length old in
    let many = length_rules all userdata rows in
    let sized : length new ≡ length old + length (ranked all (answered userdata rows)) =
    ap (λ rs. length rs) is ∙ length-append old (ranked all (answered userdata rows)) in
    let left : all - length rows ≡ max_rules - length new = omega (arith, sized, many) in
    let fits : ltb all (length rows) ≡ false = le-ltb all (length rows) room in
    rw fits (before_twice old (ranked all (answered userdata rows)) (making (all - length rows) (Some box) tasks)
    ∙ (λ i. rules_before (sym is i) (making (left i) (Some box) tasks)))

module _ (layout : List FieldDef) (chains : Chains) (policy steps : ℕ) where
  -- where nothing is left, nothing more is made
  pub made_none : (room : ℕ) (last : Option (List Span)) → made layout chains policy (suc steps) room last [] ≡ Ok []
  unfolding made
  made_none room last = refl

  -- a box that is decided is passed over
  pub made_decided : (room : ℕ) (last : Option (List Span)) (task : TaskView) (tasks : List TaskView) →
      is_decided last task.within ≡ true →
      made layout chains policy (suc steps) room last (task ∷ tasks) ≡ made layout chains policy steps room last tasks
  unfolding made
  made_decided room last task tasks is = rw is refl

  -- any other has its act
  pub made_act : (room : ℕ) (last : Option (List Span)) (task : TaskView) (tasks : List TaskView) →
      is_decided last task.within ≡ false →
      made layout chains policy (suc steps) room last (task ∷ tasks)
      ≡ act_made layout chains policy (made layout chains policy steps) room last task.act task.within task.frames tasks
  unfolding made
  made_act room last task tasks is = rw is refl

-- so many rules after so many rows
pub rows_sized : (old now : List RuleView) (userdata : ℕ) (rows : List (List FieldValue)) (k : ℕ) → k ≤ length rows →
    now ≡ old ++ ranked (max_rules - length old) (answered userdata (take k rows)) → length now ≡ length old + k
rows_sized old now userdata rows k within so_far =
    let room = max_rules - length old in
    let taken : length (take k rows) ≡ k = length-take-le k rows within in
    let many = length_rules room userdata (take k rows) in
    let sized : length now ≡ length old + length (ranked room (answered userdata (take k rows))) =
    ap (λ rs. length rs) so_far ∙ length-append old (ranked room (answered userdata (take k rows))) in
    omega (arith, sized, many, taken)

-- any act but an answer leaves other things to do
act_goes_on : (layout : List FieldDef) (chains : Chains) (policy : ℕ) (making : Making) (room : ℕ)
    (last : Option (List Span)) (act : Act) (box : List Span) (frames : List Frame) (tasks : List TaskView) →
    IsNoAnswer act →
    act_made layout chains policy making room last act box frames tasks
    ≡ making room last (task_tasks chains policy act box frames tasks)
act_goes_on layout chains policy making room last (Follow frame) box frames tasks no_answer = refl
act_goes_on layout chains policy making room last Leave box frames tasks no_answer = refl
act_goes_on layout chains policy making room last (Answer userdata) box frames tasks no_answer =
    absurd (no_answer userdata refl)

-- where nothing is left, all is made
pub turn_done : (chains : Chains) (policy : ℕ) (old : Turning) → old.tasks ≡ [] → (steps : ℕ) →
    left_made chains policy (suc steps) old ≡ Ok old.set.rules
turn_done chains policy old none steps =
    let room = max_rules - length old.set.rules in
    ap (λ tasks. rules_before old.set.rules (made old.set.layout chains policy (suc steps) room old.last tasks)) none
    ∙ ap (rules_before old.set.rules) (made_none old.set.layout chains policy steps room old.last)
    ∙ ap (λ rs. Ok rs) (append-nil old.set.rules)

-- a box that is decided is passed over
pub turn_passes : (chains : Chains) (policy : ℕ) (old : Turning) (task : TaskView) (rest : List TaskView) →
    IsTurning old → old.tasks ≡ task ∷ rest → is_decided old.last task.within ≡ true →
    Turns chains policy old (record { set = old.set; last = old.last; tasks = rest }) More
turn_passes chains policy old task rest kept is decided =
    let room = max_rules - length old.set.rules in
    let boxes : HaveBoxes old.set.layout (task ∷ rest) = subst (HaveBoxes old.set.layout) is kept.boxes in
    record {
      kept = record { few = kept.few; boxes = boxes.1 };
      layout = refl;
      is = λ steps.
          ap (λ tasks.
          rules_before old.set.rules (made old.set.layout chains policy (suc steps) room old.last tasks)) is
          ∙ ap (rules_before old.set.rules)
          (made_decided old.set.layout chains policy steps room old.last task rest decided);
    }

-- the act of a task, where it isn't passed over
acts : (chains : Chains) (policy steps : ℕ) (old : Turning) (task : TaskView) (rest : List TaskView) →
    old.tasks ≡ task ∷ rest → is_decided old.last task.within ≡ false →
    left_made chains policy (suc steps) old
    ≡ rules_before old.set.rules (act_made old.set.layout chains policy (made old.set.layout chains policy steps)
    (max_rules - length old.set.rules) old.last task.act task.within task.frames rest)
acts chains policy steps old task rest is undecided =
    let room = max_rules - length old.set.rules in
    ap (λ tasks. rules_before old.set.rules (made old.set.layout chains policy (suc steps) room old.last tasks)) is
    ∙ ap (rules_before old.set.rules) (made_act old.set.layout chains policy steps room old.last task rest undecided)

-- other tasks take its place
pub turn_steps : (chains : Chains) (policy : ℕ) (old : Turning) (task : TaskView) (rest tasks : List TaskView) →
    IsTurning old → old.tasks ≡ task ∷ rest → is_decided old.last task.within ≡ false → IsNoAnswer task.act →
    tasks ≡ task_tasks chains policy task.act task.within task.frames rest →
    Turns chains policy old (record { set = old.set; last = old.last; tasks = tasks }) More
turn_steps chains policy old task rest tasks kept is undecided no_answer put =
    let room = max_rules - length old.set.rules in
    let boxes : HaveBoxes old.set.layout (task ∷ rest) = subst (HaveBoxes old.set.layout) is kept.boxes in
    record {
      kept = record {
        few = kept.few;
        boxes = subst (HaveBoxes old.set.layout) (sym put)
            (step_keeps old.set.layout chains policy task.act task.within task.frames rest boxes.0 boxes.1);
      };
      layout = refl;
      is = λ steps.
          acts chains policy steps old task rest is undecided
          ∙ ap (rules_before old.set.rules) (act_goes_on old.set.layout chains policy
          (made old.set.layout chains policy steps) room old.last task.act task.within task.frames rest no_answer
          ∙ ap (made old.set.layout chains policy steps room old.last) (sym put));
    }

-- an answer is what is written of it
write_turns : (chains : Chains) (policy userdata : ℕ) (old : Turning) (task : TaskView) (rest : List TaskView)
    (new : Turning) (turn : Turn) → old.tasks ≡ task ∷ rest → is_decided old.last task.within ≡ false →
    task.act ≡ Answer userdata → new.set.layout ≡ old.set.layout →
    WriteIs userdata task.within (record { set = old.set; last = old.last; tasks = rest }) new turn →
    TurnIs chains policy old new turn
write_turns chains policy userdata old task rest new More is undecided answer same it = λ steps.
    acts chains policy steps old task rest is undecided
    ∙ ap (λ act. rules_before old.set.rules (act_made old.set.layout chains policy
    (made old.set.layout chains policy steps) (max_rules - length old.set.rules) old.last act task.within
    task.frames rest))
    answer
    ∙ it (made old.set.layout chains policy steps)
    ∙ ap (λ layout. with_rest (made layout chains policy steps) new) (sym same)
write_turns chains policy userdata old task rest new Done is undecided answer same it = absurd it
write_turns chains policy userdata old task rest new Full is undecided answer same it = λ steps.
    acts chains policy steps old task rest is undecided
    ∙ ap (λ act. rules_before old.set.rules (act_made old.set.layout chains policy
    (made old.set.layout chains policy steps) (max_rules - length old.set.rules) old.last act task.within
    task.frames rest))
    answer
    ∙ it (made old.set.layout chains policy steps)

-- and so it is a turn
pub turn_writes : (chains : Chains) (policy userdata : ℕ) (old : Turning) (task : TaskView) (rest : List TaskView)
    (new : Turning) (turn : Turn) → old.tasks ≡ task ∷ rest → is_decided old.last task.within ≡ false →
    task.act ≡ Answer userdata →
    Writes userdata task.within (record { set = old.set; last = old.last; tasks = rest }) new turn →
    Turns chains policy old new turn
turn_writes chains policy userdata old task rest new turn is undecided answer it = record {
  kept = it.kept;
  layout = it.layout;
  is = write_turns chains policy userdata old task rest new turn is undecided answer it.layout it.is;
}

-- what is made of rows, after the rules so far
abbrev rows_made_of : Making → Turning → ℕ → List Span → List (List FieldValue) → Result (List RuleView) LimitFault
rows_made_of making old userdata box rows =
    rules_before old.set.rules (rows_made making (max_rules - length old.set.rules) userdata box old.tasks rows)

-- rows that were put after the others
pub rows_written : (old new : Turning) (userdata : ℕ) (box : List Span) (rows : List (List FieldValue)) →
    IsTurning old → rows ≡ box_rows old.set.layout box → length rows ≤ max_rules - length old.set.rules →
    new.set.layout ≡ old.set.layout →
    new.set.rules ≡ old.set.rules ++ ranked (max_rules - length old.set.rules) (answered userdata rows) →
    new.last ≡ Some box → new.tasks ≡ old.tasks → Writes userdata box old new More
rows_written old new userdata box rows kept are room same is last tasks =
    let many = length_rules (max_rules - length old.set.rules) userdata rows in
    let sized : length new.set.rules
    ≡ length old.set.rules + length (ranked (max_rules - length old.set.rules) (answered userdata rows)) =
    ap (λ rs. length rs) is
    ∙ length-append old.set.rules (ranked (max_rules - length old.set.rules) (answered userdata rows)) in
    let few = kept.few in
    record {
      kept = record {
        few = omega (arith, sized, many, room, few);
        boxes = subst (λ layout. HaveBoxes layout new.tasks) (sym same)
            (subst (HaveBoxes old.set.layout) (sym tasks) kept.boxes);
      };
      layout = same;
      is = λ making.
          ap (rows_made_of making old userdata box) (sym are)
          ∙ written making old.set.rules new.set.rules userdata box old.tasks rows room is
          ∙ (λ i. rules_before new.set.rules (making (max_rules - length new.set.rules) (sym last i) (sym tasks i)));
    }

-- where nothing is left, the turning is done
pub turn_ends : (chains : Chains) (policy : ℕ) (old : Turning) (tasks : List TaskView) → IsTurning old →
    old.tasks ≡ [] → tasks ≡ [] →
    Turns chains policy old (record { set = old.set; last = old.last; tasks = tasks }) Done
turn_ends chains policy old tasks kept none still = record {
  kept = record { few = kept.few; boxes = subst (HaveBoxes old.set.layout) (sym still) tt };
  layout = refl;
  is = turn_done chains policy old none;
}

-- in no steps nothing is made
pub made_end : (layout : List FieldDef) (chains : Chains) (policy room : ℕ) (last : Option (List Span))
    (tasks : List TaskView) → made layout chains policy 0 room last tasks ≡ Err TooManySteps
unfolding made
made_end layout chains policy room last tasks = refl

-- no rules before others
before_none : (others : Result (List RuleView) LimitFault) → rules_before [] others ≡ others
before_none (Ok others) = refl
before_none (Err fault) = refl

-- what is made from the beginning
pub start_made : (layout : List FieldDef) (chains : Chains) (policy steps : ℕ) (turning : Turning)
    (tasks : List TaskView) → turning.set.layout ≡ layout → turning.set.rules ≡ [] → turning.last ≡ None →
    turning.tasks ≡ tasks →
    left_made chains policy steps turning ≡ made layout chains policy steps max_rules None tasks
start_made layout chains policy steps turning tasks same none last are =
    (λ i. rules_before (none i) (made (same i) chains policy steps (max_rules - length (none i)) (last i) (are i)))
    ∙ before_none (made layout chains policy steps max_rules None tasks)

-- each of the sixteen categories is a bit of the mask
pub every_bit : (category : ℕ) → category < 16 → bit_at every_category category ≡ 1
every_bit category small =
    let tested = AllPass-from_list_all (λ c. eqb (bit_at every_category c) 1) (range_with_len 0 16) refl category 0
    small in
    let zero : 0 + category ≡ category = omega arith in
    let it : get_or (range_with_len 0 16) category 0 ≡ category = get_or-range_with_len 0 16 category 0 small ∙ zero in
    eqb-true (bit_at every_category category) 1 (ap (λ c. eqb (bit_at every_category c) 1) (sym it) ∙ tested)
