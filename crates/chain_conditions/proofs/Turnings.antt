-- What a step makes of the rules so far and of what is left to do.
use Rattle.std.proofs.Common.{◌≡◌, ℕ, suc, ◌+◌, ◌-◌, ◌≤◌, ◌<◌, List}
use Rattle.std.proofs.Common.{[], ◌∷◌, ◌++◌, length, take, get_or, true, false, pos}
use Rattle.std.proofs.Common.{None, Option, Result, Ok, Err, refl, sym, ap, subst, ◌∙◌, arith, ltb, length-append}
use Rattle.std.specs.List.{AllZip, list_any}
use Rattle.std.proofs.lemmas.Bool.{le-leb, le-ltb}
use Rattle.std.proofs.lemmas.List.{append_assoc, append-nil, length-take-le}
use Rattle.list_lemmas.proofs.Loops.{gone_is}
use Rattle.field_defs.specs.Lawful.{IsLayout}
use Rattle.field_defs.specs.declared.field.FieldDef.{FieldDef}
use Rattle.field_defs.specs.declared.field.FieldValue.{FieldValue}
use Rattle.rule_set.specs.declared.rule.RuleTag.{RuleTag}
use Rattle.rule_set.specs.Rule.{RuleView}
use Rattle.rule_set.specs.Fault.{rule_fault, categories}
use Rattle.rule_set.specs.Lawful.{IsLawfulValue}
use Rattle.rule_set.specs.Limits.{max_priority}
use Rattle.rule_set.specs.Winner.{is_in_category}
use Rattle.rule_set.proofs.Offered.{faultless_rules, some_category}
use Rattle.table_sizes.specs.Sizes.{max_rules}
use Rattle.list_chains.specs.declared.span.Span.{Span}
use Rattle.list_chains.specs.declared.fault.LimitFault.{LimitFault}
use Rattle.list_chains.specs.declared.fault.LimitFault.TheVariants.{TooManySteps}
use Rattle.list_chains.specs.declared.task.Frame.{Frame}
use Rattle.list_chains.specs.declared.task.Act.{Act}
use Rattle.list_chains.specs.declared.task.Act.TheVariants.{Follow, Leave, Answer}
use Rattle.list_chains.specs.declared.turning.Turn.{Turn}
use Rattle.list_chains.specs.declared.turning.Turn.TheVariants.{More, Done, Full}
use Rattle.list_chains.specs.Tasks.{Chains, TaskView, task_tasks}
use Rattle.list_chains.specs.Spans.{IsFieldSpan}
use Rattle.list_chains.specs.Values.{box_rows}
use Rattle.list_chains.specs.Made.{Making, is_decided, rules_before}
use Rattle.list_chains.specs.Turned.{HaveBoxes}
use Rattle.list_chains.specs.StepLaws.{IsNoAnswer}
use Rattle.list_chains.proofs.Offered.{step_keeps}
use Rattle.chain_conditions.specs.declared.turning.Turning.{Turning}
use Rattle.chain_conditions.specs.Kinds.{IsMask}
use Rattle.chain_conditions.specs.Marked.{mark_def, unmarked_spans}
use Rattle.chain_conditions.specs.Made.{box_mask, tagged, last_sure, rows_made, act_made, made}
use Rattle.chain_conditions.specs.Turned.{IsTurning, with_rest, left_made, TurnIs, Turns, WriteIs, Writes}
use Rattle.chain_conditions.specs.Turned as turned

-- a rule of a row
abbrev pub tagged_rule : ℕ → ℕ → ℕ → List FieldValue → RuleView
tagged_rule priority mask userdata row = record {
  tag = record { category_mask = mask; priority = pos priority; userdata = userdata };
  fields = row;
}

-- as many rules as rows
pub length_tagged : (priority mask userdata : ℕ) (rows : List (List FieldValue)) →
    length (tagged priority mask userdata rows) ≡ length rows
length_tagged priority mask userdata [] = refl
length_tagged priority mask userdata (row ∷ rows) = ap (λ n. suc n) (length_tagged (priority - 1) mask userdata rows)

-- the rules of rows in two parts
pub tagged_append : (priority mask userdata : ℕ) (xs ys : List (List FieldValue)) →
    tagged priority mask userdata (xs ++ ys)
    ≡ tagged priority mask userdata xs ++ tagged (priority - length xs) mask userdata ys
tagged_append priority mask userdata [] ys =
    let all : priority - 0 ≡ priority = omega arith in rw all refl
tagged_append priority mask userdata (x ∷ xs) ys =
    let left : priority - 1 - length xs ≡ priority - suc (length xs) = omega arith in
    ap (λ rules. tagged_rule priority mask userdata x ∷ rules)
    (tagged_append (priority - 1) mask userdata xs ys
    ∙ ap (λ n. tagged (priority - 1) mask userdata xs ++ tagged n mask userdata ys) left)

-- one rule more, for one row more
pub rows_more : (old now more : List RuleView) (mask userdata : ℕ) (rows : List (List FieldValue)) (k : ℕ)
    (d : List FieldValue) {row : List FieldValue} → k < length rows → row ≡ get_or rows k d →
    now ≡ old ++ tagged (max_rules - length old) mask userdata (take k rows) →
    more ≡ now ++ tagged_rule (max_rules - length now) mask userdata row ∷ [] →
    more ≡ old ++ tagged (max_rules - length old) mask userdata (take (k + 1) rows)
rows_more old now more mask userdata rows k d {row = row} below is so_far pushed =
    let room = max_rules - length old in
    let gone = take k rows in
    let taken : length gone ≡ k = length-take-le k rows (omega (arith, below)) in
    let many = length_tagged room mask userdata gone in
    let sized : length now ≡ length old + length (tagged room mask userdata gone) =
    ap (λ rs. length rs) so_far ∙ length-append old (tagged room mask userdata gone) in
    let priority : max_rules - length now ≡ room - length gone = omega (arith, sized, many) in
    let next : take (k + 1) rows ≡ gone ++ row ∷ [] = gone_is rows k d below is in
    pushed
    ∙ (λ i. so_far i ++ tagged_rule (priority i) mask userdata row ∷ [])
    ∙ append_assoc old (tagged room mask userdata gone) (tagged_rule (room - length gone) mask userdata row ∷ [])
    ∙ ap (λ rs. old ++ rs)
    (sym (ap (tagged room mask userdata) next ∙ tagged_append room mask userdata gone (row ∷ [])))

-- a row of lawful values is a lawful rule
pub row_lawful : (layout : List FieldDef) (priority mask userdata : ℕ) (row : List FieldValue) → IsLayout layout →
    IsMask mask → priority ≤ max_rules → AllZip IsLawfulValue layout row →
    rule_fault layout (tagged_rule priority mask userdata row).tag row ≡ None
row_lawful layout priority mask userdata row lawful some within values =
    let its : RuleTag = (tagged_rule priority mask userdata row).tag in
    let category : list_any (is_in_category its) categories ≡ true = sym (some_category its) ∙ some in
    (faultless_rules layout its row lawful).1 (record {
      tag = record {
        category = category;
        not_below = grind (arith, le-leb 0 priority (omega arith));
        not_above = grind (arith, le-leb priority max_priority (omega (arith, within)));
      };
      values = values;
    })

-- rules before rules before others
before_twice : (xs ys : List RuleView) (others : Result (List RuleView) LimitFault) →
    rules_before xs (rules_before ys others) ≡ rules_before (xs ++ ys) others
before_twice xs ys (Ok others) = ap (λ rs. Ok rs) (sym (append_assoc xs ys others))
before_twice xs ys (Err fault) = refl

-- the spans after the mark fit the fields
pub unmarked_fit : (layout : List FieldDef) (box : List Span) → AllZip IsFieldSpan (mark_def ∷ layout) box →
    AllZip IsFieldSpan layout (unmarked_spans box)
unmarked_fit layout [] fits = absurd fits
unmarked_fit layout (mark ∷ spans) fits = fits.1

-- rows for which there is room are written
pub written : (making : Making) (old new : List RuleView) (mask userdata : ℕ) (last : Option (List Span))
    (box : List Span) (tasks : List TaskView) (rows : List (List FieldValue)) → length rows ≤ max_rules - length old →
    new ≡ old ++ tagged (max_rules - length old) mask userdata rows →
    rules_before old (rows_made making (max_rules - length old) mask userdata last box tasks rows)
    ≡ rules_before new (making (max_rules - length new) (last_sure last box) tasks)
written making old new mask userdata last box tasks rows room is =
    let all = max_rules - length old in
    let many = length_tagged all mask userdata rows in
    let sized : length new ≡ length old + length (tagged all mask userdata rows) =
    ap (λ rs. length rs) is ∙ length-append old (tagged all mask userdata rows) in
    let left : all - length rows ≡ max_rules - length new = omega (arith, sized, many) in
    let fits : ltb all (length rows) ≡ false = le-ltb all (length rows) room in
    rw fits (before_twice old (tagged all mask userdata rows) (making (all - length rows) (last_sure last box) tasks)
    ∙ (λ i. rules_before (sym is i) (making (left i) (last_sure last box) tasks)))

module _ (layout : List FieldDef) (masks : ℕ → ℕ) (chains : Chains) (policy steps : ℕ) where
  -- where nothing is left, nothing more is made
  pub made_none : (room : ℕ) (last : Option (List Span)) → made layout masks chains policy (suc steps) room last [] ≡
      Ok []
  unfolding made
  made_none room last = refl

  -- a box that is decided is passed over
  pub made_decided : (room : ℕ) (last : Option (List Span)) (task : TaskView) (tasks : List TaskView) →
      is_decided last task.within ≡ true →
      made layout masks chains policy (suc steps) room last (task ∷ tasks) ≡ made layout masks chains policy steps room
      last tasks
  unfolding made
  made_decided room last task tasks is = rw is refl

  -- any other has its act
  pub made_act : (room : ℕ) (last : Option (List Span)) (task : TaskView) (tasks : List TaskView) →
      is_decided last task.within ≡ false →
      made layout masks chains policy (suc steps) room last (task ∷ tasks)
      ≡ act_made layout masks chains policy (made layout masks chains policy steps) room last task.act task.within
      task.frames tasks
  unfolding made
  made_act room last task tasks is = rw is refl

-- so many rules after so many rows
pub rows_sized : (old now : List RuleView) (mask userdata : ℕ) (rows : List (List FieldValue)) (k : ℕ) →
    k ≤ length rows → now ≡ old ++ tagged (max_rules - length old) mask userdata (take k rows) →
    length now ≡ length old + k
rows_sized old now mask userdata rows k within so_far =
    let room = max_rules - length old in
    let taken : length (take k rows) ≡ k = length-take-le k rows within in
    let many = length_tagged room mask userdata (take k rows) in
    let sized : length now ≡ length old + length (tagged room mask userdata (take k rows)) =
    ap (λ rs. length rs) so_far ∙ length-append old (tagged room mask userdata (take k rows)) in
    omega (arith, sized, many, taken)

-- any act but an answer leaves other things to do
act_goes_on : (layout : List FieldDef) (masks : ℕ → ℕ) (chains : Chains) (policy : ℕ) (making : Making) (room : ℕ)
    (last : Option (List Span)) (act : Act) (box : List Span) (frames : List Frame) (tasks : List TaskView) →
    IsNoAnswer act →
    act_made layout masks chains policy making room last act box frames tasks
    ≡ making room last (task_tasks chains policy act box frames tasks)
act_goes_on layout masks chains policy making room last (Follow frame) box frames tasks no_answer = refl
act_goes_on layout masks chains policy making room last Leave box frames tasks no_answer = refl
act_goes_on layout masks chains policy making room last (Answer userdata) box frames tasks no_answer =
    absurd (no_answer userdata refl)

-- where nothing is left, all is made
pub turn_done : (masks : ℕ → ℕ) (chains : Chains) (policy : ℕ) (old : Turning) → old.tasks ≡ [] → (steps : ℕ) →
    left_made masks chains policy (suc steps) old ≡ Ok old.set.rules
turn_done masks chains policy old none steps =
    let room = max_rules - length old.set.rules in
    ap (λ tasks. rules_before old.set.rules (made old.set.layout masks chains policy (suc steps) room old.last tasks))
    none
    ∙ ap (rules_before old.set.rules) (made_none old.set.layout masks chains policy steps room old.last)
    ∙ ap (λ rs. Ok rs) (append-nil old.set.rules)

-- a box that is decided is passed over
pub turn_passes : (masks : ℕ → ℕ) (chains : Chains) (policy : ℕ) (old : Turning) (task : TaskView)
    (rest : List TaskView) →
    IsTurning old → old.tasks ≡ task ∷ rest → is_decided old.last task.within ≡ true →
    Turns masks chains policy old (record { set = old.set; last = old.last; tasks = rest }) More
turn_passes masks chains policy old task rest kept is decided =
    let room = max_rules - length old.set.rules in
    let boxes : HaveBoxes (mark_def ∷ old.set.layout) (task ∷ rest) = subst (HaveBoxes (mark_def ∷ old.set.layout)) is
    kept.boxes in
    record {
      kept = record { few = kept.few; boxes = boxes.1 };
      layout = refl;
      is = λ steps.
          ap (λ tasks.
          rules_before old.set.rules (made old.set.layout masks chains policy (suc steps) room old.last tasks)) is
          ∙ ap (rules_before old.set.rules)
          (made_decided old.set.layout masks chains policy steps room old.last task rest decided);
    }

-- the act of a task, where it isn't passed over
acts : (masks : ℕ → ℕ) (chains : Chains) (policy steps : ℕ) (old : Turning) (task : TaskView) (rest : List TaskView) →
    old.tasks ≡ task ∷ rest → is_decided old.last task.within ≡ false →
    left_made masks chains policy (suc steps) old
    ≡ rules_before old.set.rules (act_made old.set.layout masks chains policy
    (made old.set.layout masks chains policy steps)
    (max_rules - length old.set.rules) old.last task.act task.within task.frames rest)
acts masks chains policy steps old task rest is undecided =
    let room = max_rules - length old.set.rules in
    ap (λ tasks. rules_before old.set.rules (made old.set.layout masks chains policy (suc steps) room old.last tasks))
    is
    ∙ ap (rules_before old.set.rules)
    (made_act old.set.layout masks chains policy steps room old.last task rest undecided)

-- other tasks take its place
pub turn_steps : (masks : ℕ → ℕ) (chains : Chains) (policy : ℕ) (old : Turning) (task : TaskView)
    (rest tasks : List TaskView) →
    IsTurning old → old.tasks ≡ task ∷ rest → is_decided old.last task.within ≡ false → IsNoAnswer task.act →
    tasks ≡ task_tasks chains policy task.act task.within task.frames rest →
    Turns masks chains policy old (record { set = old.set; last = old.last; tasks = tasks }) More
turn_steps masks chains policy old task rest tasks kept is undecided no_answer put =
    let room = max_rules - length old.set.rules in
    let boxes : HaveBoxes (mark_def ∷ old.set.layout) (task ∷ rest) = subst (HaveBoxes (mark_def ∷ old.set.layout)) is
    kept.boxes in
    record {
      kept = record {
        few = kept.few;
        boxes = subst (HaveBoxes (mark_def ∷ old.set.layout)) (sym put)
            (step_keeps (mark_def ∷ old.set.layout) chains policy task.act task.within task.frames rest boxes.0
            boxes.1);
      };
      layout = refl;
      is = λ steps.
          acts masks chains policy steps old task rest is undecided
          ∙ ap (rules_before old.set.rules) (act_goes_on old.set.layout masks chains policy
          (made old.set.layout masks chains policy steps) room old.last task.act task.within task.frames rest no_answer
          ∙ ap (made old.set.layout masks chains policy steps room old.last) (sym put));
    }

module _ (masks : ℕ → ℕ) (chains : Chains) (policy mask userdata : ℕ) (old : Turning) (task : TaskView)
    (rest : List TaskView) where
  -- what is left where a task is taken away
  abbrev taken : Turning
  taken = record { set = old.set; last = old.last; tasks = rest }

  -- an answer is what is written of it
  answered : (steps : ℕ) → old.tasks ≡ task ∷ rest → is_decided old.last task.within ≡ false →
      task.act ≡ Answer userdata → mask ≡ box_mask masks userdata task.within →
      left_made masks chains policy (suc steps) old
      ≡ turned.written (made old.set.layout masks chains policy steps) mask userdata task.within taken
  answered steps is undecided answer masked =
      let making : Making = made old.set.layout masks chains policy steps in
      let room = max_rules - length old.set.rules in
      acts masks chains policy steps old task rest is undecided
      ∙ ap (λ act. rules_before old.set.rules (act_made old.set.layout masks chains policy making room old.last act
      task.within task.frames rest)) answer
      ∙ ap (λ m. rules_before old.set.rules (rows_made making room m userdata old.last task.within rest
      (box_rows old.set.layout (unmarked_spans task.within)))) (sym masked)

  -- as a turn
  write_turns : (new : Turning) (turn : Turn) → old.tasks ≡ task ∷ rest →
      is_decided old.last task.within ≡ false → task.act ≡ Answer userdata →
      mask ≡ box_mask masks userdata task.within → new.set.layout ≡ old.set.layout →
      WriteIs mask userdata task.within taken new turn → TurnIs masks chains policy old new turn
  write_turns new More is undecided answer masked same it = λ steps.
      answered steps is undecided answer masked ∙ it (made old.set.layout masks chains policy steps)
      ∙ ap (λ layout. with_rest (made layout masks chains policy steps) new) (sym same)
  write_turns new Done is undecided answer masked same it = absurd it
  write_turns new Full is undecided answer masked same it = λ steps.
      answered steps is undecided answer masked ∙ it (made old.set.layout masks chains policy steps)

  -- and so it is a turn
  pub turn_writes : (new : Turning) (turn : Turn) → old.tasks ≡ task ∷ rest →
      is_decided old.last task.within ≡ false → task.act ≡ Answer userdata →
      mask ≡ box_mask masks userdata task.within → Writes mask userdata task.within taken new turn →
      Turns masks chains policy old new turn
  turn_writes new turn is undecided answer masked it = record {
    kept = it.kept;
    layout = it.layout;
    is = write_turns new turn is undecided answer masked it.layout it.is;
  }

-- what is made of rows, after the rules so far
abbrev rows_made_of : Making → Turning → ℕ → ℕ → List Span → List (List FieldValue) →
    Result (List RuleView) LimitFault
rows_made_of making old mask userdata box rows =
    rules_before old.set.rules
    (rows_made making (max_rules - length old.set.rules) mask userdata old.last box old.tasks rows)

-- rows that were put after the others
pub rows_written : (old new : Turning) (mask userdata : ℕ) (box : List Span) (rows : List (List FieldValue)) →
    IsTurning old → rows ≡ box_rows old.set.layout (unmarked_spans box) →
    length rows ≤ max_rules - length old.set.rules → new.set.layout ≡ old.set.layout →
    new.set.rules ≡ old.set.rules ++ tagged (max_rules - length old.set.rules) mask userdata rows →
    new.last ≡ last_sure old.last box → new.tasks ≡ old.tasks → Writes mask userdata box old new More
rows_written old new mask userdata box rows kept are room same is last tasks =
    let many = length_tagged (max_rules - length old.set.rules) mask userdata rows in
    let sized : length new.set.rules
    ≡ length old.set.rules + length (tagged (max_rules - length old.set.rules) mask userdata rows) =
    ap (λ rs. length rs) is
    ∙ length-append old.set.rules (tagged (max_rules - length old.set.rules) mask userdata rows) in
    let few = kept.few in
    record {
      kept = record {
        few = omega (arith, sized, many, room, few);
        boxes = subst (λ layout. HaveBoxes (mark_def ∷ layout) new.tasks) (sym same)
            (subst (HaveBoxes (mark_def ∷ old.set.layout)) (sym tasks) kept.boxes);
      };
      layout = same;
      is = λ making.
          ap (rows_made_of making old mask userdata box) (sym are)
          ∙ written making old.set.rules new.set.rules mask userdata old.last box old.tasks rows room is
          ∙ (λ i. rules_before new.set.rules (making (max_rules - length new.set.rules) (sym last i) (sym tasks i)));
    }

-- where nothing is left, the turning is done
pub turn_ends : (masks : ℕ → ℕ) (chains : Chains) (policy : ℕ) (old : Turning) (tasks : List TaskView) → IsTurning old →
    old.tasks ≡ [] → tasks ≡ [] →
    Turns masks chains policy old (record { set = old.set; last = old.last; tasks = tasks }) Done
turn_ends masks chains policy old tasks kept none still = record {
  kept = record { few = kept.few; boxes = subst (HaveBoxes (mark_def ∷ old.set.layout)) (sym still) tt };
  layout = refl;
  is = turn_done masks chains policy old none;
}

-- in no steps nothing is made
pub made_end : (layout : List FieldDef) (masks : ℕ → ℕ) (chains : Chains) (policy room : ℕ) (last : Option (List Span))
    (tasks : List TaskView) → made layout masks chains policy 0 room last tasks ≡ Err TooManySteps
unfolding made
made_end layout masks chains policy room last tasks = refl

-- no rules before others
before_none : (others : Result (List RuleView) LimitFault) → rules_before [] others ≡ others
before_none (Ok others) = refl
before_none (Err fault) = refl

-- what is made from the beginning
pub start_made : (layout : List FieldDef) (masks : ℕ → ℕ) (chains : Chains) (policy steps : ℕ) (turning : Turning)
    (tasks : List TaskView) → turning.set.layout ≡ layout → turning.set.rules ≡ [] → turning.last ≡ None →
    turning.tasks ≡ tasks →
    left_made masks chains policy steps turning ≡ made layout masks chains policy steps max_rules None tasks
start_made layout masks chains policy steps turning tasks same none last are =
    (λ i. rules_before (none i) (made (same i) masks chains policy steps (max_rules - length (none i)) (last i)
    (are i)))
    ∙ before_none (made layout masks chains policy steps max_rules None tasks)
