-- The rules that are made answer as the tasks do, and so as the chains.
use Rattle.std.proofs.Common.{◌≡◌, ℕ, zero, suc, ◌-◌, List, [], ◌∷◌, ◌++◌, Bool, true, false, length}
use Rattle.std.proofs.Common.{Option, Some, None, Result, Ok, Err, refl, sym, ap, ◌∙◌, inl, inr, arith, ltb}
use Rattle.std.proofs.lemmas.Bool.{cases_Bool}
use Rattle.field_defs.specs.declared.field.FieldDef.{FieldDef}
use Rattle.field_defs.specs.declared.field.FieldValue.{FieldValue}
use Rattle.rule_set.specs.Rule.{RuleView}
use Rattle.rule_set.specs.Winner.{verdict}
use Rattle.table_sizes.specs.Sizes.{max_rules}
use Rattle.list_chains.specs.declared.span.Span.{Span}
use Rattle.list_chains.specs.declared.task.Frame.{Frame}
use Rattle.list_chains.specs.declared.task.Act.{Act}
use Rattle.list_chains.specs.declared.task.Act.TheVariants.{Follow, Leave, Answer}
use Rattle.list_chains.specs.declared.fault.LimitFault.{LimitFault}
use Rattle.list_chains.specs.Spans.{box_meet, in_box, whole_box}
use Rattle.list_chains.specs.Chains.{answer_or, rules_answer, chains_answer}
use Rattle.list_chains.specs.Flat.{Entry, first_answer, rules_flat, chains_flat, flattened}
use Rattle.list_chains.specs.FlatLaws.{holds_in}
use Rattle.list_chains.specs.Tasks.{Chains, TaskView, frame_rules, task_tasks}
use Rattle.list_chains.specs.StepLaws.{frames_flat, act_flat, tasks_flat, IsNoAnswer}
use Rattle.list_chains.specs.Values.{box_rows}
use Rattle.list_chains.specs.Ranked.{ranked, rule_of, answered, expanded}
use Rattle.list_chains.specs.Made.{Making, is_decided, rules_before, rows_made, act_made, made, first_tasks}
use Rattle.list_chains.specs.Laws.{TheRulesAnswerAsTheChains}
use Rattle.list_chains.proofs.Flattened.{IsLeave, first_append, leaves_after, rest_is_flat, flat_list_answers}
use Rattle.list_chains.proofs.BoxMeets.{box_meet_is_meet, in_wider_box}
use Rattle.list_chains.proofs.BoxRows.{expanded_is, in_whole}
use Rattle.list_chains.proofs.SameSteps.{steps_write_the_same, enter_is}
use Rattle.list_chains.proofs.Winners.{verdict_is_first}

-- a ranked list of two parts
pub ranked_append : (priority : ℕ) (xs ys : List (Entry (List FieldValue))) →
    ranked priority (xs ++ ys) ≡ ranked priority xs ++ ranked (priority - length xs) ys
ranked_append priority [] ys = let all : priority - 0 ≡ priority = omega arith in rw all refl
ranked_append priority (x ∷ xs) ys =
    let left : priority - 1 - length xs ≡ priority - suc (length xs) = omega arith in
    ap (λ rules. rule_of priority x.userdata x.box ∷ rules)
    (ranked_append (priority - 1) xs ys ∙ ap (λ n. ranked (priority - 1) xs ++ ranked n ys) left)

-- as many rows with an answer as without
pub length_answered : (userdata : ℕ) (rows : List (List FieldValue)) → length (answered userdata rows) ≡ length rows
length_answered userdata [] = refl
length_answered userdata (row ∷ rows) = ap (λ n. suc n) (length_answered userdata rows)

-- what rules before others are
pub record IsBefore (rules : List RuleView) (others : Result (List RuleView) LimitFault) (all : List RuleView)
    : Type 0 where
  pub rest : List RuleView
  pub made_rest : others ≡ Ok rest
  pub are : all ≡ rules ++ rest

-- rules before others are there if the others are
pub before_is : (rules : List RuleView) (others : Result (List RuleView) LimitFault) (all : List RuleView) →
    rules_before rules others ≡ Ok all → IsBefore rules others all
before_is rules (Ok others) all is = record { rest = others; made_rest = refl; are = cc }
before_is rules (Err fault) all is = absurd (cc)

module _ (layout : List FieldDef) (chains : Chains) (policy : ℕ) (key : List ℕ) where
  -- the key is in a box
  abbrev holds : List Span → Bool
  holds box = in_box layout box key

  -- the answer of what leaves a chain
  record Leaves (frames : List Frame) : Type 0 where
    answer : ℕ
    is : IsLeave holds (frames_flat chains policy frames) answer

  -- there is one
  frames_leave : (frames : List Frame) → Leaves frames
  frames_leave [] = record { answer = policy; is = λ b. refl }
  frames_leave (frame ∷ frames) =
      let rest = frames_leave frames in
      let rules = frame_rules chains frame in
      let decision : Option ℕ = rules_answer holds (chains_answer holds frame.depth chains) rules in
      record {
        answer = answer_or decision rest.answer;
        is = leaves_after holds (rules_flat box_meet (chains_flat box_meet frame.depth chains) rules) decision
            (frames_flat chains policy frames) rest.answer
            (rest_is_flat holds box_meet (box_meet_is_meet layout key) frame.depth chains rules) rest.is;
      }

  -- a task answers for no packets but those of its box
  pub act_outside : (act : Act) (box : List Span) (frames : List Frame) → holds box ≡ false →
      first_answer holds (act_flat chains policy act box frames) ≡ None
  act_outside (Follow frame) box frames e =
      let rest = frames_leave frames in
      (rest_is_flat holds box_meet (box_meet_is_meet layout key) frame.depth chains (frame_rules chains frame)).outside
      box (frames_flat chains policy frames) rest.answer rest.is e
  act_outside Leave box frames e = rw ((frames_leave frames).is box, e) refl
  act_outside (Answer userdata) box frames e = rw e refl

  -- a box that is decided has no key that isn't in the last one
  pub decided_outside : (last : Option (List Span)) (box : List Span) → is_decided last box ≡ true →
      holds_in holds last ≡ false → holds box ≡ false
  decided_outside None box is outside = absurd (cc)
  decided_outside (Some last) box is outside = elim (cases_Bool (holds box)) [
    | inl e ↦ absurd (let within = in_wider_box layout box last key is e in cc)
    | inr e ↦ e
  ]

  -- the rules are those of entries that answer as the tasks do, but for what is decided
  record Answers (room : ℕ) (last : Option (List Span)) (tasks : List TaskView) (rules : List RuleView) : Type 0 where
    entries : List (Entry (List Span))
    are : rules ≡ ranked room (expanded layout entries)
    first : holds_in holds last ≡ false →
        first_answer holds entries ≡ first_answer holds (tasks_flat chains policy tasks)

  -- after a task that is passed over
  passed_over : (room : ℕ) (last : Option (List Span)) (task : TaskView) (tasks : List TaskView)
      (rules : List RuleView) →
      is_decided last task.within ≡ true → Answers room last tasks rules → Answers room last (task ∷ tasks) rules
  passed_over room last task tasks rules is rest = record {
    entries = rest.entries;
    are = rest.are;
    first = λ outside.
        rest.first outside
        ∙ sym (first_append holds (act_flat chains policy task.act task.within task.frames)
        (tasks_flat chains policy tasks)
        ∙ rw (act_outside task.act task.within task.frames (decided_outside last task.within is outside)) refl);
  }

  -- after an answer
  written : (making : Making) (room userdata : ℕ) (last : Option (List Span)) (box : List Span) (frames : List Frame)
      (tasks : List TaskView) (rules : List RuleView) →
      ((room : ℕ) (rules : List RuleView) → making room (Some box) tasks ≡ Ok rules →
      Answers room (Some box) tasks rules) →
      rows_made making room userdata box tasks (box_rows layout box) ≡ Ok rules →
      Answers room last (record { act = Answer userdata; within = box; frames = frames } ∷ tasks) rules
  written making room userdata last box frames tasks rules goes_on is =
      let rows : List (List FieldValue) = box_rows layout box in
      elim (cases_Bool (ltb room (length rows))) [
        | inl above ↦ absurd (let fault = rw above at is in cc)
        | inr fits ↦
            let all = before_is (ranked room (answered userdata rows)) (making (room - length rows) (Some box) tasks)
            rules (rw fits at is) in
            let rest = goes_on (room - length rows) all.rest all.made_rest in
            record {
              entries = record { box = box; userdata = userdata } ∷ rest.entries;
              are = all.are ∙ ap (λ others. ranked room (answered userdata rows) ++ others) rest.are
                  ∙ sym (ranked_append room (answered userdata rows) (expanded layout rest.entries)
                  ∙ ap (λ n. ranked room (answered userdata rows) ++ ranked (room - n) (expanded layout rest.entries))
                  (length_answered userdata rows));
              first = λ outside. elim (cases_Bool (holds box)) [
                | inl e ↦ rw e refl
                | inr e ↦ rw e (rest.first e)
              ];
            }
      ]

  -- after another step
  stepped : (room : ℕ) (last : Option (List Span)) (act : Act) (box : List Span) (frames : List Frame)
      (tasks : List TaskView) (rules : List RuleView) → IsNoAnswer act →
      Answers room last (task_tasks chains policy act box frames tasks) rules →
      Answers room last (record { act = act; within = box; frames = frames } ∷ tasks) rules
  stepped room last act box frames tasks rules no_answer rest = record {
    entries = rest.entries;
    are = rest.are;
    first = λ outside. rest.first outside
        ∙ ap (first_answer holds) (steps_write_the_same chains policy act box frames tasks no_answer);
  }

  -- after any step
  after_act : (making : Making) (room : ℕ) (last : Option (List Span)) (act : Act) (box : List Span)
      (frames : List Frame) (tasks : List TaskView) (rules : List RuleView) →
      ((room : ℕ) (last : Option (List Span)) (tasks : List TaskView) (rules : List RuleView) →
      making room last tasks ≡ Ok rules → Answers room last tasks rules) →
      act_made layout chains policy making room last act box frames tasks ≡ Ok rules →
      Answers room last (record { act = act; within = box; frames = frames } ∷ tasks) rules
  after_act making room last (Follow frame) box frames tasks rules goes_on is =
      stepped room last (Follow frame) box frames tasks rules (λ userdata e. absurd (cc))
      (goes_on room last (task_tasks chains policy (Follow frame) box frames tasks) rules is)
  after_act making room last Leave box frames tasks rules goes_on is =
      stepped room last Leave box frames tasks rules (λ userdata e. absurd (cc))
      (goes_on room last (task_tasks chains policy Leave box frames tasks) rules is)
  after_act making room last (Answer userdata) box frames tasks rules goes_on is =
      written making room userdata last box frames tasks rules (λ r rs. goes_on r (Some box) tasks rs) is

  -- the rules that are made in so many steps
  made_answers : (steps room : ℕ) (last : Option (List Span)) (tasks : List TaskView) (rules : List RuleView) →
      made layout chains policy steps room last tasks ≡ Ok rules → Answers room last tasks rules
  unfolding made
  made_answers zero room last tasks rules is = absurd (cc)
  made_answers (suc steps) room last [] rules is =
      record { entries = []; are = cc; first = λ outside. refl }
  made_answers (suc steps) room last (task ∷ tasks) rules is = elim (cases_Bool (is_decided last task.within)) [
    | inl e ↦ passed_over room last task tasks rules e (made_answers steps room last tasks rules (rw e at is))
    | inr e ↦ after_act (made layout chains policy steps) room last task.act task.within task.frames tasks rules
        (made_answers steps) (rw e at is)
  ]

-- the rules of a chain that packets come to
pub rules_answer_as_the_chains : TheRulesAnswerAsTheChains
rules_answer_as_the_chains layout chains depth start policy steps rules key category bytes part is =
    let holds : List Span → Bool = λ box. in_box layout box key in
    let whole = whole_box layout in
    let it = made_answers layout chains policy key steps max_rules None (first_tasks depth start whole) rules is in
    let flat : tasks_flat chains policy (first_tasks depth start whole)
    ≡ flattened box_meet depth chains start policy whole =
    enter_is chains policy depth start whole [] (record { act = Leave; within = whole; frames = [] } ∷ []) in
    ap (λ rs. verdict layout rs key category) it.are
    ∙ verdict_is_first layout key category max_rules (expanded layout it.entries) part
    ∙ rw (
      expanded_is layout key it.entries bytes,
      it.first refl,
      flat,
      flat_list_answers holds box_meet (box_meet_is_meet layout key) depth chains start policy whole
          (in_whole layout key bytes),
    ) refl
