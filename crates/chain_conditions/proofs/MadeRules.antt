-- The rules that are made answer in each category as the tasks do, and so as the flat list.
use Rattle.std.proofs.Common.{◌≡◌, ℕ, zero, suc, ◌-◌, List, [], ◌∷◌, ◌++◌}
use Rattle.std.proofs.Common.{map, filter, Bool, true, false, length, ◌&&◌}
use Rattle.std.proofs.Common.{Option, Some, None, Ok, refl, sym}
use Rattle.std.proofs.Common.{ap, ◌∙◌, inl, inr, arith, ltb, nat_lt, if◌then◌else◌}
use Rattle.std.specs.List.{list_all}
use Rattle.std.specs.Int.{bit_at}
use Rattle.std.specs.Option.{option_map}
use Rattle.std.proofs.lemmas.Bool.{cases_Bool, and_parts, and_from}
use Rattle.std.proofs.lemmas.List.Elements.{filter-append}
use Rattle.std.proofs.lemmas.List.Folds.{list_all-append}
use Rattle.field_defs.specs.declared.field.FieldDef.{FieldDef}
use Rattle.field_defs.specs.declared.field.FieldValue.{FieldValue}
use Rattle.rule_set.specs.Rule.{RuleView}
use Rattle.rule_set.specs.Winner.{verdict}
use Rattle.table_sizes.specs.Sizes.{max_rules}
use Rattle.list_chains.specs.declared.span.Span.{Span}
use Rattle.list_chains.specs.declared.task.Frame.{Frame}
use Rattle.list_chains.specs.declared.task.Act.{Act}
use Rattle.list_chains.specs.declared.task.Act.TheVariants.{Follow, Leave, Answer}
use Rattle.list_chains.specs.Spans.{in_span, before, box_meet, in_box, whole_box}
use Rattle.list_chains.specs.Chains.{answer_or, or_answer}
use Rattle.list_chains.specs.Flat.{Entry, first_answer}
use Rattle.list_chains.specs.FlatLaws.{holds_in}
use Rattle.list_chains.specs.Tasks.{Chains, TaskView, task_tasks}
use Rattle.list_chains.specs.StepLaws.{act_flat, tasks_flat, IsNoAnswer}
use Rattle.list_chains.specs.Values.{box_rows}
use Rattle.list_chains.specs.Ranked.{every_category}
use Rattle.list_chains.specs.Made.{Making, is_decided, first_tasks}
use Rattle.list_chains.proofs.Offered.{first_append}
use Rattle.list_chains.proofs.Offered.{steps_write_the_same, enter_is}
use Rattle.list_chains.proofs.Offered.{before_is, act_outside, decided_outside}
use Rattle.chain_conditions.specs.declared.kind.AnswerKind.{AnswerKind}
use Rattle.chain_conditions.specs.Conditions.{Conditional, under, conditional_meet, surely}
use Rattle.chain_conditions.specs.Conditions.{takes_part, category}
use Rattle.chain_conditions.specs.Laws.{ConditionalChains, conditional_list, category_answer}
use Rattle.chain_conditions.specs.Kinds.{is_of, masks_of}
use Rattle.chain_conditions.specs.Marked.{mark_of, mark_def, marked, marked_chains}
use Rattle.chain_conditions.specs.Marked.{is_sure_box, unmarked_spans, unmarked, over_box}
use Rattle.chain_conditions.specs.Ruled.{mask_of, masked_rule, masked, under_rows, conditional_rows}
use Rattle.chain_conditions.specs.Made.{box_mask, tagged, last_sure, rows_made, act_made, made}
use Rattle.chain_conditions.proofs.Homs.{KeepsMeet, flat_alike}
use Rattle.chain_conditions.proofs.Ruled.{verdict_is_category}
use Rattle.chain_conditions.proofs.Turnings.{tagged_rule}

-- the entry of a box with a mark
abbrev entry_of : Entry (List Span) → Entry (Conditional (List Span))
entry_of entry = over_box unmarked entry

-- the mask of a box's rules is that of its entry
mask_is : (masks : ℕ → ℕ) (userdata : ℕ) (box : List Span) →
    box_mask masks userdata box ≡ mask_of masks (entry_of (record { box = box; userdata = userdata }))
mask_is masks userdata box = elim (cases_Bool (is_sure_box box)) [
  | inl e ↦ rw e refl
  | inr e ↦ rw e refl
]

-- the rows of a box with a mark are rules of its entry
tagged_masked : (masks : ℕ → ℕ) (priority userdata : ℕ) (box : List Span) (rows : List (List FieldValue)) →
    tagged priority (box_mask masks userdata box) userdata rows
    ≡ masked masks priority (under_rows (entry_of (record { box = box; userdata = userdata })) rows)
tagged_masked masks priority userdata box [] = refl
tagged_masked masks priority userdata box (row ∷ rows) =
    (λ i. tagged_rule priority (mask_is masks userdata box i) userdata row
    ∷ tagged_masked masks (priority - 1) userdata box rows i)

-- rules of two parts of a list
masked_append : (masks : ℕ → ℕ) (priority : ℕ) (xs ys : List (Entry (Conditional (List FieldValue)))) →
    masked masks priority (xs ++ ys) ≡ masked masks priority xs ++ masked masks (priority - length xs) ys
masked_append masks priority [] ys = let all : priority - 0 ≡ priority = omega arith in rw all refl
masked_append masks priority (x ∷ xs) ys =
    let left : priority - 1 - length xs ≡ priority - suc (length xs) = omega arith in
    ap (λ rules. masked_rule masks priority x ∷ rules)
    (masked_append masks (priority - 1) xs ys
    ∙ ap (λ n. masked masks (priority - 1) xs ++ masked masks n ys) left)

-- as many rows under conditions as without
length_under : (entry : Entry (Conditional (List Span))) (rows : List (List FieldValue)) →
    length (under_rows entry rows) ≡ length rows
length_under entry [] = refl
length_under entry (row ∷ rows) = ap (λ n. suc n) (length_under entry rows)

-- where no entry holds, none of some of them does
none_of : {B : Type 0} (holds : B → Bool) (test : Entry B → Bool) (entries : List (Entry B)) →
    first_answer holds entries ≡ None → first_answer holds (filter test entries) ≡ None
none_of holds test [] e = refl
none_of holds test (x ∷ xs) e = elim (cases_Bool (holds x.box)) [
  | inl h ↦ absurd (let some : Some x.userdata ≡ None = sym (rw h refl) ∙ e in cc)
  | inr h ↦
      let rest = none_of holds test xs (sym (rw h refl) ∙ e) in
      elim (cases_Bool (test x)) [
        | inl t ↦ rw (t, h) rest
        | inr t ↦ rw t rest
      ]
]

module _ (layout : List FieldDef) (masks : ℕ → ℕ) (chains : Chains) (policy : ℕ) (key : List ℕ) (test : ℕ → Bool)
  where
    -- the key is in a box with a mark
    abbrev holds : List Span → Bool
    holds box = in_box (mark_def ∷ layout) box (0 ∷ key)

    -- the entries that take part in a category
    abbrev parts : List (Entry (List Span)) → List (Entry (List Span))
    parts entries = filter (λ entry. takes_part test (entry_of entry)) entries

    -- the rules are those of entries of the tasks that answer in the category as the tasks do, but for
    -- what is decided
    record Answers (room : ℕ) (last : Option (List Span)) (tasks : List TaskView) (rules : List RuleView) : Type 0 where
      entries : List (Entry (List Span))
      are : rules ≡ masked masks room (conditional_rows layout (map entry_of entries))
      some : (passes : Entry (List Span) → Bool) → list_all passes (tasks_flat chains policy tasks) ≡ true →
          list_all passes entries ≡ true
      first : holds_in holds last ≡ false →
          first_answer holds (parts entries) ≡ first_answer holds (parts (tasks_flat chains policy tasks))

    -- the entries of a task before others
    parts_append : (xs ys : List (Entry (List Span))) →
        first_answer holds (parts (xs ++ ys)) ≡ or_answer (first_answer holds (parts xs))
        (first_answer holds (parts ys))
    parts_append xs ys =
        ap (first_answer holds) (filter-append (λ entry. takes_part test (entry_of entry)) xs ys)
        ∙ first_append holds (parts xs) (parts ys)

    -- all of a task and of others
    all_after : (passes : Entry (List Span) → Bool) (xs ys : List (Entry (List Span))) →
        list_all passes (xs ++ ys) ≡ true → list_all passes ys ≡ true
    all_after passes xs ys all =
        (and_parts (list_all passes xs) (list_all passes ys) (sym (list_all-append passes xs ys) ∙ all)).1

    -- after a task that is passed over
    passed_over : (room : ℕ) (last : Option (List Span)) (task : TaskView) (tasks : List TaskView)
        (rules : List RuleView) →
        is_decided last task.within ≡ true → Answers room last tasks rules → Answers room last (task ∷ tasks) rules
    passed_over room last task tasks rules is rest =
        let flat : List (Entry (List Span)) = act_flat chains policy task.act task.within task.frames in
        let others : List (Entry (List Span)) = tasks_flat chains policy tasks in
        record {
          entries = rest.entries;
          are = rest.are;
          some = λ passes all. rest.some passes (all_after passes flat others all);
          first = λ outside.
              rest.first outside
              ∙ sym (parts_append flat others
              ∙ rw (none_of holds (λ entry. takes_part test (entry_of entry)) flat
              (act_outside (mark_def ∷ layout) chains policy (0 ∷ key) task.act task.within task.frames
              (decided_outside (mark_def ∷ layout) chains policy (0 ∷ key) last task.within is outside))) refl);
        }

    -- an entry of the category that holds
    caught : (entry : Entry (List Span)) (xs ys : List (Entry (List Span))) → takes_part test (entry_of entry) ≡ true →
        holds entry.box ≡ true →
        first_answer holds (parts (entry ∷ xs)) ≡ first_answer holds (parts (entry ∷ ys))
    caught entry xs ys t h = rw (t, h) refl

    -- any other
    missed : (entry : Entry (List Span)) (xs ys : List (Entry (List Span))) →
        (takes_part test (entry_of entry) && holds entry.box) ≡ false →
        first_answer holds (parts xs) ≡ first_answer holds (parts ys) →
        first_answer holds (parts (entry ∷ xs)) ≡ first_answer holds (parts (entry ∷ ys))
    missed entry xs ys e same = elim (cases_Bool (takes_part test (entry_of entry))) [
      | inl t ↦ elim (cases_Bool (holds entry.box)) [
        | inl h ↦ caught entry xs ys t h
        | inr h ↦ rw (t, h) same
      ]
      | inr t ↦ rw t same
    ]

    -- a box that isn't the last one, or has no key that is left
    last_outside : (last : Option (List Span)) (userdata : ℕ) (box : List Span) →
        (takes_part test (entry_of (record { box = box; userdata = userdata })) && holds box) ≡ false →
        holds_in holds last ≡ false → holds_in holds (last_sure last box) ≡ false
    last_outside last userdata box e outside = elim (cases_Bool (is_sure_box box)) [
      | inl s ↦ rw s (sym (rw s refl) ∙ e)
      | inr s ↦ rw s outside
    ]

    -- after an answer
    written : (making : Making) (room userdata : ℕ) (last : Option (List Span)) (box : List Span) (frames : List Frame)
        (tasks : List TaskView) (rules : List RuleView) →
        ((room : ℕ) (rules : List RuleView) → making room (last_sure last box) tasks ≡ Ok rules →
        Answers room (last_sure last box) tasks rules) →
        rows_made making room (box_mask masks userdata box) userdata last box tasks
        (box_rows layout (unmarked_spans box)) ≡ Ok rules →
        Answers room last (record { act = Answer userdata; within = box; frames = frames } ∷ tasks) rules
    written making room userdata last box frames tasks rules goes_on is =
        let rows : List (List FieldValue) = box_rows layout (unmarked_spans box) in
        let mask = box_mask masks userdata box in
        let entry : Entry (List Span) = record { box = box; userdata = userdata } in
        let its : List (Entry (Conditional (List FieldValue))) = under_rows (entry_of entry) rows in
        elim (cases_Bool (ltb room (length rows))) [
          | inl above ↦ absurd (let fault = rw above at is in cc)
          | inr fits ↦
              let all = before_is (tagged room mask userdata rows)
              (making (room - length rows) (last_sure last box) tasks) rules (rw fits at is) in
              let rest = goes_on (room - length rows) all.rest all.made_rest in
              let others : List (Entry (Conditional (List FieldValue))) =
              conditional_rows layout (map entry_of rest.entries) in
              record {
                entries = entry ∷ rest.entries;
                are = all.are
                    ∙ (λ i. tagged_masked masks room userdata box rows i ++ rest.are i)
                    ∙ sym (masked_append masks room its others
                    ∙ ap (λ n. masked masks room its ++ masked masks (room - n) others)
                    (length_under (entry_of entry) rows));
                some = λ passes every.
                    let both = and_parts (passes entry) (list_all passes (tasks_flat chains policy tasks)) every in
                    and_from (passes entry) (list_all passes rest.entries) both.0 (rest.some passes both.1);
                first = λ outside. elim (cases_Bool (takes_part test (entry_of entry) && holds box)) [
                  | inl e ↦
                      let both = and_parts (takes_part test (entry_of entry)) (holds box) e in
                      caught entry rest.entries (tasks_flat chains policy tasks) both.0 both.1
                  | inr e ↦ missed entry rest.entries (tasks_flat chains policy tasks) e
                      (rest.first (last_outside last userdata box e outside))
                ];
              }
        ]

    -- after another step
    stepped : (room : ℕ) (last : Option (List Span)) (act : Act) (box : List Span) (frames : List Frame)
        (tasks : List TaskView) (rules : List RuleView) → IsNoAnswer act →
        Answers room last (task_tasks chains policy act box frames tasks) rules →
        Answers room last (record { act = act; within = box; frames = frames } ∷ tasks) rules
    stepped room last act box frames tasks rules no_answer rest =
        let same = steps_write_the_same chains policy act box frames tasks no_answer in
        record {
          entries = rest.entries;
          are = rest.are;
          some = λ passes all. rest.some passes (ap (list_all passes) same ∙ all);
          first = λ outside. rest.first outside ∙ ap (λ entries. first_answer holds (parts entries)) same;
        }

    -- after any step
    after_act : (making : Making) (room : ℕ) (last : Option (List Span)) (act : Act) (box : List Span)
        (frames : List Frame) (tasks : List TaskView) (rules : List RuleView) →
        ((room : ℕ) (last : Option (List Span)) (tasks : List TaskView) (rules : List RuleView) →
        making room last tasks ≡ Ok rules → Answers room last tasks rules) →
        act_made layout masks chains policy making room last act box frames tasks ≡ Ok rules →
        Answers room last (record { act = act; within = box; frames = frames } ∷ tasks) rules
    after_act making room last (Follow frame) box frames tasks rules goes_on is =
        stepped room last (Follow frame) box frames tasks rules (λ userdata e. absurd (cc))
        (goes_on room last (task_tasks chains policy (Follow frame) box frames tasks) rules is)
    after_act making room last Leave box frames tasks rules goes_on is =
        stepped room last Leave box frames tasks rules (λ userdata e. absurd (cc))
        (goes_on room last (task_tasks chains policy Leave box frames tasks) rules is)
    after_act making room last (Answer userdata) box frames tasks rules goes_on is =
        written making room userdata last box frames tasks rules (λ r rs. goes_on r (last_sure last box) tasks rs) is

    -- the rules that are made in so many steps
    made_answers : (steps room : ℕ) (last : Option (List Span)) (tasks : List TaskView) (rules : List RuleView) →
        made layout masks chains policy steps room last tasks ≡ Ok rules → Answers room last tasks rules
    unfolding made
    made_answers zero room last tasks rules is = absurd (cc)
    made_answers (suc steps) room last [] rules is =
        record { entries = []; are = cc; some = λ passes all. refl; first = λ outside. refl }
    made_answers (suc steps) room last (task ∷ tasks) rules is = elim (cases_Bool (is_decided last task.within)) [
      | inl e ↦ passed_over room last task tasks rules e (made_answers steps room last tasks rules (rw e at is))
      | inr e ↦ after_act (made layout masks chains policy steps) room last task.act task.within task.frames tasks rules
          (made_answers steps) (rw e at is)
    ]

-- the mark of no condition before a box that may be there
sure_mark : (met : Option (List Span)) →
    before (mark_of []) met ≡ option_map marked (under [] met)
sure_mark None = refl
sure_mark (Some met) = refl

-- that of some condition
other_mark : (x : ℕ) (xs : List ℕ) (met : Option (List Span)) →
    before (mark_of (x ∷ xs)) met ≡ option_map marked (under (x ∷ xs) met)
other_mark x xs None = refl
other_mark x xs (Some met) = refl

-- what two boxes have in common has the mark of the conditions of both
marks_keep : KeepsMeet marked (conditional_meet box_meet) box_meet
marks_keep one other = go one.conditions other.conditions
  where
    go : (ones others : List ℕ) →
        box_meet (mark_of ones ∷ one.box) (mark_of others ∷ other.box)
        ≡ option_map marked (under (ones ++ others) (box_meet one.box other.box))
    go [] [] = sure_mark (box_meet one.box other.box)
    go [] (y ∷ ys) = other_mark y ys (box_meet one.box other.box)
    go (x ∷ xs) [] = other_mark x (xs ++ []) (box_meet one.box other.box)
    go (x ∷ xs) (y ∷ ys) = other_mark x (xs ++ y ∷ ys) (box_meet one.box other.box)

-- the number 0 is in the mark of a box
abbrev starts_box : List Span → Bool
starts_box [] = false
starts_box (mark ∷ spans) = in_span mark 0

abbrev starts : Entry (List Span) → Bool
starts entry = starts_box entry.box

-- as it is in each mark of conditions
mark_starts : (conditions : List ℕ) (rest : Bool) → rest ≡ true → (in_span (mark_of conditions) 0 && rest) ≡ true
mark_starts [] rest e = e
mark_starts (x ∷ xs) rest e = e

all_start : (entries : List (Entry (Conditional (List Span)))) →
    list_all starts (map (over_box marked) entries) ≡ true
all_start [] = refl
all_start (entry ∷ entries) =
    mark_starts entry.box.conditions (list_all starts (map (over_box marked) entries)) (all_start entries)

-- an entry before others of a category
entry_back : (test : ℕ → Bool) (box : List Span) (conditions : List ℕ) (userdata : ℕ)
    (xs ys : List (Entry (Conditional (List Span)))) → category test xs ≡ category test ys →
    category test (entry_of (record { box = mark_of conditions ∷ box; userdata = userdata }) ∷ xs)
    ≡ category test (record { box = record { box = box; conditions = conditions }; userdata = userdata } ∷ ys)
entry_back test box [] userdata xs ys same = ap (λ entries. record { box = box; userdata = userdata } ∷ entries) same
entry_back test box (c ∷ cs) userdata xs ys same = elim (cases_Bool (test userdata)) [
  | inl t ↦ rw t (ap (λ entries. record { box = box; userdata = userdata } ∷ entries) same)
  | inr t ↦ rw t same
]

-- a mark is as good as the conditions
category_back : (test : ℕ → Bool) (entries : List (Entry (Conditional (List Span)))) →
    category test (map entry_of (map (over_box marked) entries)) ≡ category test entries
category_back test [] = refl
category_back test (entry ∷ entries) =
    entry_back test entry.box.box entry.box.conditions entry.userdata (map entry_of (map (over_box marked) entries))
    entries (category_back test entries)

-- an answer before another
abbrev first_of : Bool → ℕ → Option ℕ → Option ℕ
first_of here userdata rest = if here then Some userdata else rest

module _ (layout : List FieldDef) (masks : ℕ → ℕ) (chains : Chains) (policy : ℕ) (key : List ℕ) (test : ℕ → Bool)
  where
    -- the key is in a box with a mark if it is in the spans after it
    in_marked : (box : List Span) → starts_box box ≡ true →
        in_box (mark_def ∷ layout) box (0 ∷ key) ≡ in_box layout (unmarked_spans box) key
    in_marked [] s = absurd (cc)
    in_marked (mark ∷ spans) s = rw s refl

    -- the category of entries of boxes with marks
    category_is : (entries : List (Entry (List Span))) → list_all starts entries ≡ true →
        first_answer (λ box. in_box layout box key) (category test (map entry_of entries))
        ≡ first_answer (holds layout masks chains policy key test) (parts layout masks chains policy key test entries)
    category_is [] all = refl
    category_is (entry ∷ entries) all =
        let both = and_parts (starts entry) (list_all starts entries) all in
        let rest = category_is entries both.1 in
        elim (cases_Bool (takes_part test (entry_of entry))) [
          | inl t ↦ rw t (λ i. first_of (sym (in_marked entry.box both.0) i) entry.userdata (rest i))
          | inr t ↦ rw t rest
        ]

-- the rules of a chain that packets come to, in each category
pub rules_of_categories : (layout : List FieldDef) (kinds : List AnswerKind) (chains : ConditionalChains (List Span))
    (depth start policy steps : ℕ) (rules : List RuleView) (key : List ℕ) (number : ℕ) →
    list_all (λ byte. nat_lt byte 256) key ≡ true → bit_at every_category number ≡ 1 →
    made layout (masks_of kinds) (marked_chains chains) policy steps max_rules None
    (first_tasks depth start (whole_box (mark_def ∷ layout))) ≡ Ok rules →
    verdict layout rules key number
    ≡ category_answer (λ box. in_box layout box key) (is_of kinds number)
    (conditional_list box_meet depth chains start policy (whole_box layout))
rules_of_categories layout kinds chains depth start policy steps rules key number bytes part is =
    let masks : ℕ → ℕ = masks_of kinds in
    let test : ℕ → Bool = is_of kinds number in
    let marks : Chains = marked_chains chains in
    let whole : List Span = whole_box (mark_def ∷ layout) in
    let it = made_answers layout masks marks policy key test steps max_rules None (first_tasks depth start whole) rules
    is in
    let list : List (Entry (Conditional (List Span))) =
    conditional_list box_meet depth chains start policy (whole_box layout) in
    let flat : tasks_flat marks policy (first_tasks depth start whole) ≡ map (over_box marked) list =
    enter_is marks policy depth start whole [] (record { act = Leave; within = whole; frames = [] } ∷ [])
    ∙ flat_alike marked (conditional_meet box_meet) box_meet marks_keep depth chains start policy
    (surely (whole_box layout)) in
    let held : List Span → Bool = λ box. in_box layout box key in
    let start_so = it.some starts (ap (list_all starts) flat ∙ all_start list) in
    let answers : first_answer held (category test (map entry_of it.entries)) ≡ first_answer held (category test list) =
    category_is layout masks marks policy key test it.entries start_so
    ∙ it.first refl
    ∙ ap (λ entries. first_answer (holds layout masks marks policy key test)
    (parts layout masks marks policy key test entries)) flat
    ∙ sym (category_is layout masks marks policy key test (map (over_box marked) list) (all_start list))
    ∙ ap (first_answer held) (category_back test list) in
    ap (λ rs. verdict layout rs key number) it.are
    ∙ verdict_is_category layout key masks number test (λ answer. refl) part bytes max_rules (map entry_of it.entries)
    ∙ ap (λ answer. answer_or answer 0) answers
