-- What a task leaves to do writes the same as the task.
use Rattle.std.proofs.Common.{◌≡◌, ℕ, zero, suc, ◌+◌, ◌-◌, List, [], ◌∷◌, ◌++◌, map, drop, length, get_or, ◌≤◌, false}
use Rattle.std.proofs.Common.{Option, Some, None, refl, sym, ap, ◌∙◌, arith}
use Rattle.std.proofs.Math.Dec.{eqb}
use Rattle.std.proofs.lemmas.Bool.Decides.{eqb_tells}
use Rattle.std.proofs.lemmas.List.{append_assoc}
use Rattle.list_chains.specs.declared.chain.Target.{Target}
use Rattle.list_chains.specs.declared.chain.Target.TheVariants.{Decide, Return, Jump, Go}
use Rattle.list_chains.specs.declared.span.Span.{Span}
use Rattle.list_chains.specs.declared.task.Frame.{Frame}
use Rattle.list_chains.specs.declared.task.Act.TheVariants.{Follow, Leave, Answer}
use Rattle.list_chains.specs.Spans.{box_meet}
use Rattle.list_chains.specs.Chains.{ListRule, at_or}
use Rattle.list_chains.specs.Flat.{Entry, Flat, no_entries, target_flat, shared, parts_flat, met_flat, rules_flat}
use Rattle.list_chains.specs.Flat.{chains_flat}
use Rattle.list_chains.specs.Tasks.{Chains, TaskView, frame_rules, next_frame, enter, target_tasks, parts_tasks}
use Rattle.list_chains.specs.Tasks.{met_tasks, rule_tasks, leave_tasks}
use Rattle.list_chains.specs.StepLaws.{frames_flat, tasks_flat, StepsWriteTheSame}

-- the element at a place is that of the list with another past its end
pub at_or_is : {A : Type 0} (xs : List A) (place : ℕ) (other : A) → at_or xs place other ≡ get_or xs place other
at_or_is [] place other = refl
at_or_is (x ∷ xs) zero other = refl
at_or_is (x ∷ xs) (suc place) other = at_or_is xs place other

-- past the end it is the other
pub at_or_past : {A : Type 0} (xs : List A) (place : ℕ) (other : A) → length xs ≤ place → at_or xs place other ≡ other
at_or_past [] place other past = refl
at_or_past (x ∷ xs) zero other past = absurd (omega (arith, past))
at_or_past (x ∷ xs) (suc place) other past = at_or_past xs place other (omega (arith, past))

-- one element less after some are left out
drop_next : {A : Type 0} (n : ℕ) (xs : List A) (x : A) (rest : List A) → drop n xs ≡ x ∷ rest → drop (n + 1) xs ≡ rest
drop_next zero [] x rest is = absurd (cc)
drop_next zero (y ∷ ys) x rest is = cc
drop_next (suc n) [] x rest is = absurd (cc)
drop_next (suc n) (y ∷ ys) x rest is =
    let e : suc n + 1 ≡ suc (n + 1) = omega arith in
    rw e (drop_next n ys x rest is)

module _ (chains : Chains) (policy : ℕ) where
  -- the rules of the chain of a place, flat
  chain_at : (flats : List (Flat (List Span))) (cs : Chains) (place : ℕ) (box : List Span)
      (leave : List Span → List (Entry (List Span))) →
      rules_flat box_meet flats (at_or cs place []) box leave
      ≡ at_or (map (rules_flat box_meet flats) cs) place no_entries box leave
  chain_at flats [] place box leave = refl
  chain_at flats (c ∷ cs) zero box leave = refl
  chain_at flats (c ∷ cs) (suc place) box leave = chain_at flats cs place box leave

  -- a chain that is entered writes its flat list
  pub enter_is : (depth place : ℕ) (met : List Span) (frames : List Frame) (tasks : List TaskView) →
      tasks_flat chains policy (enter depth place met frames tasks)
      ≡ at_or (chains_flat box_meet depth chains) place no_entries met (frames_flat chains policy frames)
      ++ tasks_flat chains policy tasks
  enter_is zero place met frames tasks = refl
  enter_is (suc depth) place met frames tasks =
      let some : eqb (suc depth) 0 ≡ false = grind (arith, eqb_tells (suc depth) 0) in
      let one_less : suc depth - 1 ≡ depth = omega arith in
      rw (some, one_less) (ap (λ entries. entries ++ tasks_flat chains policy tasks)
      (chain_at (chains_flat box_meet depth chains) chains place met (frames_flat chains policy frames)))

  -- a target writes its flat list
  target_is : (userdata : ℕ) (target : Target) (next : Frame) (frames : List Frame) (met : List Span)
      (tasks : List TaskView) →
      tasks_flat chains policy (target_tasks userdata target next frames met tasks)
      ≡ target_flat (chains_flat box_meet next.depth chains) userdata target
      (frames_flat chains policy (next ∷ frames)) (frames_flat chains policy frames) met
      ++ tasks_flat chains policy tasks
  target_is userdata Decide next frames met tasks = refl
  target_is userdata Return next frames met tasks = refl
  target_is userdata (Jump place) next frames met tasks = enter_is next.depth place met (next ∷ frames) tasks
  target_is userdata (Go place) next frames met tasks =
      enter_is next.depth place met frames (record { act = Leave; within = met; frames = frames } ∷ tasks)
      ∙ sym (append_assoc (at_or (chains_flat box_meet next.depth chains) place no_entries met
      (frames_flat chains policy frames)) (frames_flat chains policy frames met) (tasks_flat chains policy tasks))

  -- what is left out is written before the rest
  parts_is : (after : List Frame) (parts : List (List Span)) (rest : List (Entry (List Span)))
      (tasks all : List TaskView) →
      tasks_flat chains policy all ≡ rest ++ tasks_flat chains policy tasks →
      tasks_flat chains policy (parts_tasks after parts all)
      ≡ parts_flat (frames_flat chains policy after) parts rest ++ tasks_flat chains policy tasks
  parts_is after [] rest tasks all is = is
  parts_is after (part ∷ parts) rest tasks all is =
      parts_is after parts (frames_flat chains policy after part ++ rest) tasks
      (record { act = Leave; within = part; frames = after } ∷ all)
      (ap (λ entries. frames_flat chains policy after part ++ entries) is
      ∙ sym (append_assoc (frames_flat chains policy after part) rest (tasks_flat chains policy tasks)))

  -- what a rule does with a box writes its flat list
  met_is : (rule : ListRule (List Span)) (next : Frame) (frames : List Frame) (met : Option (List Span))
      (tasks : List TaskView) →
      tasks_flat chains policy (met_tasks rule next frames met tasks)
      ≡ met_flat box_meet (chains_flat box_meet next.depth chains) rule (frames_flat chains policy (next ∷ frames))
      (frames_flat chains policy frames) met
      ++ tasks_flat chains policy tasks
  met_is rule next frames None tasks = refl
  met_is rule next frames (Some met) tasks =
      parts_is (next ∷ frames) (shared box_meet met rule.but)
      (target_flat (chains_flat box_meet next.depth chains) rule.userdata rule.target
      (frames_flat chains policy (next ∷ frames)) (frames_flat chains policy frames) met)
      tasks (target_tasks rule.userdata rule.target next frames met tasks)
      (target_is rule.userdata rule.target next frames met tasks)

  -- the first of some rules, and those after it
  rule_is : (rules : List (ListRule (List Span))) (frame : Frame) (frames : List Frame) (box : List Span)
      (tasks : List TaskView) → frame_rules chains frame ≡ rules →
      tasks_flat chains policy (rule_tasks rules (next_frame frame) frames box tasks)
      ≡ rules_flat box_meet (chains_flat box_meet frame.depth chains) rules box (frames_flat chains policy frames)
      ++ tasks_flat chains policy tasks
  rule_is [] frame frames box tasks is = refl
  rule_is (rule ∷ rules) frame frames box tasks is =
      let next = next_frame frame in
      let left : frame_rules chains next ≡ rules = drop_next frame.rule (at_or chains frame.chain []) rule rules is in
      let leave = frames_flat chains policy frames in
      let flats = chains_flat box_meet frame.depth chains in
      met_is rule next frames (box_meet box rule.inside)
      (record { act = Follow next; within = box; frames = frames } ∷ tasks)
      ∙ ap (λ rs. met_flat box_meet flats rule (λ m. rules_flat box_meet flats rs m leave ++ leave m) leave
      (box_meet box rule.inside) ++ (rules_flat box_meet flats rs box leave ++ tasks_flat chains policy tasks)) left
      ∙ sym (append_assoc
      (met_flat box_meet flats rule (λ m. rules_flat box_meet flats rules m leave ++ leave m) leave
      (box_meet box rule.inside))
      (rules_flat box_meet flats rules box leave) (tasks_flat chains policy tasks))

  -- what leaves a chain
  leave_is : (frames : List Frame) (box : List Span) (tasks : List TaskView) →
      tasks_flat chains policy (leave_tasks policy frames box tasks)
      ≡ frames_flat chains policy frames box ++ tasks_flat chains policy tasks
  leave_is [] box tasks = refl
  leave_is (frame ∷ frames) box tasks =
      sym (append_assoc
      (rules_flat box_meet (chains_flat box_meet frame.depth chains) (frame_rules chains frame) box
      (frames_flat chains policy frames))
      (frames_flat chains policy frames box) (tasks_flat chains policy tasks))

-- each act but an answer
pub steps_write_the_same : StepsWriteTheSame
steps_write_the_same chains policy (Follow frame) box frames tasks no_answer =
    rule_is chains policy (frame_rules chains frame) frame frames box tasks refl
steps_write_the_same chains policy Leave box frames tasks no_answer = leave_is chains policy frames box tasks
steps_write_the_same chains policy (Answer userdata) box frames tasks no_answer = absurd (no_answer userdata refl)
