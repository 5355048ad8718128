-- Examples of plans that were followed, each checked by evaluation: which openings they allow, and
-- the outcome of what was heard.
use Rattle.std.specs.Prelude.{◌≡◌, ℕ, List, [], ◌∷◌, Option, Some, None, ⊤, codes, refl}
use Rattle.std.proofs.Common.{inl, inr, subst}
use Rattle.std.specs.Fmt.{digits}
use Rattle.acl_outside.specs.Desk.{File}
use Rattle.acl_outside.specs.Heard.{Heard, Ending, NotOpened, GoesOn, Ended, BrokenOff}
use Rattle.command_ending.specs.declared.status.Status.TheVariants.{Done, RulesRefused, ReadFault}
use Rattle.command_ending.specs.declared.status.Status.TheVariants.{OutOfMemory}
use Rattle.classbench_reader.specs.declared.rules_fault.LineKind.TheVariants.{BadStart}
use Rattle.rule_split.specs.Split as split
use Rattle.pcap_reader.specs.StartExamples.{ethernet_header}
use Rattle.command_words.specs.Options.{none_given, settled_options}
use Rattle.command_words.specs.Command.{Classify}
use Rattle.command_ending.specs.Plan.{Outcome, Plan, printed, silent}
use Rattle.command_ending.specs.Follow.{Given, Stopped, Before, Within, IsOneOf, Follows, outcome_of}
use Rattle.acl_tool.specs.Outcome.{plan_of_request}

-- a `classify` of the files r and c
abbrev classify : Plan Outcome
classify = plan_of_request (Classify (codes "r") (codes "c") (settled_options none_given))

abbrev rules_file : List ℕ → Ending → Heard
rules_file bytes ending = record { name = codes "r"; bytes = bytes; ending = ending }

abbrev capture_file : List ℕ → Ending → Heard
capture_file bytes ending = record { name = codes "c"; bytes = bytes; ending = ending }

abbrev IsUntold : Option (List File) → Type 0
IsUntold None = ⊤
IsUntold (Some files) = ⊥

-- where no file is told, any opening may be one
untold : (file : Heard) → IsOneOf None file
untold file files told opened = absurd (subst IsUntold told tt)

-- both files were read to their ends, in this order
whole : Follows None classify [] (capture_file ethernet_header Ended ∷ rules_file [] Ended ∷ [])
    (Given (printed Done (codes "packets 0 ip4 0 ip6 0 other 0 short 0\n") 0))
unfolding digits split.total_of split.groups_of split.groups_by split.turns split.turn
whole =
    inr (
      rules_file [] Ended,
      refl,
      untold (rules_file [] Ended),
      inr (
        inl refl,
        inr (
          capture_file ethernet_header Ended,
          refl,
          untold
              (capture_file ethernet_header Ended),
          inr (inl refl, (refl, refl)),
        ),
      ),
    )

-- a refused rule file ends the command before the capture is opened
refused : Follows None classify [] (rules_file (120 ∷ []) Ended ∷ [])
    (Stopped (RulesRefused (record { line = 1; kind = BadStart })))
refused = inr (
  rules_file (120 ∷ []) Ended,
  refl,
  untold (rules_file (120 ∷ []) Ended),
  inr
      (inl refl, (refl, refl)),
)

-- the rule file couldn't be opened
absent : Follows None classify [] (rules_file [] NotOpened ∷ [])
    (Within (rules_file [] NotOpened) [])
absent = inr (rules_file [] NotOpened, refl, untold (rules_file [] NotOpened), inl (refl, refl))

-- the capture broke off
broken : Follows None classify [] (capture_file (0xD4 ∷ []) BrokenOff ∷ rules_file [] Ended ∷ [])
    (Within (capture_file (0xD4 ∷ []) BrokenOff) [])
unfolding split.total_of split.groups_of split.groups_by split.turns split.turn
broken =
    inr (
      rules_file [] Ended,
      refl,
      untold (rules_file [] Ended),
      inr (
        inl refl,
        inr (
          capture_file (0xD4 ∷ []) BrokenOff,
          refl,
          untold
              (capture_file (0xD4 ∷ []) BrokenOff),
          inl (refl, refl),
        ),
      ),
    )

-- nothing was asked yet
nothing_asked : Follows None classify [] [] (Before (codes "r"))
nothing_asked = inl (refl, refl)

outcome_of_absent : outcome_of (Within (rules_file [] NotOpened) []) ≡ silent ReadFault
outcome_of_absent = refl

outcome_of_broken : outcome_of (Within (capture_file (0xD4 ∷ []) BrokenOff) []) ≡ silent ReadFault
outcome_of_broken = refl

-- within a file that goes on only want of memory ends a command
outcome_of_unfinished : outcome_of (Within (capture_file (0xD4 ∷ []) GoesOn) [])
    ≡ silent OutOfMemory
outcome_of_unfinished = refl
