-- How a command ends, and what it prints, as a function of its words and of the files that are
-- there.
use Rattle.std.specs.Prelude.{ℕ, List, Result, Ok, Err}
use Rattle.acl_outside.specs.Desk.{File}
use Rattle.command_words.specs.declared.usage_fault.UsageFault.{UsageFault}
use Rattle.command_words.specs.Command.{Request, Audit, Bench, Build, Classify, Compare, Replay}
use Rattle.command_words.specs.Command.{Session, command}
use Rattle.command_ending.specs.declared.status.Status.TheVariants.{Usage}
use Rattle.command_ending.specs.Plan.{Outcome, Plan, Stop, found, settled}
use Rattle.acl_tool.specs.ClassifyPlan.{classify_plan}
use Rattle.acl_tool.specs.BuildPlan.{build_plan}
use Rattle.acl_tool.specs.ReplayPlan.{replay_plan}
use Rattle.acl_tool.specs.BenchPlan.{bench_plan}
use Rattle.acl_tool.specs.AuditPlan.{audit_plan}
use Rattle.acl_tool.specs.ComparePlan.{compare_plan}
use Rattle.acl_tool.specs.SessionPlan.{session_plan}

-- what a command asks for, case by case
abbrev pub plan_of_request : Request → Plan Outcome
plan_of_request (Classify rules capture options) = classify_plan rules capture options
plan_of_request (Build rules image max_words) = build_plan rules image max_words
plan_of_request (Replay image capture options) = replay_plan image capture options
plan_of_request (Bench numbers) = bench_plan numbers
plan_of_request (Audit rules categories max_words) = audit_plan rules categories max_words
plan_of_request (Compare rules second max_words) = compare_plan rules second max_words
plan_of_request (Session script) = session_plan script

-- words that are no command ask for nothing
abbrev pub plan_of : Result Request UsageFault → Plan Outcome
plan_of (Ok request) = plan_of_request request
plan_of (Err fault) = Stop (Usage fault)

-- how the words end, and what they print, where these files are there
abbrev pub outcome : List (List ℕ) → List File → Outcome
outcome words files = settled (found (plan_of (command words)) files)
