use Rattle.std.proofs.Common.{ℕ, List, map}
use Rattle.std.specs.Prelude.{string_bytes}
use Rattle.command_ending.proofs.Offered.{Ends-complete}
use Rattle.acl_tool.proofs.BenchTold.{bench_walks}
use Rattle.acl_tool.proofs.ClassifyTold.{classify_prints, classify_walks}
use Rattle.acl_tool.proofs.ClassifySized.{classify_sizes}
use Rattle.acl_tool.proofs.BuildTold.{build_makes}
use Rattle.acl_tool.proofs.ReplayTold.{replay_prints}
use Rattle.acl_tool.proofs.AuditTold.{audit_tells}
use Rattle.acl_tool.proofs.CompareTold.{compare_tells}
use Rattle.acl_tool.proofs.SessionTold.{session_tells}
use Rattle.acl_tool.proofs.tool.run.Goals as goal

pub returns : goal.returns
returns g c =
    let words : List (List ℕ) = map string_bytes c.args.words.now in
    let answers = c.answer-status.ensures in
    record {
      prints = classify_prints words _ _ c.answer-status.result answers;
      walks = classify_walks words _ _ c.answer-status.result answers;
      bench_walks = bench_walks words _ _ c.answer-status.result answers;
      sizes = classify_sizes words _ _ c.answer-status.result answers;
      builds = build_makes words _ _ c.answer-status.result answers;
      replays = replay_prints words _ _ c.answer-status.result answers;
      audits = audit_tells words _ _ c.answer-status.result answers;
      compares = compare_tells words _ _ c.answer-status.result answers;
      sessions = session_tells words _ _ c.answer-status.result answers;
      answers = answers;
      complete = Ends-complete _ _ _ c.answer-status.result answers.ends;
      message = c.put_message.ensures;
    }
