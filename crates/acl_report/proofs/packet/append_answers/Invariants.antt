-- So many of the answers have been written, each in the room for one.
use Rattle.std.proofs.Common.{◌≡◌, ◌+◌, ◌*◌, ◌≤◌, ◌++◌, map, take}
use Rattle.acl_report.specs.declared.packet.TheConstants.{VERDICT_ROOM}
use Rattle.acl_report.specs.Line.{spaced}
use Rattle.acl_report.specs.Packet.{answer_word}
use Rattle.acl_report.specs.Verdicts.{answers}
use Rattle.acl_report.proofs.packet.append_answers.Given as goal

abbrev pub invariant-loop-place : goal.invariant-loop-place
invariant-loop-place l = record {
  room : l.at ≤ l.start + l.place * VERDICT_ROOM;
  line : take l.at l.into ≡ take l.start l.fn.into
      ++ spaced (map answer_word (take l.place (answers l.verdicts l.dashes)));
}
