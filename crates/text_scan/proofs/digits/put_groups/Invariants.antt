use Rattle.std.proofs.Common.{false, take, map}
use Rattle.std.specs.Fmt.{digits}
use Rattle.std.specs.List.{join_with_byte}
use Rattle.list_lemmas.proofs.Texts.{Holds}
use Rattle.text_scan.proofs.digits.put_groups.Given as goal

-- the groups so far stand at the beginning, and what is after them is as it was
abbrev pub invariant-loop-place : goal.invariant-loop-place
invariant-loop-place l =
    Holds l.into l.initial.into (join_with_byte l.separator (take l.place (map (digits l.base false) l.groups))) l.len
