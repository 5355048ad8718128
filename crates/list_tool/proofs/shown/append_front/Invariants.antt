-- The bytes so far.
use Rattle.std.proofs.Common.{◌≡◌, ◌+◌, ◌≤◌, ◌++◌, map, take}
use Rattle.list_tool.specs.Shown.{shown_byte}
use Rattle.list_tool.proofs.shown.append_front.Given as goal

-- so many of them are shown
abbrev pub invariant-loop-place : goal.invariant-loop-place
invariant-loop-place l = record {
  end : l.end ≤ l.at + l.place;
  line : take l.end l.into ≡ take l.at l.fn.into ++ map shown_byte (take l.place l.text);
}
