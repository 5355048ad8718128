-- Laws of desks that tell their files: each call keeps what was heard and what is left together.
use Rattle.std.specs.Prelude.{ℕ, List, Result, IsTrue}
use Rattle.std.specs.declared.vec.Vec.{Vec}
use Rattle.std.specs.declared.alloc.Global.{Global}
use Rattle.acl_outside.specs.Desk.{File, DeskView}
use Rattle.acl_outside.specs.Desk.{OpensFile, ReadsInto, CreatesFile, WritesPiece, FinishesFile}
use Rattle.acl_outside.specs.Memory.{desk_over, shown_desk}
use Rattle.acl_outside.specs.Together.{HoldsTogether}
use Rattle.acl_outside.specs.declared.desk.Failed.{Failed}
use Rattle.acl_outside.specs.declared.reading.ReadAll.{ReadAll}
use Rattle.acl_outside.specs.DeskReading.{ReadsUpTo}

-- A desk over memory begins so.
abbrev pub DesksBeginTogether : Type 0
DesksBeginTogether =
    (files : List File) (piece room : ℕ) (failing_reads failing_writes : List ℕ) →
    HoldsTogether (shown_desk (desk_over files piece room failing_reads failing_writes))

-- After an opening it is so.
abbrev pub OpeningsHoldTogether : Type 0
OpeningsHoldTogether =
    (name : List ℕ) (old new : DeskView) (result : Result (Unit {0}) Failed) →
    OpensFile name old new result → HoldsTogether new

-- After a read it is so where it was so before.
abbrev pub ReadsHoldTogether : Type 0
ReadsHoldTogether =
    (into_old into_new : List ℕ) (old new : DeskView) (result : Result ℕ Failed) →
    HoldsTogether old → ReadsInto into_old into_new old new result → HoldsTogether new

-- After a creation it is so.
abbrev pub CreationsHoldTogether : Type 0
CreationsHoldTogether =
    (name : List ℕ) (old new : DeskView) (result : Result (Unit {0}) Failed) →
    CreatesFile name old new result → HoldsTogether new

-- After a write it is so where it was so before.
abbrev pub WritesHoldTogether : Type 0
WritesHoldTogether =
    (piece : List ℕ) (old new : DeskView) (result : Result ℕ Failed) → HoldsTogether old →
    IsTrue old.writing → WritesPiece piece old new result → HoldsTogether new

-- After a finish it is so.
abbrev pub FinishesHoldTogether : Type 0
FinishesHoldTogether =
    (old new : DeskView) (result : Result (Unit {0}) Failed) → FinishesFile old new result →
    HoldsTogether new

-- After a file was read up to a cap it is so where it was so before, also after a read fault.
abbrev pub ReadingsHoldTogether : Type 0
ReadingsHoldTogether =
    (cap : ℕ) (old new : DeskView) (result : Result (Vec ℕ Global) ReadAll) → HoldsTogether old →
    ReadsUpTo cap old new result → HoldsTogether new
