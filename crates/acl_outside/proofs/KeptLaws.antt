-- What calls of a desk leave as it is.
use Rattle.std.proofs.Common.{ℕ, List, Result, refl, ap, ◌∙◌, arith}
use Rattle.acl_outside.specs.Desk.{DeskView, KeepsCounts, OpensFile, ReadsInto, CreatesFile, WritesPiece, FinishesFile}
use Rattle.acl_outside.specs.Heard.{KeepsHeard, heard}
use Rattle.acl_outside.specs.Made.{KeepsMade, made}

-- no count fell where nothing was asked
pub KeepsCounts-same : (view : DeskView) → KeepsCounts view view
KeepsCounts-same view = record {
  read_faults = omega arith;
  absent = omega arith;
  write_faults = omega arith;
}

-- no count fell, and then none again
pub KeepsCounts-join : (old mid new : DeskView) → KeepsCounts old mid → KeepsCounts mid new → KeepsCounts old new
KeepsCounts-join old mid new a b = record {
  read_faults = omega (arith, a.read_faults, b.read_faults);
  absent = omega (arith, a.absent, b.absent);
  write_faults = omega (arith, a.write_faults, b.write_faults);
}

-- nothing was made where nothing was asked
pub KeepsMade-same : (view : DeskView) → KeepsMade view view
KeepsMade-same view = record { made = refl; write_faults = refl }

-- nothing was made, and then nothing again
pub KeepsMade-join : (old mid new : DeskView) → KeepsMade old mid → KeepsMade mid new → KeepsMade old new
KeepsMade-join old mid new a b = record { made = b.made ∙ a.made; write_faults = b.write_faults ∙ a.write_faults }

-- an opening makes nothing
pub KeepsMade-opening : {T E : Type 0} (name : List ℕ) (result : Result T E) (old new : DeskView) →
    OpensFile name old new result → KeepsMade old new
KeepsMade-opening name result old new opens = record {
  made = ap made opens.answer;
  write_faults = opens.write_faults;
}

-- a read makes nothing
pub KeepsMade-read : {E : Type 0} (into_old into_new : List ℕ) (result : Result ℕ E) (old new : DeskView) →
    ReadsInto into_old into_new old new result → KeepsMade old new
KeepsMade-read into_old into_new result old new read = record {
  made = ap made read.answer;
  write_faults = read.write_faults;
}

-- nothing was heard where nothing was asked
pub KeepsHeard-same : (view : DeskView) → KeepsHeard view view
KeepsHeard-same view = record { heard = refl; read_faults = refl; absent = refl }

-- nothing was heard, and then nothing again
pub KeepsHeard-join : (old mid new : DeskView) → KeepsHeard old mid → KeepsHeard mid new → KeepsHeard old new
KeepsHeard-join old mid new a b = record {
  heard = b.heard ∙ a.heard;
  read_faults = b.read_faults ∙ a.read_faults;
  absent = b.absent ∙ a.absent;
}

-- a creation says nothing of what is read
pub KeepsHeard-creation : {T E : Type 0} (name : List ℕ) (result : Result T E) (old new : DeskView) →
    CreatesFile name old new result → KeepsHeard old new
KeepsHeard-creation name result old new creates = record {
  heard = ap heard creates.answer;
  read_faults = creates.read_faults;
  absent = creates.absent;
}

-- nor does a write
pub KeepsHeard-write : {E : Type 0} (piece : List ℕ) (result : Result ℕ E) (old new : DeskView) →
    WritesPiece piece old new result → KeepsHeard old new
KeepsHeard-write piece result old new write = record {
  heard = ap heard write.answer;
  read_faults = write.read_faults;
  absent = write.absent;
}

-- nor does a finish
pub KeepsHeard-finish : {T E : Type 0} (result : Result T E) (old new : DeskView) →
    FinishesFile old new result → KeepsHeard old new
KeepsHeard-finish result old new finish = record {
  heard = ap heard finish.answer;
  read_faults = finish.read_faults;
  absent = finish.absent;
}
