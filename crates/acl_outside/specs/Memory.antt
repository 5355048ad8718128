-- What the desk and the sink over memory are, and how their calls end. They stand in for the
-- outside in tests.
use Rattle.std.specs.Prelude.{◌≡◌, ℕ, ◌-◌, List, [], ◌∷◌, ◌++◌, length, Bool, true, false, not, ◌&&◌, ◌||◌, ◌==◌, nat_lt, min, Option, Some, None, is_some}
use Rattle.std.specs.List.{list_any}
use Rattle.acl_outside.specs.Fault.{next_count}
use Rattle.acl_outside.specs.Desk.{File, Content, Answer, DeskView, bytes_of}
use Rattle.acl_outside.specs.Sink.{SinkView}
use Rattle.acl_outside.specs.MemFile.{MadeView, Hand, NoFile, Opened, Created, files_with}

-- no two files have one name
abbrev pub distinct_names : List File → Bool
distinct_names [] = true
distinct_names (file ∷ files) = not (is_some (bytes_of files file.name)) && distinct_names files

-- the number stands in the list of those that fail
abbrev pub is_listed : List ℕ → ℕ → Bool
is_listed failing number = list_any (λ listed. listed == number) failing

-- A desk over memory: the files that it was made with, the one that it created, what it has in
-- hand, and its answers so far; how many bytes it moves at most in a call, the numbers of the
-- reading and of the writing calls that fail, and how many calls of each kind were made; and its
-- counts.
pub record MemDeskView : Type 0 where
  pub given : List File
  pub made : MadeView
  pub hand : Hand
  pub answers : List Answer
  pub piece : ℕ
  pub failing_reads : List ℕ
  pub failing_writes : List ℕ
  pub reads : ℕ
  pub writes : ℕ
  pub read_faults : ℕ
  pub absent : ℕ
  pub write_faults : ℕ

-- a desk over these files with room for a created one, to which no call was made
abbrev pub desk_over : List File → ℕ → ℕ → List ℕ → List ℕ → MemDeskView
desk_over files piece room failing_reads failing_writes = record {
  given = files;
  made = record { there = false; name = []; bytes = []; room = room };
  hand = NoFile;
  answers = [];
  piece = piece;
  failing_reads = failing_reads;
  failing_writes = failing_writes;
  reads = 0;
  writes = 0;
  read_faults = 0;
  absent = 0;
  write_faults = 0;
}

-- all its files
abbrev pub all_files : MemDeskView → List File
all_files desk = files_with desk.made desk.given

-- the name of the file that is read, if there is one
abbrev pub opened_in : Hand → Option (List ℕ)
opened_in NoFile = None
opened_in (Opened name left) = Some name
opened_in Created = None

-- what is left to read of it
abbrev pub left_in : Hand → List ℕ
left_in NoFile = []
left_in (Opened name left) = left
left_in Created = []

-- the name of the file that is written, where the created one has this name
abbrev pub created_in : Hand → List ℕ → Option (List ℕ)
created_in NoFile name = None
created_in (Opened opened left) name = None
created_in Created name = Some name

-- the content with these files and this in hand, where the created file has this name
abbrev pub content_with : List File → List ℕ → Hand → Content
content_with files name hand = record {
  files = files;
  opened = opened_in hand;
  left = left_in hand;
  created = created_in hand name;
}

-- its content
abbrev pub content_of : MemDeskView → Content
content_of desk = content_with (all_files desk) desk.made.name desk.hand

-- what it shows as a desk
abbrev pub shown_desk : MemDeskView → DeskView
shown_desk desk = record {
  content = Some (content_of desk);
  answers = desk.answers;
  reading = is_some (opened_in desk.hand);
  writing = is_some (created_in desk.hand desk.made.name);
  read_faults = desk.read_faults;
  absent = desk.absent;
  write_faults = desk.write_faults;
}

-- its next opening or read is one of those that fail
abbrev pub next_read_fails : MemDeskView → Bool
next_read_fails desk = is_listed desk.failing_reads (next_count desk.reads)

-- its next creation, write or finish is one of those that fail
abbrev pub next_write_fails : MemDeskView → Bool
next_write_fails desk = is_listed desk.failing_writes (next_count desk.writes)

-- it has a file of that name
abbrev pub has_file : MemDeskView → List ℕ → Bool
has_file desk name = is_some (bytes_of (all_files desk) name)

-- how many bytes a read into a slice of this length gives
abbrev pub read_len : MemDeskView → ℕ → ℕ
read_len desk len = min desk.piece (min len (length (left_in desk.hand)))

-- a write of a piece of this length fails: it isn't empty, and no room is left or its number is one
-- of those that fail
abbrev pub write_fails : MemDeskView → ℕ → Bool
write_fails desk len = nat_lt 0 len && (not (nat_lt (length desk.made.bytes) desk.made.room) ||
    next_write_fails desk)

-- how many bytes of a piece of this length a write takes
abbrev pub write_len : MemDeskView → ℕ → ℕ
write_len desk len = min desk.piece (min len (desk.made.room - length desk.made.bytes))

-- the created file once it is created under this name
abbrev pub made_anew : List ℕ → MadeView → MadeView
made_anew name made = record { there = true; name = name; bytes = []; room = made.room }

-- the created file after a write that took these bytes, or failed
abbrev pub made_longer : Option (List ℕ) → MadeView → MadeView
made_longer None made = made
made_longer (Some bytes) made = record made { bytes = made.bytes ++ bytes }

-- The rules by which a desk's calls end stay.
pub record KeepsLimits (old new : MemDeskView) : Type 0 where
  pub given : new.given ≡ old.given
  pub room : new.made.room ≡ old.made.room
  pub piece : new.piece ≡ old.piece
  pub failing_reads : new.failing_reads ≡ old.failing_reads
  pub failing_writes : new.failing_writes ≡ old.failing_writes

-- One more opening or read was made, and what it doesn't answer for stays.
pub record CountsRead (old new : MemDeskView) : Type 0 where
  pub reads : new.reads ≡ next_count old.reads
  pub writes : new.writes ≡ old.writes
  pub made : new.made ≡ old.made
  pub limits : KeepsLimits old new

-- One more creation, write or finish was made, and what it doesn't answer for stays.
pub record CountsWrite (old new : MemDeskView) : Type 0 where
  pub reads : new.reads ≡ old.reads
  pub writes : new.writes ≡ next_count old.writes
  pub limits : KeepsLimits old new

-- A sink over memory: what was written and the count of its faults, for how many bytes it has room
-- in all, how many it moves at most in a put, the numbers of the puts that fail, and how many puts
-- of non-empty pieces were made.
pub record MemSinkView : Type 0 where
  pub written : List ℕ
  pub room : ℕ
  pub piece : ℕ
  pub failing : List ℕ
  pub puts : ℕ
  pub faults : ℕ

-- what it shows as a sink
abbrev pub shown_sink : MemSinkView → SinkView
shown_sink sink = record { taken = sink.written; written = Some sink.written; faults = sink.faults }

-- a put of a piece of this length fails: it isn't empty, and no room is left or its number is one
-- of those that fail
abbrev pub put_fails : MemSinkView → ℕ → Bool
put_fails sink len = nat_lt 0 len && (not (nat_lt (length sink.written) sink.room) ||
    is_listed sink.failing (next_count sink.puts))

-- how many bytes of a piece of this length a put takes
abbrev pub put_len : MemSinkView → ℕ → ℕ
put_len sink len = min sink.piece (min len (sink.room - length sink.written))

-- The rules by which a sink's puts end stay.
pub record KeepsRules (old new : MemSinkView) : Type 0 where
  pub room : new.room ≡ old.room
  pub piece : new.piece ≡ old.piece
  pub failing : new.failing ≡ old.failing
