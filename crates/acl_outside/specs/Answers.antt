-- A desk's answers and a sink's bytes, read off the notes that were kept of them.
use Rattle.std.specs.Prelude.{ℕ, ◌==◌, List, [], ◌∷◌, ◌++◌, true, false, Some, None, slice_index, if◌then◌else◌}
use Rattle.acl_outside.specs.Note.{Note}
use Rattle.acl_outside.specs.Desk.{Answer, Opening, Reading, Creating, Writing, Finishing}
use Rattle.acl_outside.specs.declared.transcript.TheConstants.{OPENED, NOT_OPENED, GIVEN, FAILED, CREATED, NOT_CREATED, WRITTEN, NOT_WRITTEN, FINISHED}

-- a note begins with its kind; an opening and a creation have the name for bytes, a read the room
-- after its kind and what it gave for bytes, and a write what it took for bytes
abbrev pub answer_of : Note → Answer
answer_of note =
    if slice_index note.numbers 0 == OPENED then Opening note.bytes true
    else (if slice_index note.numbers 0 == NOT_OPENED then Opening note.bytes false
    else (if slice_index note.numbers 0 == GIVEN then Reading (slice_index note.numbers 1)
    (Some note.bytes)
    else (if slice_index note.numbers 0 == FAILED then Reading (slice_index note.numbers 1) None
    else (if slice_index note.numbers 0 == CREATED then Creating note.bytes true
    else (if slice_index note.numbers 0 == NOT_CREATED then Creating note.bytes false
    else (if slice_index note.numbers 0 == WRITTEN then Writing (Some note.bytes)
    else (if slice_index note.numbers 0 == NOT_WRITTEN then Writing None
    else Finishing (slice_index note.numbers 0 == FINISHED))))))))

-- the answers, newest first, of notes, newest first
abbrev pub answers_of : List Note → List Answer
answers_of [] = []
answers_of (note ∷ notes) = answer_of note ∷ answers_of notes

-- the bytes that a sink took, from a note of each piece, newest first
abbrev pub taken_of : List Note → List ℕ
taken_of [] = []
taken_of (note ∷ notes) = taken_of notes ++ note.bytes
