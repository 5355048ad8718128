-- Examples of what was heard of files, each checked by evaluation. Answers and openings stand
-- newest first.
use Rattle.std.specs.Prelude.{◌≡◌, ℕ, List, [], ◌∷◌, true, false, Some, None, codes, refl}
use Rattle.acl_outside.specs.Note.{note_of}
use Rattle.acl_outside.specs.Desk.{Answer, Opening, Reading}
use Rattle.acl_outside.specs.Heard.{Heard, Ending, NotOpened, GoesOn, Ended, BrokenOff, heard}
use Rattle.acl_outside.specs.Answers.{answers_of, taken_of}
use Rattle.acl_outside.specs.declared.transcript.TheConstants.{OPENED, NOT_OPENED, GIVEN, FAILED, TAKEN}

abbrev opening : List ℕ → Ending → Heard
opening bytes ending = record { name = codes "r"; bytes = bytes; ending = ending }

-- an opening and two reads
abbrev two_reads : List Answer
two_reads =
    Reading 8 (Some (3 ∷ [])) ∷ Reading 2 (Some (1 ∷ 2 ∷ [])) ∷ Opening (codes "r") true ∷ []

nothing_asked : heard [] ≡ []
nothing_asked = refl

absent_file : heard (Opening (codes "r") false ∷ []) ≡ opening [] NotOpened ∷ []
absent_file = refl

just_opened : heard (Opening (codes "r") true ∷ []) ≡ opening [] GoesOn ∷ []
just_opened = refl

-- a read may give less than it has room for, and then more may come
cut_record : heard two_reads ≡ opening (1 ∷ 2 ∷ 3 ∷ []) GoesOn ∷ []
cut_record = refl

whole_file : heard (Reading 8 (Some []) ∷ two_reads) ≡ opening (1 ∷ 2 ∷ 3 ∷ []) Ended ∷ []
whole_file = refl

-- an empty slice has no room, and says nothing of the end
no_room : heard (Reading 0 (Some []) ∷ two_reads) ≡ opening (1 ∷ 2 ∷ 3 ∷ []) GoesOn ∷ []
no_room = refl

broken_read : heard (Reading 8 None ∷ two_reads) ≡ opening (1 ∷ 2 ∷ 3 ∷ []) BrokenOff ∷ []
broken_read = refl

-- a file that is read on after its end has grown
grown_file : heard (Reading 8 (Some (4 ∷ [])) ∷ Reading 8 (Some []) ∷ two_reads) ≡
    opening (1 ∷ 2 ∷ 3 ∷ 4 ∷ []) GoesOn ∷ []
grown_file = refl

-- each opening begins anew, also of the same name
two_openings : heard (Reading 8 (Some (9 ∷ [])) ∷ Opening (codes "r") true ∷ two_reads)
    ≡ opening (9 ∷ []) GoesOn ∷ opening (1 ∷ 2 ∷ 3 ∷ []) GoesOn ∷ []
two_openings = refl

-- a read before any opening is of no file
no_opening : heard (Reading 8 (Some (9 ∷ [])) ∷ []) ≡ []
no_opening = refl

-- the notes that the desks and the sink over the system keep
noted_answers : answers_of (
    note_of (FAILED ∷ 8 ∷ []) [] ∷ note_of (GIVEN ∷ 2 ∷ []) (1 ∷ 2 ∷ [])
    ∷ note_of (OPENED ∷ []) (codes "r")
    ∷ note_of (NOT_OPENED ∷ []) (codes "c") ∷ [])
    ≡ Reading 8 None ∷ Reading 2 (Some (1 ∷ 2 ∷ [])) ∷ Opening (codes "r") true
    ∷ Opening (codes "c") false ∷ []
noted_answers = refl

noted_bytes : taken_of (note_of (TAKEN ∷ []) (3 ∷ []) ∷ note_of (TAKEN ∷ []) (1 ∷ 2 ∷ []) ∷ [])
    ≡ 1 ∷ 2 ∷ 3 ∷ []
noted_bytes = refl
