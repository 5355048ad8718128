-- Examples of what was made of files, each checked by evaluation. Answers and creations stand
-- newest first.
use Rattle.std.specs.Prelude.{◌≡◌, ℕ, List, [], ◌∷◌, true, false, Some, None, codes, refl}
use Rattle.acl_outside.specs.Note.{note_of}
use Rattle.acl_outside.specs.Desk.{Answer, Opening, Reading, Creating, Writing, Finishing, is_finished}
use Rattle.acl_outside.specs.Heard.{GoesOn, heard}
use Rattle.acl_outside.specs.Made.{Made, Standing, NotCreated, Unfinished, Finished, Broken, made}
use Rattle.acl_outside.specs.Answers.{answers_of}
use Rattle.acl_outside.specs.declared.transcript.TheConstants.{CREATED, NOT_CREATED, WRITTEN, NOT_WRITTEN, FINISHED, NOT_FINISHED}

abbrev creation : List ℕ → Standing → Made
creation bytes standing = record { name = codes "i"; bytes = bytes; standing = standing }

-- a creation and two writes
abbrev two_writes : List Answer
two_writes =
    Writing (Some (3 ∷ [])) ∷ Writing (Some (1 ∷ 2 ∷ [])) ∷ Creating (codes "i") true ∷ []

nothing_asked : made [] ≡ []
nothing_asked = refl

refused : made (Creating (codes "i") false ∷ []) ≡ creation [] NotCreated ∷ []
refused = refl

just_created : made (Creating (codes "i") true ∷ []) ≡ creation [] Unfinished ∷ []
just_created = refl

growing : made two_writes ≡ creation (1 ∷ 2 ∷ 3 ∷ []) Unfinished ∷ []
growing = refl

whole : made (Finishing true ∷ two_writes) ≡ creation (1 ∷ 2 ∷ 3 ∷ []) Finished ∷ []
whole = refl

-- an empty piece has no bytes
nothing_written : made (Writing (Some []) ∷ two_writes) ≡ creation (1 ∷ 2 ∷ 3 ∷ []) Unfinished ∷ []
nothing_written = refl

failed_write : made (Writing None ∷ two_writes) ≡ creation (1 ∷ 2 ∷ 3 ∷ []) Broken ∷ []
failed_write = refl

failed_finish : made (Finishing false ∷ two_writes) ≡ creation (1 ∷ 2 ∷ 3 ∷ []) Broken ∷ []
failed_finish = refl

empty_file : made (Finishing true ∷ Creating (codes "i") true ∷ []) ≡ creation [] Finished ∷ []
empty_file = refl

-- a file that is created again begins anew
created_again : made (Creating (codes "i") true ∷ Finishing true ∷ two_writes) ≡
    creation [] Unfinished ∷ creation (1 ∷ 2 ∷ 3 ∷ []) Finished ∷ []
created_again = refl

-- an opening, with which the created file is given up, and a read say nothing of it
given_up : made (Reading 8 None ∷ Opening (codes "r") true ∷ two_writes) ≡
    creation (1 ∷ 2 ∷ 3 ∷ []) Unfinished ∷ []
given_up = refl

-- and a creation, a write and a finish say nothing of what was heard
heard_before : heard (Finishing true ∷ Writing None ∷ Creating (codes "i") true ∷
    Opening (codes "r") true ∷ [])
    ≡ record { name = codes "r"; bytes = []; ending = GoesOn } ∷ []
heard_before = refl

a_finish_is_the_last : is_finished (Finishing true ∷ two_writes) ≡ true
a_finish_is_the_last = refl

a_failed_finish_is_none : is_finished (Finishing false ∷ two_writes) ≡ false
a_failed_finish_is_none = refl

an_opening_comes_after : is_finished (Opening (codes "r") false ∷ Finishing true ∷ []) ≡ false
an_opening_comes_after = refl

a_creation_comes_after : is_finished (Creating (codes "i") true ∷ Finishing true ∷ []) ≡ false
a_creation_comes_after = refl

no_call : is_finished [] ≡ false
no_call = refl

-- the answers are read off notes
noted : answers_of (
    note_of (FINISHED ∷ []) []
    ∷ note_of (WRITTEN ∷ []) (3 ∷ [])
    ∷ note_of (WRITTEN ∷ []) (1 ∷ 2 ∷ [])
    ∷ note_of (CREATED ∷ []) (codes "i")
    ∷ []) ≡ Finishing true ∷ two_writes
noted = refl

failures_noted : answers_of (
    note_of (NOT_FINISHED ∷ []) []
    ∷ note_of (NOT_WRITTEN ∷ []) []
    ∷ note_of (NOT_CREATED ∷ []) (codes "i")
    ∷ []) ≡ Finishing false ∷ Writing None ∷ Creating (codes "i") false ∷ []
failures_noted = refl
