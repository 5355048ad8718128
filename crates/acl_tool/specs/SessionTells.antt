-- What `session` prints, said by itself: of a script and its replies, and of what the desk gave and
-- the output took, whatever they are.
use Rattle.std.specs.Prelude.{◌≡◌, ℕ, ◌<◌, List, [], ◌∷◌, ◌++◌, length, codes}
use Rattle.std.specs.declared.vec.Vec.{Vec}
use Rattle.std.specs.declared.alloc.Global.{Global}
use Rattle.acl_outside.specs.Heard.{Heard, Ended}
use Rattle.acl_session.specs.Session.{session_of}
use Rattle.command_ending.specs.declared.status.Status.{Status}
use Rattle.command_ending.specs.declared.status.Status.TheVariants.{Done, ScriptRefused}
use Rattle.command_ending.specs.StepEffects.{Outside, heard_of}
use Rattle.acl_tool.specs.SessionPlan.{max_script}

-- the bytes of a text
abbrev pub text_of : Vec ℕ Global → List ℕ
text_of text = text.items

-- The words of a `session` name a file alone. The desk was asked for the file once, and for nothing
-- else.
pub record HearsScript (words : List (List ℕ)) (old new : Outside) : Type 0 where
  pub script : Heard
  pub named : words ≡ codes "session" ∷ script.name ∷ []
  pub once : heard_of new.desk ≡ script ∷ heard_of old.desk

-- All of the script was read, and the output took its replies. No transition was counted.
pub record PrintsReplies (words : List (List ℕ)) (old new : Outside) : Type 0 where
  pub heard : HearsScript words old new
  pub whole : heard.script.ending ≡ Ended
  pub taken : new.out.taken ≡ old.out.taken ++ session_of heard.script.bytes
  pub steps : new.steps ≡ old.steps

-- More bytes of the script were read than it may have, and the output took nothing.
pub record RefusesScript (words : List (List ℕ)) (old new : Outside) : Type 0 where
  pub heard : HearsScript words old new
  pub long : max_script < length heard.script.bytes
  pub taken : new.out.taken ≡ old.out.taken

-- Wherever `session` ends with Done, or with a script that is too long, it did so.
pub record SessionTells (words : List (List ℕ)) (status : Status) (old new : Outside)
    : Type 0 where
  pub prints : (after : List (List ℕ)) → words ≡ codes "session" ∷ after → status ≡ Done →
      PrintsReplies words old new
  pub refuses : (after : List (List ℕ)) → words ≡ codes "session" ∷ after → status ≡ ScriptRefused →
      RefusesScript words old new
