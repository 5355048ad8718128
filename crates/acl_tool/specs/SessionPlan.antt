-- What `session` does.
use Rattle.std.specs.Prelude.{ℕ, nat_lt, if◌then◌else◌, List, length, Result, Ok, Err}
use Rattle.acl_session.specs.Session.{session_of}
use Rattle.command_ending.specs.declared.status.Status.{Status}
use Rattle.command_ending.specs.declared.status.Status.TheVariants.{ScriptRefused}
use Rattle.command_ending.specs.Plan.{◌>>=◌, Outcome, Plan, reading, unless_refused}
use Rattle.acl_tool.specs.Texts.{only_text}

-- how many bytes a script may have
abbrev pub max_script : ℕ
max_script = 16777216

-- the replies to the bytes of a script, or the status of one that is too long
abbrev pub replies_of : List ℕ → Result (List ℕ) Status
replies_of bytes =
    if nat_lt max_script (length bytes) then Err ScriptRefused else Ok (session_of bytes)

-- the replies to the script of a name
abbrev pub replies_in : List ℕ → Plan (List ℕ)
replies_in name = do
  bytes ← reading name
  unless_refused (replies_of bytes)

-- the replies to a script are printed
abbrev pub session_plan : List ℕ → Plan Outcome
session_plan script = do
  replies ← replies_in script
  only_text replies
