-- The lines of a script that were answered, and those that are left.
use Rattle.std.proofs.Common.{◌≡◌, ℕ, true, false, List, [], ◌∷◌, ◌++◌, refl, sym, ap, ◌∙◌, append_assoc, append-nil}
use Rattle.text_scan.specs.Parts.{lines_of}
use Rattle.classbench_reader.specs.Line.{is_skipped}
use Rattle.acl_session.specs.declared.made.Made.{Made}
use Rattle.acl_session.specs.State.{Answer, State, first_state}
use Rattle.acl_session.specs.Session.{answer, replies_from, session_of}
use Rattle.acl_session.specs.Mirrors.{Answers, Mirrors}

-- What the lines so far made is what some state says. Their replies, and those to the lines that are left from that
-- state on, are the replies to the script.
pub record IsAnsweredUpTo (script : List ℕ) (made : Made) (replies left : List ℕ) : Type 0 where
  pub state : State
  pub mirrors : Mirrors state made
  pub joined : session_of script ≡ replies ++ replies_from state (lines_of left)

-- no line was answered
pub none_answered : (script : List ℕ) (made : Made) (replies : List ℕ) → Mirrors first_state made → replies ≡ []
    → IsAnsweredUpTo script made replies script
none_answered script made replies mirrors empty = record {
  state = first_state;
  mirrors = mirrors;
  joined = ap (λ (r : List ℕ). r ++ replies_from first_state (lines_of script)) (sym empty);
}

-- the next line is skipped
pub line_skipped : (script : List ℕ) (made : Made) (replies left line rest : List ℕ)
    → IsAnsweredUpTo script made replies left → lines_of left ≡ line ∷ lines_of rest → is_skipped line ≡ true
    → IsAnsweredUpTo script made replies rest
line_skipped script made replies left line rest so_far cut skipped = record {
  state = so_far.state;
  mirrors = so_far.mirrors;
  joined = so_far.joined ∙ ap (λ lines. replies ++ replies_from so_far.state lines) cut ∙ rw skipped refl;
}

-- the next line is answered
pub line_answered : (script : List ℕ) (old new : Made) (before after left line rest : List ℕ)
    → IsAnsweredUpTo script old before left → lines_of left ≡ line ∷ lines_of rest → is_skipped line ≡ false
    → Answers (λ state. answer state line) old new before after
    → IsAnsweredUpTo script new after rest
line_answered script old new before after left line rest so_far cut kept answers =
    let given : Answer = answer so_far.state line in
    let done = answers so_far.state so_far.mirrors in
    let others : List ℕ = replies_from given.state (lines_of rest) in
    record {
      state = given.state;
      mirrors = done.state;
      joined = so_far.joined ∙ ap (λ lines. before ++ replies_from so_far.state lines) cut
          ∙ rw kept (sym (append_assoc before given.text others))
          ∙ ap (λ (text : List ℕ). text ++ others) (sym done.text);
    }

-- no line is left
pub all_answered : (script : List ℕ) (made : Made) (replies left : List ℕ) → IsAnsweredUpTo script made replies left
    → lines_of left ≡ [] → replies ≡ session_of script
all_answered script made replies left so_far none =
    sym (so_far.joined ∙ ap (λ lines. replies ++ replies_from so_far.state lines) none ∙ append-nil replies)
