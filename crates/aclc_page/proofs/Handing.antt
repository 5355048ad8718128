-- What was run and then handed over is an answer.
use Rattle.std.proofs.Common.{◌≡◌, ℕ, List, Result, Ok, Err, inl, inr, sym, subst}
use Rattle.std.specs.Prelude.{IfOk}
use Rattle.std.specs.declared.alloc.AllocError.{AllocError}
use Rattle.acl_outside.specs.Desk.{File}
use Rattle.aclc_page.specs.declared.exports.Lens.{Lens}
use Rattle.aclc_page.specs.declared.printing.Printed.{Printed}
use Rattle.aclc_page.specs.Ran.{Answers, IsHanded, Ran, Room}

-- a command that was run, or for which there was no memory, is answered once it is handed over
pub Answers-from : {words : List (List ℕ)} {files : List File} {old new : Room} {lens : Lens} {code : ℕ}
    (printed : Result Printed AllocError) →
    IfOk printed (λ p. Ran words files p.out.text p.err.text p.code) →
    IsHanded printed old new lens code → Answers words files old new lens code
Answers-from {words} {files} (Ok printed) ran handed =
    inr (
      printed.out.text,
      printed.err.text,
      subst (λ code. Ran words files printed.out.text printed.err.text code) (sym handed.0) ran,
      handed.1,
    )
Answers-from (Err fault) ran handed = inl handed
