-- How a run ends whose list was read.
use Rattle.std.proofs.Common.{◌≡◌, ℕ, ◌+◌, ◌≤◌, List, [], ◌∷◌, ◌++◌, length, Ok, Err, sym, ap, subst, ◌∙◌, inl, inr, append-nil}
use Rattle.std.proofs.Common.{◌≢◌, ◌⊎◌, arith}
use Rattle.std.specs.declared.vec.Vec.{Vec}
use Rattle.std.specs.declared.alloc.Global.{Global}
use Rattle.acl_outside.specs.Desk.{DeskView}
use Rattle.acl_outside.specs.Heard.{Heard, Ended}
use Rattle.acl_outside.specs.Sink.{SinkView}
use Rattle.command_ending.specs.Follow.{IsOpened}
use Rattle.command_ending.specs.declared.status.Status.{Status}
use Rattle.command_ending.specs.declared.status.Status.TheVariants as cause
use Rattle.command_ending.specs.StepEffects.{ReadsFile, outside}
use Rattle.command_ending.proofs.Offered.{Gains-none}
use Rattle.iptables_reader.specs.Table.{max_list}
use Rattle.list_tool.specs.declared.status.ListFault.{ListFault}
use Rattle.list_tool.specs.declared.status.ListStatus.{ListStatus}
use Rattle.list_tool.specs.declared.status.ListStatus.TheVariants.{OutOfMemory, ReadFault, Refused}
use Rattle.list_tool.specs.Decides.{IsRuleFileOf}
use Rattle.list_tool.specs.Printed.{text_of}
use Rattle.list_tool.specs.RunsLists.{AnswersList, Prints, Tells}
use Rattle.list_tool.specs.Steps.{IsReadOn, PutsText, unread_as}
use Rattle.list_tool.specs.Words.{Request}
use Rattle.list_tool.specs.Message.{message, message_after}
use Rattle.list_tool.proofs.TooLong.{too_long}

-- a list whose text is said was read to its end, and the text is told
tells : (request : Request) (file : Heard) (text : List ℕ) → IsReadOn file → text_of request file.bytes ≡ Ok text →
    IsRuleFileOf request file.bytes text → Tells request file text
tells request file text (inl ended) said decides = record { whole = ended; said = said; decides = decides }
tells request file text (inr (on, long)) said decides =
    let no = sym said ∙ ap (text_of request) (sym (append-nil file.bytes)) ∙ too_long request file.bytes [] long in
    absurd cc

-- the text was put, or a first part of it
pub put_prints : (request : Request) (file : Heard) (text bytes : List ℕ) (old new : SinkView) (status : ListStatus) →
    file.bytes ≡ bytes → IsReadOn file → text_of request bytes ≡ Ok text → IsRuleFileOf request bytes text →
    PutsText text old new status → Prints request file old new status
put_prints request file text bytes old new status same read said decides puts =
    let told = tells request file text read (ap (text_of request) same ∙ said)
    (subst (λ (these : List ℕ). IsRuleFileOf request these text) (sym same) decides) in
    elim puts.puts [
      | inl all ↦ rw all.0 (record { text = text; told = told; printed = all.1 })
      | inr part ↦ rw part.0 (record { text = text; told = told; printed = part.1; cause = part.2 })
    ]

-- a list that was read was opened
read_opened : (file : Heard) → IsReadOn file → IsOpened file.ending
read_opened file (inl ended) = rw ended tt
read_opened file (inr on) = rw on.0 tt

-- whatever more of a list may come that is refused, the fault stays
stays : (request : Request) (file : Heard) (fault : ListFault) → IsReadOn file →
    text_of request file.bytes ≡ Err fault → (more : List ℕ) → (file.ending ≡ Ended → more ≡ []) →
    text_of request (file.bytes ++ more) ≡ Err fault
stays request file fault (inl ended) said more none =
    ap (λ rest. text_of request (file.bytes ++ rest)) (none ended) ∙ ap (text_of request) (append-nil file.bytes) ∙ said
stays request file fault (inr (on, long)) said more none =
    too_long request file.bytes more long
    ∙ sym (too_long request file.bytes [] long)
    ∙ ap (text_of request) (append-nil file.bytes) ∙ said

-- the list is refused
pub refused_prints : (request : Request) (file : Heard) (bytes : List ℕ) (fault : ListFault) (out : SinkView) →
    file.bytes ≡ bytes → IsReadOn file → text_of request bytes ≡ Err fault → Prints request file out out (Refused fault)
refused_prints request file bytes fault out same read said = record {
  opened = read_opened file read;
  refused = stays request file fault read (ap (text_of request) same ∙ said);
  unprinted = Gains-none out;
}

-- so no list that was read is told as unread
pub put_not_unread : (text : List ℕ) (old new : SinkView) (status : ListStatus) → PutsText text old new status →
    status ≢ ReadFault
put_not_unread text old new status puts is =
    elim puts.puts [
      | inl all ↦ absurd (let no = sym all.0 ∙ is in cc)
      | inr part ↦ absurd (let no = sym part.0 ∙ is in cc)
    ]

-- the list was read, and then its text was printed or refused
pub answers_read : (request : Request) (old new : DeskView) (out_old out_new : SinkView) (bytes : Vec ℕ Global)
    (status : ListStatus) → ReadsFile request.file (max_list + 1) old new (Ok bytes) →
    ((file : Heard) → file.bytes ≡ bytes.items → IsReadOn file → Prints request file out_old out_new status) →
    out_old.faults ≤ out_new.faults → status ≢ ReadFault →
    AnswersList request (outside old out_old 0) (outside new out_new 0) status
answers_read request old new out_old out_new bytes status read prints count other =
    let on : IsReadOn read.file = elim read.ending [
      | inl ended ↦ inl ended
      | inr goes ↦ inr (goes.0, ap (λ (text : List ℕ). length text) read.bytes ∙ goes.1)
    ] in
    record {
      file = read.file;
      named = read.named;
      once = read.heard;
      told = read.told;
      prints = prints read.file read.bytes on;
      read_fault = λ is. absurd (other is);
      kept = read.kept;
      count = count;
    }

-- it wasn't read
pub answers_unread : (request : Request) (old new : DeskView) (out : SinkView) (status : Status) →
    ReadsFile request.file (max_list + 1) old new (Err status) →
    AnswersList request (outside old out 0) (outside new out 0) (unread_as status)
answers_unread request old new out status read = record {
  file = read.file;
  named = read.named;
  once = read.heard;
  told = read.told;
  prints = elim read.fault [
    | inl full ↦ rw full (Gains-none out)
    | inr fault ↦ rw fault.0 (Gains-none out)
  ];
  read_fault = elim read.fault [
    | inl full ↦ rw full (λ is. absurd (cc))
    | inr fault ↦ λ is. read.read_fault (ap Err fault.0)
  ];
  kept = read.kept;
  count = omega arith;
}

-- what tells how a list ended that was read is by its name and its bytes
pub said_read : (heard earlier : List Heard) (file : Heard) (name bytes : List ℕ) (status : ListStatus) →
    heard ≡ file ∷ earlier → file.name ≡ name → file.bytes ≡ bytes →
    message name bytes status ≡ message_after heard status
said_read heard earlier file name bytes status is named same =
    ap (λ name. message name bytes status) (sym named)
    ∙ ap (λ bytes. message file.name bytes status) (sym same)
    ∙ ap (λ heard. message_after heard status) (sym is)

-- and what tells of one that wasn't read is by its name
pub said_unread : (heard earlier : List Heard) (file : Heard) (name : List ℕ) (status : Status) →
    heard ≡ file ∷ earlier → file.name ≡ name → (status ≡ cause.OutOfMemory) ⊎ (status ≡ cause.ReadFault) →
    message name [] (unread_as status) ≡ message_after heard (unread_as status)
said_unread heard earlier file name status is named (inl full) =
    rw full (ap (λ heard. message_after heard OutOfMemory) (sym is))
said_unread heard earlier file name status is named (inr fault) =
    rw fault (ap (λ name. message name [] ReadFault) (sym named)
    ∙ ap (λ heard. message_after heard ReadFault) (sym is))
