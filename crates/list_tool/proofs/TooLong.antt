-- A list that is too long is refused, whatever more of it may come.
use Rattle.std.proofs.Common.{◌≡◌, ℕ, ◌+◌, List, ◌++◌, length, Err, refl, ap, inl, inr, arith, nat_lt, true, length-append}
use Rattle.std.specs.Prelude.{if◌then◌else◌}
use Rattle.std.proofs.lemmas.Bool.{cases_Bool, le-leb}
use Rattle.field_defs.specs.declared.field.Family.TheVariants.{Ip4, Ip6}
use Rattle.iptables_reader.specs.declared.answers.Asked.{Asked}
use Rattle.iptables_reader.specs.declared.fault.LineKind.TheVariants as line
use Rattle.iptables_reader.specs.declared.answers.Answers.{Answers}
use Rattle.iptables_reader.specs.declared.answers.Answers.TheVariants as answers
use Rattle.iptables_reader.specs.Table.{assumes_any_lacking, max_list}
use Rattle.cisco_reader.specs.declared.fault.LineKind.TheVariants as entry
use Rattle.nft_reader.specs.declared.fault.ObjectKind.TheVariants as object
use Rattle.list_tool.specs.declared.status.ListFault.{ListFault}
use Rattle.list_tool.specs.declared.status.ListKind.TheVariants.{Line, CiscoLine, Object}
use Rattle.list_tool.specs.declared.words.Form.{Form}
use Rattle.list_tool.specs.declared.words.Form.TheVariants.{Iptables, Ip6tables, Cisco, Nft, Nft6}
use Rattle.list_tool.specs.Listing.{◌>>=◌, at_line, at_object, rules_for, saved_way, turned_way, way_in}
use Rattle.list_tool.specs.Printed.{text_of}
use Rattle.list_tool.specs.Words.{Request}

-- what is told of it: an interface that the packets of the chain lack comes first
abbrev pub long_table : List ℕ → List ℕ → ListFault
long_table assumed name =
    if assumes_any_lacking name assumed then at_line 0 (Line line.LacksInterface) else at_line 0 (Line line.FileTooLong)

abbrev pub long_fault : Form → List ℕ → List ℕ → ListFault
long_fault Iptables assumed name = long_table assumed name
long_fault Ip6tables assumed name = long_table assumed name
long_fault Cisco assumed name = at_line 0 (CiscoLine entry.FileTooLong)
long_fault Nft assumed name = at_object 0 (Object object.FileTooLong)
long_fault Nft6 assumed name = at_object 0 (Object object.FileTooLong)

-- a saved list says nothing
long_saved : (asked : Asked) (assumed name bytes : List ℕ) → nat_lt max_list (length bytes) ≡ true →
    saved_way asked assumed name bytes ≡ Err (long_table assumed name)
long_saved asked assumed name bytes long =
    elim (cases_Bool (assumes_any_lacking name assumed)) [
      | inl lacks ↦ rw lacks refl
      | inr not ↦ rw not (rw long refl)
    ]

-- nor does a list of another form
long_way : (form : Form) (its : Answers) (assumed name bytes : List ℕ) → nat_lt max_list (length bytes) ≡ true →
    way_in form its assumed name bytes ≡ Err (long_fault form assumed name)
long_way Iptables its assumed name bytes long =
    long_saved (record { family = Ip4; answers = its }) assumed name bytes long
long_way Ip6tables its assumed name bytes long =
    long_saved (record { family = Ip6; answers = its }) assumed name bytes long
long_way Cisco its assumed name bytes long = rw long refl
long_way Nft its assumed name bytes long = rw long refl
long_way Nft6 its assumed name bytes long = rw long refl

-- what is told of the list that is asked for
abbrev pub long_of : Request → ListFault
long_of request = long_fault request.form request.options.assumed request.chain

-- its rules are refused
long_rules : (request : Request) (bytes : List ℕ) (its : Answers) → nat_lt max_list (length bytes) ≡ true →
    rules_for request bytes its ≡ Err (long_of request)
long_rules request bytes its long =
    ap (λ way. way >>= turned_way request.form)
    (long_way request.form its request.options.assumed request.chain bytes long)

-- and its text
pub too_long : (request : Request) (front more : List ℕ) → length front ≡ max_list + 1 →
    text_of request (front ++ more) ≡ Err (long_of request)
too_long request front more is =
    let long : nat_lt max_list (length (front ++ more)) ≡ true =
    le-leb (max_list + 1) (length (front ++ more)) (omega (arith, is, length-append front more)) in
    rw (long_rules request (front ++ more) answers.Line long) refl
