-- What was heard of a capture that was opened and read.
use Rattle.std.proofs.Common.{◌≡◌, ℕ, List, ◌∷◌, Some, Ok, ap, refl, ◌∙◌}
use Rattle.acl_outside.specs.Desk.{File, DeskView, OpensFile}
use Rattle.acl_outside.specs.Heard.{Heard, Ending, NotOpened, GoesOn, Ended, BrokenOff}
use Rattle.acl_outside.specs.DeskReading.{ReadsOn}
use Rattle.acl_outside.proofs.Offered.{HoldsTogether-opening, HoldsTogether-reads_on}
use Rattle.pcapng_reader.specs.BlockReading.{stands}
use Rattle.pcap_reader.specs.Fill.{KeepsReading, IsAtEnd}
use Rattle.command_ending.specs.Follow.{IsOpened, IsOneOf, opened_by, said_in}
use Rattle.command_ending.specs.StepEffects.{files_of, opened_of, heard_of, KeepsFiles}
use Rattle.command_ending.proofs.Offered.{heard_file, part_told, opened_told, opened_absent, kept_files}

-- an opened file, of which these bytes were heard
abbrev pub file_of : List ℕ → List ℕ → Ending → Heard
file_of name given ending = record { name = name; bytes = given; ending = ending }

-- The named file was opened, these bytes of it were read, and nothing else was asked for.
pub record HearsFile (name given : List ℕ) (ending : Ending) (old new : DeskView) : Type 0 where
  pub heard : heard_of new ≡ file_of name given ending ∷ heard_of old
  pub told : IsOneOf (files_of old) (file_of name given ending)
  pub opened : (files : List File) → files_of old ≡ Some files → opened_of new ≡ Some (Some name)
  pub absent : (files : List File) → files_of old ≡ Some files → new.absent ≡ old.absent
  pub kept : KeepsFiles old new

-- an opened file whose reading stands so has this ending
stood : (ending : Ending) (name given : List ℕ) → stands ending (file_of name given GoesOn)
    ≡ file_of name given ending
stood NotOpened name given = refl
stood GoesOn name given = refl
stood Ended name given = refl
stood BrokenOff name given = refl

-- how its reading stands says nothing of its name
stands-name : (ending : Ending) (file : Heard) → (stands ending file).name ≡ file.name
stands-name NotOpened file = refl
stands-name GoesOn file = refl
stands-name Ended file = refl
stands-name BrokenOff file = refl

-- nor of its bytes
stands-bytes : (ending : Ending) (file : Heard) → (stands ending file).bytes ≡ file.bytes
stands-bytes NotOpened file = refl
stands-bytes GoesOn file = refl
stands-bytes Ended file = refl
stands-bytes BrokenOff file = refl

-- a file that was opened and read was heard so
pub HearsFile-read : {T E : Type 0} (name given : List ℕ) (ending : Ending) (old mid new : DeskView) (x : T) →
    OpensFile {E = E} name old mid (Ok x) →
    ReadsOn (stands ending) given mid new → (ending ≡ Ended → IsAtEnd new) → KeepsReading mid new →
    HearsFile name given ending old new
HearsFile-read name given ending old mid new x opens reads at_end keeps = record {
  heard =
      heard_file (stands ending) name given old mid new x opens reads
      ∙ ap (λ (file : Heard). file ∷ heard_of old) (stood ending name given);
  told = λ files told opened.
      part_told name given ending old.content mid.content new.content opens.opened reads.told at_end files told;
  opened = λ files told. opened_told name given old.content mid.content new.content opens.opened reads.told files
      told;
  absent = λ files told.
      keeps.absent ∙ opened_absent name old mid old.content mid.content
      (λ content at some. (opens.there content at some).0) opens.opened files told;
  kept = kept_files name given old mid new x opens reads.told keeps.made keeps.counts
      (HoldsTogether-reads_on (stands ending) given mid new (HoldsTogether-opening name old mid (Ok x) opens)
      (stands-name ending) (stands-bytes ending) keeps.reading keeps.writing reads);
}

-- an opened file is told to be so, however its reading stands
pub open_still : (ending : Ending) (name : List ℕ) (desk : DeskView) → IsOpened ending →
    opened_of desk ≡ Some (Some name) → opened_of desk ≡ Some (opened_by ending name)
open_still NotOpened name desk opened told = absurd opened
open_still GoesOn name desk opened told = told
open_still Ended name desk opened told = told
open_still BrokenOff name desk opened told = told

-- within an opened file all of the text is said
pub said-opened : (ending : Ending) (text : List ℕ) → IsOpened ending → text ≡ said_in ending text
said-opened NotOpened text opened = absurd opened
said-opened GoesOn text opened = refl
said-opened Ended text opened = refl
said-opened BrokenOff text opened = refl
