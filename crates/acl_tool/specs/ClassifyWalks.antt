-- How many transitions `classify` takes, said by itself: one for each word that the walks of the
-- packets read in the tables of the rules, and at most one for each trie and byte of a key.
use Rattle.std.specs.Prelude.{◌≡◌, ℕ, ◌+◌, ◌≤◌, List, ◌∷◌, codes, Option}
use Rattle.field_defs.specs.declared.field.Family.TheVariants.{Ip4, Ip6}
use Rattle.acl_outside.specs.Heard.{Heard}
use Rattle.acl_context.specs.Context.{built_of}
use Rattle.pcap_reader.specs.declared.capture_fault.CaptureFault.{CaptureFault}
use Rattle.pcapng_reader.specs.Capture.{whole_records}
use Rattle.command_ending.specs.declared.status.Status.{Status}
use Rattle.capture_report.specs.Shown.{status_of_fault}
use Rattle.capture_report.specs.Classifier.{Tables}
use Rattle.capture_report.specs.Report.{transitions_of_records}
use Rattle.capture_report.specs.Bound.{most_of_records}
use Rattle.acl_tool.specs.FamilySet.{set_of}
use Rattle.acl_tool.specs.Headline.{Hears}
use Rattle.acl_tool.specs.GivenBudget.{budget_given}

-- The counter rose by the transitions of the packets in the whole records of the capture, through
-- the tables that are made of the rules. No walk takes more than one for each byte of its key.
pub record Walks (words : List (List ℕ)) (old new : List Heard) (steps_old steps_new : ℕ)
    : Type 0 where
  pub heard : Hears words old new
  pub tables : Tables
  pub ip4 : tables.ip4 ≡ built_of (set_of Ip4 heard.rules) (budget_given heard.options)
  pub ip6 : tables.ip6 ≡ built_of (set_of Ip6 heard.rules) (budget_given heard.options)
  pub steps : steps_new
      ≡ steps_old + transitions_of_records tables (whole_records heard.capture.bytes)
  pub bound : steps_new ≤ steps_old + most_of_records tables (whole_records heard.capture.bytes)

-- Wherever `classify` ends with Done, or with a refused capture, it walked so.
abbrev pub ClassifyWalks : List (List ℕ) → Status → List Heard → List Heard → ℕ → ℕ → Type 0
ClassifyWalks words status old new steps_old steps_new =
    (after : List (List ℕ)) (fault : Option CaptureFault) → words ≡ codes "classify" ∷ after →
    status ≡ status_of_fault fault → Walks words old new steps_old steps_new
