-- What the steps of a run say of it.
use Rattle.std.specs.Prelude.{◌≡◌, ◌⊎◌, ◌≤◌, ℕ, ◌+◌, List, length}
use Rattle.acl_outside.specs.Fault.{Rose}
use Rattle.acl_outside.specs.Heard.{Heard, GoesOn, Ended}
use Rattle.acl_outside.specs.Sink.{SinkView, Gains, GainsPrefix}
use Rattle.command_ending.specs.declared.status.Status.{Status}
use Rattle.command_ending.specs.declared.status.Status.TheVariants as status
use Rattle.iptables_reader.specs.Table.{max_list}
use Rattle.list_tool.specs.declared.status.ListStatus.{ListStatus}
use Rattle.list_tool.specs.declared.status.ListStatus.TheVariants.{Done, ReadFault, WriteFault}
use Rattle.list_tool.specs.declared.status.ListStatus.TheVariants.{OutOfMemory}

-- how a run ends whose list isn't read
abbrev pub unread_as : Status → ListStatus
unread_as status.ReadFault = ReadFault
unread_as _ = OutOfMemory

-- A list was read to its end, or so far that it is too long.
abbrev pub IsReadOn : Heard → Type 0
IsReadOn file =
    (file.ending ≡ Ended) ⊎ ((file.ending ≡ GoesOn) × (length file.bytes ≡ max_list + 1))

-- A text was put, or a first part of it where the sink failed.
pub record PutsText (text : List ℕ) (old new : SinkView) (status : ListStatus) : Type 0 where
  pub puts : ((status ≡ Done) × Gains text old new)
      ⊎ ((status ≡ WriteFault) × GainsPrefix text old new × Rose old.faults new.faults)
  pub count : old.faults ≤ new.faults
