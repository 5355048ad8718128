-- What the statuses of a command have in common. A status that isn't named here is like most.
use Rattle.std.specs.Prelude.{Bool, true, false}
use Rattle.command_ending.specs.declared.status.Status.{Status}
use Rattle.command_ending.specs.declared.status.Status.TheVariants.{Done, Usage, CaptureRefused}
use Rattle.command_ending.specs.declared.status.Status.TheVariants.{ReadFault, WriteFault}
use Rattle.command_ending.specs.declared.status.Status.TheVariants.{OutOfMemory}

-- A status that comes with a report, or a first part of one.
abbrev pub is_reported : Status → Bool
is_reported Done = true
is_reported (CaptureRefused fault) = true
is_reported WriteFault = true
is_reported status = false

-- A status is decided where it is a function of the words and the files.
abbrev pub is_decided : Status → Bool
is_decided ReadFault = false
is_decided WriteFault = false
is_decided OutOfMemory = false
is_decided status = true

-- A status of words that are no command.
abbrev pub is_usage : Status → Bool
is_usage (Usage fault) = true
is_usage status = false
