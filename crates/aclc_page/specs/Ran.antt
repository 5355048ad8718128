-- What a page is told of a command that was run over its bytes.
use Rattle.std.specs.Prelude.{◌≡◌, ℕ, ◌⊎◌, List, [], length, take, drop, min, map, true, Option, Some, None, Result, Ok, Err, string_bytes}
use Rattle.acl_outside.specs.Desk.{File}
use Rattle.acl_outside.specs.Memory.{MemDeskView, shown_desk}
use Rattle.acl_outside.specs.Sink.{SinkView}
use Rattle.command_ending.specs.declared.status.Status.{Status}
use Rattle.command_ending.specs.declared.status.Status.TheVariants.{OutOfMemory}
use Rattle.command_ending.specs.Endings.{is_decided}
use Rattle.command_ending.specs.Message.{code_of, message}
use Rattle.command_ending.specs.StepEffects.{outside}
use Rattle.command_words.specs.Command.{command}
use Rattle.acl_tool.specs.CommandEffects.{Runs, makes_of}
use Rattle.acl_tool.specs.Outcome.{outcome}
use Rattle.aclc_page.specs.Given.{desk_of, no_memory}
use Rattle.aclc_page.specs.declared.exports.Lens.{Lens}
use Rattle.aclc_page.specs.declared.printing.Printed.{Printed}
use Rattle.std.specs.declared.alloc.AllocError.{AllocError}

-- a sink that took this text, and never failed
abbrev pub sink_of : List ℕ → SinkView
sink_of text = record { taken = text; written = Some text; faults = 0 }

-- the words are those of a command that makes no file
abbrev pub MakesNothing : List (List ℕ) → Type 0
MakesNothing words = makes_of (command words) ≡ None

-- The command of the words was run over these files and nothing else: it printed `said` and told
-- `told`, and ended with this code.
pub record Ran (words : List (List ℕ)) (files : List File) (said told : List ℕ) (code : ℕ)
    : Type 0 where
  pub desk : MemDeskView
  pub status : Status
  pub steps : ℕ
  pub ended : code ≡ code_of status
  -- all that `run` promises
  pub runs : Runs words (outside (shown_desk (desk_of files)) (sink_of []) 0)
      (outside (shown_desk desk) (sink_of said) steps) (sink_of []) (sink_of told) status
  -- the status and the text are those of the outcome of the files, or there was no memory
  pub decides : (status ≡ (outcome words files).status) ⊎ (status ≡ OutOfMemory)
  pub text : is_decided status ≡ true → said ≡ (outcome words files).text
  -- the message is that of the status
  pub message : told ≡ message status

-- As many of the bytes as have room were copied to the front of a slice, the bytes after them are
-- as before, and the length of all was told.
pub record Handed (bytes old new : List ℕ) (len : ℕ) : Type 0 where
  pub told : len ≡ length bytes
  pub size : length new ≡ length old
  pub front : take (min (length bytes) (length old)) new
      ≡ take (min (length bytes) (length old)) bytes
  pub rest : drop (min (length bytes) (length old)) new
      ≡ drop (min (length bytes) (length old)) old

-- the slices that a page lends: room for what is printed, and for the message
pub record Room : Type 0 where
  pub out : List ℕ
  pub err : List ℕ

-- a room of these two
abbrev pub room : List ℕ → List ℕ → Room
room out err = record { out = out; err = err }

-- There was no memory, and nothing was handed over.
pub record HandsNothing (old new : Room) (lens : Lens) (code : ℕ) : Type 0 where
  pub ended : code ≡ no_memory
  pub out : lens.out ≡ 0
  pub err : lens.err ≡ 0
  pub kept : new ≡ old

-- What was printed and the message were handed over.
pub record HandsOver (said told : List ℕ) (old new : Room) (lens : Lens) : Type 0 where
  pub out : Handed said old.out new.out lens.out
  pub err : Handed told old.err new.err lens.err

-- what was printed was handed over with its code, or there was no memory
abbrev pub IsHanded : Result Printed AllocError → Room → Room → Lens → ℕ → Type 0
IsHanded (Ok printed) old new lens code =
    (code ≡ printed.code) × HandsOver printed.out.text printed.err.text old new lens
IsHanded (Err fault) old new lens code = HandsNothing old new lens code

-- The command of the words was run over these files and nothing else, and what it printed was
-- handed over with its code. Only want of memory keeps it from that.
abbrev pub Answers : List (List ℕ) → List File → Room → Room → Lens → ℕ → Type 0
Answers words files old new lens code =
    HandsNothing old new lens code
    ⊎ ((said told : List ℕ) × Ran words files said told code × HandsOver said told old new lens)
