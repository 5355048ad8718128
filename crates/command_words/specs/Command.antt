-- Which command the words of a command line are. The words are read from left to right, and the
-- first fault decides.
use Rattle.std.specs.Prelude.{ℕ, ◌+◌, List, [], ◌∷◌, Option, Some, None, Result, Ok, Err, codes}
use Rattle.std.specs.Prelude.{if◌then◌else◌}
use Rattle.std.specs.Str.{bytes_eq}
use Rattle.command_words.specs.declared.usage_fault.UsageFault.{UsageFault}
use Rattle.command_words.specs.declared.usage_fault.UsageKind.{UsageKind}
use Rattle.command_words.specs.declared.usage_fault.UsageKind.TheVariants.{MissingCommand, UnknownCommand}
use Rattle.command_words.specs.declared.usage_fault.UsageKind.TheVariants.{MissingName}
use Rattle.command_words.specs.BenchWords.{BenchNumbers, numbers_of}
use Rattle.command_words.specs.Options.{Options, Given, none_given, settled_options, with_option}
use Rattle.command_words.specs.Options.{for_audit, for_build, for_classify, for_compare}
use Rattle.command_words.specs.Options.{for_replay, for_session}
use Rattle.command_words.specs.declared.allowed.Allowed.{Allowed}

-- a command: `classify` has the names of a rule file and of a capture, `build` those of a rule file
-- and of the image that it makes, `replay` those of an image and of a capture, `bench` has numbers,
-- `audit` has the name of a rule file, `compare` those of two, and `session` that of a script
pub data Request : Type 0 where
  Classify : (rules : List ℕ) → (capture : List ℕ) → (options : Options) → Request
  Build : (rules : List ℕ) → (image : List ℕ) → (max_words : ℕ) → Request
  Replay : (image : List ℕ) → (capture : List ℕ) → (options : Options) → Request
  Bench : (numbers : BenchNumbers) → Request
  Audit : (rules : List ℕ) → (categories : ℕ) → (max_words : ℕ) → Request
  Compare : (rules : List ℕ) → (second : List ℕ) → (max_words : ℕ) → Request
  Session : (script : List ℕ) → Request

-- the name of the capture that a command prints a report of, if it prints one
abbrev pub capture_name : Request → Option (List ℕ)
capture_name (Classify rules capture options) = Some capture
capture_name (Build rules image max_words) = None
capture_name (Replay image capture options) = Some capture
capture_name (Bench numbers) = None
capture_name (Audit rules categories max_words) = None
capture_name (Compare rules second max_words) = None
capture_name (Session script) = None

-- the name of the file that a command makes, if it makes one
abbrev pub made_name : Request → Option (List ℕ)
made_name (Build rules image max_words) = Some image
made_name request = None

-- a fault of the word with this number
abbrev pub fault_at : ℕ → UsageKind → UsageFault
fault_at word kind = record { word = word; kind = kind }

-- what a word adds, and then what comes of the words after it
abbrev pub option_then : ℕ → Result Given UsageKind → (Given → Result Options UsageFault) →
    Result Options UsageFault
option_then number (Err kind) rest = Err (fault_at number kind)
option_then number (Ok given) rest = rest given

-- the options of the words, of which the first has the number, and the command allows these
abbrev pub options_from : Allowed → ℕ → Given → List (List ℕ) → Result Options UsageFault
options_from allowed number given [] = Ok (settled_options given)
options_from allowed number given (word ∷ words) =
    option_then number (with_option allowed given word)
    (λ next. options_from allowed (number + 1) next words)

-- the names of two files, and the options after them
pub record Named : Type 0 where
  pub first : List ℕ
  pub second : List ℕ
  pub options : Options

-- two names with options
abbrev pub named_with : List ℕ → List ℕ → Result Options UsageFault → Result Named UsageFault
named_with first second (Ok options) =
    Ok (record { first = first; second = second; options = options })
named_with first second (Err fault) = Err fault

-- the words after a command of two files: their names, and then options, of which it allows these
abbrev pub named_of : Allowed → List (List ℕ) → Result Named UsageFault
named_of allowed [] = Err (fault_at 2 MissingName)
named_of allowed (first ∷ []) = Err (fault_at 3 MissingName)
named_of allowed (first ∷ second ∷ words) =
    named_with first second (options_from allowed 4 none_given words)

-- the name of a file, and the options after it
pub record Single : Type 0 where
  pub name : List ℕ
  pub options : Options

-- a name with options
abbrev pub single_with : List ℕ → Result Options UsageFault → Result Single UsageFault
single_with name (Ok options) = Ok (record { name = name; options = options })
single_with name (Err fault) = Err fault

-- the words after a command of one file: its name, and then options, of which it allows these
abbrev pub single_of : Allowed → List (List ℕ) → Result Single UsageFault
single_of allowed [] = Err (fault_at 2 MissingName)
single_of allowed (name ∷ words) = single_with name (options_from allowed 3 none_given words)

-- what `classify` asks for
abbrev pub classify_request : Named → Request
classify_request named = Classify named.first named.second named.options

-- what `build` asks for
abbrev pub build_request : Named → Request
build_request named = Build named.first named.second named.options.max_words

-- what `replay` asks for
abbrev pub replay_request : Named → Request
replay_request named = Replay named.first named.second named.options

-- what `audit` asks for
abbrev pub audit_request : Single → Request
audit_request single = Audit single.name single.options.categories single.options.max_words

-- what `compare` asks for
abbrev pub compare_request : Named → Request
compare_request named = Compare named.first named.second named.options.max_words

-- what `session` asks for
abbrev pub session_request : Single → Request
session_request single = Session single.name

-- what is asked for by what was read of the words after a command
abbrev pub asked_by : {A : Type 0} → (A → Request) → Result A UsageFault → Result Request UsageFault
asked_by ask (Ok read) = Ok (ask read)
asked_by ask (Err fault) = Err fault

-- the command of a verb that names no table, and of the words after it
abbrev pub other_command : List ℕ → List (List ℕ) → Result Request UsageFault
other_command verb words =
    if bytes_eq verb (codes "bench") then asked_by Bench (numbers_of words)
    else if bytes_eq verb (codes "audit") then asked_by audit_request (single_of for_audit words)
    else if bytes_eq verb (codes "compare")
    then asked_by compare_request (named_of for_compare words)
    else if bytes_eq verb (codes "session")
    then asked_by session_request (single_of for_session words)
    else Err (fault_at 1 UnknownCommand)

-- the command of a verb and of the words after it: the table of the commands, one after the other
abbrev pub command_of : List ℕ → List (List ℕ) → Result Request UsageFault
command_of verb words =
    if bytes_eq verb (codes "classify") then asked_by classify_request (named_of for_classify words)
    else if bytes_eq verb (codes "build") then asked_by build_request (named_of for_build words)
    else if bytes_eq verb (codes "replay") then asked_by replay_request (named_of for_replay words)
    else other_command verb words

-- the command of the words, or their first fault
abbrev pub command : List (List ℕ) → Result Request UsageFault
command [] = Err (fault_at 1 MissingCommand)
command (verb ∷ words) = command_of verb words
