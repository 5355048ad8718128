-- A list of iptables-save or ip6tables-save, line by line: tables, each with its chains, their
-- rules, and COMMIT (iptables-save(8), iptables-restore(8)). Empty lines, and lines that begin with
-- `#`, say nothing, unless they tell of tables that the list lacks. The chains are those of the
-- table `filter`; what other tables may drop of the packets of one of its chains is a fault.
use Rattle.std.specs.Prelude.{ℕ, ◌+◌, ◌==◌, Bool, true, false, not, ◌&&◌, ◌||◌, bit_and, bit_or, nat_lt}
use Rattle.std.specs.Prelude.{is_some, slice_set}
use Rattle.std.specs.Prelude.{drop, slice_index_or, if◌then◌else◌, codes, List, [], ◌∷◌, ◌++◌, length}
use Rattle.std.specs.Prelude.{Option, Some, None, Result, Ok, Err}
use Rattle.std.specs.Str.{bytes_eq}
use Rattle.text_scan.specs.Parts.{lines_of, words_of}
use Rattle.list_chains.specs.declared.chain.Target.{Target}
use Rattle.list_chains.specs.declared.chain.Target.TheVariants as target
use Rattle.iptables_reader.specs.declared.options.Verdict.{Verdict}
use Rattle.iptables_reader.specs.declared.options.Verdict.TheVariants as verdict
use Rattle.iptables_reader.specs.declared.reading.Act.{Act}
use Rattle.iptables_reader.specs.declared.reading.Act.TheVariants as act
use Rattle.iptables_reader.specs.declared.reading.Reading.{Reading}
use Rattle.iptables_reader.specs.declared.fault.LineFault.{LineFault}
use Rattle.iptables_reader.specs.declared.fault.LineKind.{LineKind}
use Rattle.iptables_reader.specs.declared.fault.LineKind.TheVariants.{FileTooLong, NoTable, OtherTable}
use Rattle.iptables_reader.specs.declared.fault.LineKind.TheVariants.{SecondTable, NoCommit, BadChain}
use Rattle.iptables_reader.specs.declared.fault.LineKind.TheVariants.{LacksInterface, MayDrop, NoFilter}
use Rattle.iptables_reader.specs.declared.fault.LineKind.TheVariants.{ChainTwice, LateChain, BadPolicy}
use Rattle.iptables_reader.specs.declared.answers.Answers.{Answers}
use Rattle.iptables_reader.specs.declared.answers.Answers.TheVariants as answers
use Rattle.iptables_reader.specs.declared.answers.Asked.{Asked}
use Rattle.iptables_reader.specs.declared.table.Stage.{Stage}
use Rattle.iptables_reader.specs.declared.table.Stage.TheVariants as stage
use Rattle.iptables_reader.specs.declared.saved_tables.SavedTable.{SavedTable}
use Rattle.iptables_reader.specs.declared.saved_tables.SavedTable.TheVariants as saved
use Rattle.iptables_reader.specs.Chains.{ListedChain, RuleSetting, place_of}
use Rattle.iptables_reader.specs.Options.{is_target}
use Rattle.list_packets.specs.declared.packets.End.TheVariants as end
use Rattle.list_packets.specs.Packets.{rules_of_caught}
use Rattle.list_packets.specs.Values.{first_of}
use Rattle.iptables_reader.specs.Reading.{head_of, options_of}
use Rattle.iptables_reader.specs.Reached.{unless_unsaid, unsaid_from}
use Rattle.iptables_reader.specs.OptionValues.{assumes_lacking, unless}
use Rattle.iptables_reader.specs.SavedTables.{drops, hides_tables, is_base, is_drop, is_on_way, table_bit}
use Rattle.iptables_reader.specs.SavedTables.{table_named}
use Rattle.iptables_reader.specs.Stops.{◌>>=◌, taken}
use Rattle.iptables_reader.specs.Values.{is_counters}

-- how many bytes a list may have
abbrev pub max_list : ℕ
max_list = 16777216

-- What was read of a list, for which something is asked and assumed, of packets of the chain of a
-- name: how many lines, how far they lead in the last table, the bits of the tables that came, the
-- chains of `filter` so far, and those of the last other table.
pub record TableSoFar : Type 0 where
  pub asked : Asked
  pub assumed : List ℕ
  pub name : List ℕ
  pub number : ℕ
  pub stage : Stage
  pub last : SavedTable
  pub given : ℕ
  pub chains : List ListedChain
  pub others : List ListedChain

-- nothing was read
abbrev pub no_table : Asked → List ℕ → List ℕ → TableSoFar
no_table asked assumed name = record {
  asked = asked;
  assumed = assumed;
  name = name;
  number = 0;
  stage = stage.Outside;
  last = saved.Filter;
  given = 0;
  chains = [];
  others = [];
}

-- one line more is read
abbrev pub counted : TableSoFar → TableSoFar
counted table = record table { number = table.number + 1 }

-- ---- the answers of rules

-- the number of a verdict
abbrev pub verdict_answer : Verdict → ℕ
verdict_answer verdict.Accept = 1
verdict_answer verdict.Drop = 2
verdict_answer verdict.Reject = 3
verdict_answer verdict.Return = 0

-- the answer of a verdict on a line
abbrev pub answer_of : Answers → ℕ → Verdict → ℕ
answer_of answers.Line number said = number
answer_of answers.Verdict number said = verdict_answer said

-- what a rule answers for the packets that it decides; one that passes them on has no rules
abbrev pub act_answer : Answers → ℕ → Act → ℕ
act_answer asked number (act.Decide said) = answer_of asked number said
act_answer asked number (act.Jump place) = number
act_answer asked number (act.Go place) = number
act_answer asked number act.Pass = number

-- a verdict decides, but for RETURN
abbrev pub verdict_target : Verdict → Target
verdict_target verdict.Accept = target.Decide
verdict_target verdict.Drop = target.Decide
verdict_target verdict.Reject = target.Decide
verdict_target verdict.Return = target.Return

-- what a rule does with the packets that it catches
abbrev pub act_target : Act → Target
act_target (act.Decide said) = verdict_target said
act_target (act.Jump place) = target.Jump place
act_target (act.Go place) = target.Go place
act_target act.Pass = target.Decide

-- ---- chains

-- the verdict of a policy
abbrev pub policy_named : List ℕ → Option Verdict
policy_named word =
    if bytes_eq word (codes "ACCEPT") then Some verdict.Accept
    else (if bytes_eq word (codes "DROP") then Some verdict.Drop else None)

-- the answer of a base chain's policy
abbrev pub base_policy : Asked → ℕ → Option Verdict → Result (Option ℕ) LineKind
base_policy asked number None = Err BadPolicy
base_policy asked number (Some said) = Ok (Some (answer_of asked.answers number said))

-- the policy of a chain of a table by its word: other chains have `-` in its place
abbrev pub policy_of : Asked → ℕ → SavedTable → List ℕ → List ℕ → Result (Option ℕ) LineKind
policy_of asked number which name word =
    if is_base which name then base_policy asked number (policy_named word)
    else (if bytes_eq word (codes "-") then Ok None else Err BadPolicy)

-- a chain by its name, and the word of its policy
pub record Declaration : Type 0 where
  pub name : List ℕ
  pub word : List ℕ

-- the words of a declaration after its `:`: a name, which isn't that of a target, a policy, and
-- counters
abbrev pub declaration_of : List (List ℕ) → Result Declaration LineKind
declaration_of [] = Err BadChain
declaration_of (name ∷ []) = Err BadChain
declaration_of (name ∷ word ∷ []) = Err BadChain
declaration_of (name ∷ word ∷ counters ∷ []) =
    unless (not (is_counters counters) || is_target name) BadChain
    (Ok (record { name = name; word = word }))
declaration_of (name ∷ word ∷ counters ∷ more ∷ words) = Err BadChain

-- chains with one more, which has no rules
abbrev pub with_chain : List ℕ → Option ℕ → List ListedChain → List ListedChain
with_chain name policy chains =
    chains ++ record { name = name; policy = policy; rules = []; unsaid = None } ∷ []

-- rules follow the chains
abbrev pub is_ruling : Stage → Bool
is_ruling stage.Outside = false
is_ruling stage.Declaring = false
is_ruling stage.Ruling = true

-- a line that declares a chain of `filter`, after its `:`: once, and before any rule
abbrev pub with_declaration : TableSoFar → List ℕ → Result TableSoFar LineKind
with_declaration table text =
    unless (is_ruling table.stage) LateChain
    (declaration_of (words_of text) >>= λ said.
    unless (is_some (place_of false said.name table.chains)) ChainTwice
    (policy_of table.asked table.number table.last said.name said.word >>= λ policy.
    Ok (record table { chains = with_chain said.name policy table.chains })))

-- one of another table, whose policy doesn't drop where packets of the chain come by
abbrev pub with_other_declaration : TableSoFar → List ℕ → Result TableSoFar LineKind
with_other_declaration table text =
    unless (is_ruling table.stage) LateChain
    (declaration_of (words_of text) >>= λ said.
    unless (is_some (place_of false said.name table.others)) ChainTwice
    (policy_of table.asked table.number table.last said.name said.word >>= λ policy.
    unless (is_drop said.word && is_on_way table.last table.name said.name) MayDrop
    (Ok (record table { others = with_chain said.name policy table.others }))))

-- ---- rules

-- a chain where there is none
abbrev pub no_chain : ListedChain
no_chain = record { name = []; policy = None; rules = []; unsaid = None }

-- a chain with a line that no rule file says: the first one counts
abbrev pub with_unsaid : ℕ → LineKind → ListedChain → ListedChain
with_unsaid number kind chain =
    record chain { unsaid = first_of chain.unsaid (Some (record { line = number; kind = kind })) }

-- a chain with the rules of a line, unless there is a cause why no rule file says it
abbrev pub with_act : Asked → ℕ → Reading → Act → Option LineKind → ListedChain → ListedChain
with_act asked number reading does (Some kind) chain = with_unsaid number kind chain
with_act asked number reading does None chain = record chain {
  rules = chain.rules ++ rules_of_caught asked.family reading.caught
      (act_answer asked.answers number does) (act_target does);
}

-- a chain with a line; of a rule that does nothing the next one decides
abbrev pub with_said : Asked → ℕ → Reading → Option Act → ListedChain → ListedChain
with_said asked number reading None chain = chain
with_said asked number reading (Some does) chain =
    with_act asked number reading does reading.cause chain

-- the table with a rule, after which no chain is declared
abbrev pub with_reading : TableSoFar → ℕ → Reading → TableSoFar
with_reading table place reading = record table {
  stage = stage.Ruling;
  chains = slice_set table.chains place
      (with_said table.asked table.number reading reading.act
      (slice_index_or table.chains place no_chain));
}

-- where the rules of the chain at a place are read
abbrev pub setting_at : TableSoFar → ℕ → RuleSetting
setting_at table place = record {
  family = table.asked.family;
  assumed = table.assumed;
  table = table.last;
  chains = table.chains;
  chain = (slice_index_or table.chains place no_chain).name;
}

-- where those of another table are, of whose packets nothing is assumed
abbrev pub other_setting : TableSoFar → ℕ → RuleSetting
other_setting table place = record {
  family = table.asked.family;
  assumed = [];
  table = table.last;
  chains = table.others;
  chain = (slice_index_or table.others place no_chain).name;
}

-- a line of a rule of another table, which doesn't drop packets that come by, whatever it matches
abbrev pub with_other_rule : TableSoFar → List ℕ → Result TableSoFar LineKind
with_other_rule table line =
    head_of table.others (words_of line) >>= λ head.
    options_of (other_setting table head.chain) head.words >>= λ reading.
    unless (drops reading.act
    && is_on_way table.last table.name (slice_index_or table.others head.chain no_chain).name)
    MayDrop (Ok (record table { stage = stage.Ruling }))

-- a line of a rule
abbrev pub with_rule : TableSoFar → List ℕ → Result TableSoFar LineKind
with_rule table line =
    head_of table.chains (words_of line) >>= λ head.
    options_of (setting_at table head.chain) head.words >>= λ reading.
    Ok (with_reading table head.chain reading)

-- ---- lines

-- an empty line, or a comment; 35 is `#`
abbrev pub is_skipped : List ℕ → Bool
is_skipped [] = true
is_skipped (c ∷ cs) = c == 35

-- the line begins with a byte
abbrev pub begins : ℕ → List ℕ → Bool
begins byte [] = false
begins byte (c ∷ cs) = c == byte

-- a table begins, which comes once
abbrev pub with_begun : TableSoFar → SavedTable → Result TableSoFar LineKind
with_begun table which =
    unless (not (bit_and table.given (table_bit which) == 0)) SecondTable
    (Ok (record table {
      stage = stage.Declaring;
      last = which;
      given = bit_or table.given (table_bit which);
      others = [];
    }))

-- a line outside of tables, which has to begin one; 42 is `*`
abbrev pub begun : TableSoFar → List ℕ → Result TableSoFar LineKind
begun table line =
    if begins 42 line
    then taken OtherTable (table_named (drop 1 line)) (λ which. which) >>= with_begun table
    else Err NoTable

-- a line of `filter`: a chain, or a rule; 58 is `:`
abbrev pub with_filter_line : TableSoFar → List ℕ → Result TableSoFar LineKind
with_filter_line table line =
    if begins 58 line then with_declaration table (drop 1 line) else with_rule table line

-- a line of another table
abbrev pub with_other_line : TableSoFar → List ℕ → Result TableSoFar LineKind
with_other_line table line =
    if begins 58 line then with_other_declaration table (drop 1 line)
    else with_other_rule table line

-- a line of a table
abbrev pub with_line_of : SavedTable → TableSoFar → List ℕ → Result TableSoFar LineKind
with_line_of saved.Filter table line = with_filter_line table line
with_line_of saved.Raw table line = with_other_line table line
with_line_of saved.Mangle table line = with_other_line table line
with_line_of saved.Nat table line = with_other_line table line
with_line_of saved.Security table line = with_other_line table line

-- a line of the last table, or its end
abbrev pub with_inside : TableSoFar → List ℕ → Result TableSoFar LineKind
with_inside table line =
    if bytes_eq line (codes "COMMIT") then Ok (record table { stage = stage.Outside })
    else with_line_of table.last table line

-- a line that says something, by how far the list was read
abbrev pub with_staged : Stage → TableSoFar → List ℕ → Result TableSoFar LineKind
with_staged stage.Outside table line = begun table line
with_staged stage.Declaring table line = with_inside table line
with_staged stage.Ruling table line = with_inside table line

-- the table with a line, which was counted: tables that the list lacks may drop packets as well
abbrev pub with_line : TableSoFar → List ℕ → Result TableSoFar LineKind
with_line table line =
    unless (hides_tables line) MayDrop
    (if is_skipped line then Ok table else with_staged table.stage table line)

-- the chains, where the table `filter` came
abbrev pub with_filter : TableSoFar → Result (List ListedChain) LineFault
with_filter table =
    if bit_and table.given (table_bit saved.Filter) == 0
    then Err (record { line = table.number; kind = NoFilter })
    else Ok table.chains

-- the chains, where the last table has ended
abbrev pub ended : TableSoFar → Stage → Result (List ListedChain) LineFault
ended table stage.Outside = with_filter table
ended table stage.Declaring = Err (record { line = table.number; kind = NoCommit })
ended table stage.Ruling = Err (record { line = table.number; kind = NoCommit })

-- the fault of a line, or what the lines after it make
abbrev pub line_then : ℕ → Result TableSoFar LineKind →
    (TableSoFar → Result (List ListedChain) LineFault) →
    Result (List ListedChain) LineFault
line_then number (Err kind) following = Err (record { line = number; kind = kind })
line_then number (Ok table) following = following table

-- what lines make of a table: the first fault is that of the list
unfoldable pub with_lines : TableSoFar → List (List ℕ) → Result (List ListedChain) LineFault
with_lines table [] = ended table table.stage
with_lines table (line ∷ lines) =
    line_then (table.number + 1) (with_line (counted table) line) (λ more. with_lines more lines)

-- all chains of a list, under what is assumed, or its first faulty line
abbrev pub list_of : Asked → List ℕ → List ℕ → List ℕ → Result (List ListedChain) LineFault
list_of asked assumed name bytes =
    if nat_lt max_list (length bytes) then Err (record { line = 0; kind = FileTooLong })
    else with_lines (no_table asked assumed name) (lines_of bytes)

-- the chains, if each line is said that packets of the named chain may come to
abbrev pub said_from : List ℕ → Result (List ListedChain) LineFault →
    Result (List ListedChain) LineFault
said_from name (Err fault) = Err fault
said_from name (Ok chains) = unless_unsaid chains (unsaid_from name chains)

-- an interface is assumed that the packets of a chain lack: those of OUTPUT come by none, and those
-- of INPUT leave by none
abbrev pub assumes_any_lacking : List ℕ → List ℕ → Bool
assumes_any_lacking name assumed =
    assumes_lacking name assumed end.Source || assumes_lacking name assumed end.Destination

-- The chains of a list, for packets that come to the chain of a name: or its first faulty line, or
-- the first one that no rule file says of those that these packets may come to. Other lines that no
-- rule file says have no part in the chain.
abbrev pub chains_of : Asked → List ℕ → List ℕ → List ℕ → Result (List ListedChain) LineFault
chains_of asked assumed name bytes =
    if assumes_any_lacking name assumed then Err (record { line = 0; kind = LacksInterface })
    else said_from name (list_of asked assumed name bytes)
