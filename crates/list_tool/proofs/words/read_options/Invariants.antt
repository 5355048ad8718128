-- the options so far were read, and the rest gives what all of the words give
use Rattle.std.proofs.Common.{◌≡◌, ◌+◌, ◌≤◌, map, drop}
use Rattle.std.specs.Prelude.{string_bytes}
use Rattle.list_tool.specs.Words.{given_len, none_given, options_from}
use Rattle.list_tool.specs.Requests.{given_of}
use Rattle.list_tool.proofs.words.read_options.Given as goal

abbrev pub invariant-loop-word : goal.invariant-loop-word
invariant-loop-word l = record {
  number : l.number ≤ 4 + given_len (given_of l.given);
  options : options_from l.number (given_of l.given) (map string_bytes (drop l.word-index l.words))
      ≡ options_from 4 none_given (map string_bytes l.words);
}
