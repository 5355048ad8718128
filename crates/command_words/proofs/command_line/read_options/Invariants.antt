-- the options so far were read, and the rest gives what all of the words give
use Rattle.std.proofs.Common.{◌≡◌, ◌+◌, ◌≤◌, map, drop}
use Rattle.std.specs.Prelude.{string_bytes}
use Rattle.command_words.specs.Options.{none_given}
use Rattle.command_words.specs.Command.{options_from}
use Rattle.command_words.specs.CommandLine.{options_given}
use Rattle.command_words.proofs.command_line.read_options.Given as goal

abbrev pub invariant-loop-word : goal.invariant-loop-word
invariant-loop-word l = record {
  number : l.number ≤ l.first + options_given l.given;
  options : options_from l.allowed l.number l.given (map string_bytes (drop l.word-index l.words))
      ≡ options_from l.allowed l.first none_given (map string_bytes l.words);
}
