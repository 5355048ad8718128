-- What the code holds of a command, as the definitions name it.
use Rattle.std.specs.Prelude.{ℕ, ◌+◌, Option}
use Rattle.std.specs.Option.{option_map, option_len}
use Rattle.rule_set.specs.declared.categories.Categories.{Categories}
use Rattle.command_words.specs.declared.command_line.Request as asked
use Rattle.command_words.specs.declared.command_line.Request.TheVariants as variants
use Rattle.command_words.specs.declared.options.Options as chosen
use Rattle.command_words.specs.declared.bench_numbers.BenchNumbers as numbers
use Rattle.command_words.specs.declared.budget.Budget.{Budget}
use Rattle.command_words.specs.Options.{Options, Given}
use Rattle.command_words.specs.BenchWords.{BenchNumbers}
use Rattle.command_words.specs.declared.command_line.OneName.{OneName}
use Rattle.command_words.specs.declared.command_line.TwoNames.{TwoNames}
use Rattle.command_words.specs.Command.{Request, Audit, Bench, Build, Classify, Named, Replay}
use Rattle.command_words.specs.Command.{Compare, Session, Single}

-- the options of a command
abbrev pub options_of : chosen.Options → Options
options_of options = record {
  categories = options.categories.count;
  walk = options.walk;
  max_words = options.max_words.words;
  stats = options.stats;
  marks = options.marks;
}

-- the numbers after `bench`
abbrev pub numbers_in : numbers.BenchNumbers → BenchNumbers
numbers_in asked = record { seed = asked.seed; rules = asked.rules; packets = asked.packets }

-- the command with its names and options
abbrev pub request_of : asked.Request → Request
request_of (variants.Classify rules capture options) =
    Classify rules.now capture.now (options_of options)
request_of (variants.Build rules image max_words) = Build rules.now image.now max_words.words
request_of (variants.Replay image capture options) =
    Replay image.now capture.now (options_of options)
request_of (variants.Bench numbers) = Bench (numbers_in numbers)
request_of (variants.Audit rules categories max_words) =
    Audit rules.now categories.count max_words.words
request_of (variants.Compare rules second max_words) = Compare rules.now second.now max_words.words
request_of (variants.Session script) = Session script.now

-- the names of two files, and the options after them
abbrev pub named_in : TwoNames → Named
named_in names = record {
  first = names.first.now;
  second = names.second.now;
  options = options_of names.options;
}

-- the name of a file, and the options after it
abbrev pub single_in : OneName → Single
single_in one = record { name = one.name.now; options = options_of one.options }

-- the number of categories, if it was given
abbrev pub count_of : Option Categories → Option ℕ
count_of categories = option_map (λ c. c.count) categories

-- the number of words, if it was given
abbrev pub words_of : Option Budget → Option ℕ
words_of budget = option_map (λ b. b.words) budget

-- how many options were given so far
abbrev pub options_given : Given → ℕ
options_given given =
    option_len given.categories + option_len given.walk + option_len given.max_words
    + option_len given.stats + option_len given.marks
