-- What the code holds of a request and of chains, as the definitions name it.
use Rattle.std.specs.Prelude.{map}
use Rattle.std.specs.Option.{option_map}
use Rattle.std.specs.declared.vec.Vec.{Vec}
use Rattle.std.specs.declared.alloc.Global.{Global}
use Rattle.nft_reader.specs.declared.fault.RuleFault.{RuleFault}
use Rattle.list_tool.specs.declared.listing.Way.{Way}
use Rattle.list_tool.specs.declared.words.Request as asked
use Rattle.list_tool.specs.declared.words.Options as chosen
use Rattle.list_tool.specs.declared.words.Given as so_far
use Rattle.list_tool.specs.Listing.{WayView}
use Rattle.list_tool.specs.Words.{Given, Options, Request}

-- the options
abbrev pub options_of : chosen.Options → Options
options_of options = record { answers = options.answers; assumed = options.assumed.now }

-- those that were given so far
abbrev pub given_of : so_far.Given → Given
given_of given =
    record { answers = given.answers; assumed = option_map (λ text. text.now) given.assumed }

-- the request with its names
abbrev pub request_of : asked.Request → Request
request_of request = record {
  form = request.form;
  file = request.file.now;
  chain = request.chain.now;
  options = options_of request.options;
}

-- chains with their faults, and which of them packets come to
abbrev pub way_view : Way → WayView
way_view way = record {
  chains = way.chains.items;
  faults = map (λ (faults : Vec RuleFault Global). faults.items) way.faults.items;
  start = way.start;
}
