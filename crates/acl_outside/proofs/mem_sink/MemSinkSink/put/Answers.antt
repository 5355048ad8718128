use Rattle.std.proofs.Common.{rules}
use Rattle.acl_outside.proofs.mem_sink.MemSinkSink.put.Goals as goal

pub returns-clause-puts_prefix : goal.returns-clause-puts_prefix
returns-clause-puts_prefix c = record {
  within = search rules;
  taken = search rules;
  progress = search rules;
  empty = search rules;
  took_nothing = tt;
  cause = tt;
  count = search rules;
}
