use Rattle.acl_outside.proofs.std_sink.StdSink.begun.Given as goal

-- the bytes that the caller names
abbrev pub ghost-new : goal.ghost-new
ghost-new g a = g.held
