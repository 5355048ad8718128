use Rattle.acl_outside.proofs.std_sink.StdSink.new.Given as goal

-- the bytes that the writer holds
abbrev pub ghost-begun : goal.ghost-begun
ghost-begun g a = g.W.Write.contents a.writer
