use Rattle.command_words.specs.CommandLine.{options_of}
use Rattle.command_ending.specs.StepEffects.{Outside, outside}
use Rattle.acl_tool.specs.ReplayLoaded.{tables_of}
use Rattle.acl_tool.proofs.ReplayEnds.{Replay-no_image, Replay-reported}
use Rattle.acl_tool.proofs.replay.replay.Goals as goal

pub returns-in-Err : goal.returns-in-Err
returns-in-Err g c =
    let desk = g.D.Desk.view in
    let old : Outside = outside (desk c.args.desk.now) (g.O.Sink.view c.args.out.now) c.args.steps.now in
    Replay-no_image c.args.image.now c.args.capture.now (options_of c.args.options.now) tables_of old
    (desk c.read_image.new.desk) c.in-Err.status c.in-Err.ensures.taken

pub returns : goal.returns
returns g c =
    let desk = g.D.Desk.view in
    let out = g.O.Sink.view in
    let old : Outside = outside (desk c.args.desk.now) (out c.args.out.now) c.args.steps.now in
    Replay-reported c.args.image.now c.args.capture.now (options_of c.args.options.now) tables_of old
    (outside (desk c.print_packets.new.desk) (out c.print_packets.new.out) c.print_packets.new.steps)
    (desk c.read_image.new.desk) c.in-Ok.pair c.print_packets.result c.in-Ok.ensures.taken
    c.print_packets.ensures.by_tables
