use Rattle.std.proofs.Common.{◌≡◌}
use Rattle.capture_report.specs.Classifier.{Tables}
use Rattle.capture_report.specs.CaptureOutcome.{refusal}
use Rattle.capture_report.specs.ReportForm.{form_by}
use Rattle.command_ending.specs.StepEffects.{outside}
use Rattle.capture_report.proofs.Alike.{Reports-no_room, Streams-alike, PrintsCapture-from, categories_few}
use Rattle.capture_report.proofs.Reader.{ReadHeader-from, begun-from}
use Rattle.capture_report.proofs.Reporting.{Reports-unopened, Reports-full, Reports-header, Reports-streamed}
use Rattle.capture_report.proofs.capture.print_packets.Goals as goal

pub returns-in-Err : goal.returns-in-Err
returns-in-Err g c =
    PrintsCapture-from _ c.args.options.now c.args.capture.now _ _ _
    (λ classifier answers. Reports-no_room _ c.args.capture.now
    (outside (g.D.Desk.view c.args.desk.now) (g.O.Sink.view c.args.out.now) c.args.steps.now))

pub returns-in-Err-open_file : goal.returns-in-Err-open_file
returns-in-Err-open_file g c =
    let desk = g.D.Desk.view in
    PrintsCapture-from _ c.args.options.now c.args.capture.now _ _ _
    (λ classifier answers. Reports-unopened _ c.args.capture.now (desk c.args.desk.now) (desk c.open_file.new.self)
    (g.O.Sink.view c.args.out.now) c.args.steps.now
    c.in-Err-open_file.field-0 c.in-Err-open_file.ensures)

pub print_records-requires-clause-begun : goal.print_records-requires-clause-begun
print_records-requires-clause-begun g c =
    begun-from c.in-Ok-begin.capture (g.D.Desk.view c.open_file.new.self) (g.D.Desk.view c.begin.new.desk)
    c.in-Ok-begin.ensures

pub returns-in-Ok-begin : goal.returns-in-Ok-begin
returns-in-Ok-begin g c =
    let desk = g.D.Desk.view in
    let out = g.O.Sink.view in
    let tables : Tables = record { ip4 = c.args.ip4.now; ip6 = c.args.ip6.now } in
    PrintsCapture-from tables c.args.options.now c.args.capture.now _ _ _
    (λ classifier answers. Reports-streamed (form_by classifier tables c.args.options.now) c.args.capture.now
    c.in-Ok-begin.capture (desk c.args.desk.now) (desk c.open_file.new.self)
    (outside (desk c.begin.new.desk) (out c.args.out.now) c.args.steps.now)
    (outside (desk c.print_records.new.desk) (out c.print_records.new.out) c.print_records.new.steps)
    c.in-Ok-open_file.field-0 c.print_records.result c.in-Ok-open_file.ensures
    (ReadHeader-from c.in-Ok-begin.capture (desk c.open_file.new.self) (desk c.begin.new.desk) c.in-Ok-begin.ensures)
    (Streams-alike classifier tables c.args.options.now answers
    (categories_few c.args.options.now.cats.count c.args.options.now.cats.lawful) _ _ _ _
    (rw c.new-form.ensures at c.print_records.ensures)))

pub returns-in-Err-Capture : goal.returns-in-Err-Capture
returns-in-Err-Capture g c =
    let desk = g.D.Desk.view in
    let is : c.refused.result ≡ refusal c.in-Err-Capture.fault =
    (let told = c.refused.ensures in let same = c.in-Err-Capture.fault-is in cc) in
    rw is
    (PrintsCapture-from _ c.args.options.now c.args.capture.now _ _ _
    (λ classifier answers.
    Reports-header c.in-Err-Capture.fault _ c.args.capture.now (desk c.args.desk.now) (desk c.open_file.new.self)
    (outside (desk c.begin.new.desk) (g.O.Sink.view c.args.out.now) c.args.steps.now) c.in-Ok-open_file.field-0
    c.in-Ok-open_file.ensures
    (rw c.in-Err-Capture.field-0-is at c.in-Err-Capture.ensures)))

pub returns : goal.returns
returns g c =
    let desk = g.D.Desk.view in
    PrintsCapture-from _ c.args.options.now c.args.capture.now _ _ _
    (λ classifier answers. Reports-full _ c.args.capture.now (desk c.args.desk.now) (desk c.open_file.new.self)
    (desk c.begin.new.desk)
    (g.O.Sink.view c.args.out.now) c.args.steps.now c.in-Ok-open_file.field-0 c.in-Ok-open_file.ensures
    (rw c.in-Err-OutOfMemory.field-0-is at c.in-Err-OutOfMemory.ensures))
