-- An image prints what the rules print of which it was made.
use Rattle.std.proofs.Common.{◌≡◌, ℕ, ◌≤◌, List, Bool, Option, Some, Result, Ok, Err, sym, ap, ◌∙◌}
use Rattle.std.specs.Option.{option_map_or}
use Rattle.field_defs.specs.declared.field.Family.TheVariants.{Ip4, Ip6}
use Rattle.rule_set.specs.declared.categories.Categories.{Categories}
use Rattle.table_sizes.specs.Sizes.{max_words}
use Rattle.flat_table.specs.declared.walk.Walk.{Walk}
use Rattle.table_fill.specs.Laws.{FilledTablesDecide}
use Rattle.acl_outside.specs.Desk.{File, bytes_of}
use Rattle.classbench_reader.specs.Accepted.{AcceptedRulesAreLawful}
use Rattle.classbench_reader.specs.declared.rules_fault.LineFault.{LineFault}
use Rattle.classbench_reader.specs.RuleFile.{RuleLists, rule_file_of}
use Rattle.table_image.proofs.Offered.{image_spelled}
use Rattle.command_words.specs.Options.{Options}
use Rattle.command_ending.specs.declared.status.Status.{Status}
use Rattle.command_ending.specs.declared.status.Status.TheVariants.{ReadFault, RulesRefused}
use Rattle.command_ending.specs.Plan.{◌>>=◌, Plan, Give, found, settled, unless_refused}
use Rattle.capture_report.specs.declared.form.PrintOptions.{PrintOptions}
use Rattle.capture_report.specs.Classifier.{ByRules, ByTables, Tables}
use Rattle.capture_report.specs.ReportForm.{ReportForm}
use Rattle.capture_report.specs.CaptureOutcome.{report, reported}
use Rattle.capture_report.proofs.Offered.{categories_few, report_alike}
use Rattle.acl_tool.specs.RuleTables.{refused_rules, tables_within}
use Rattle.acl_tool.specs.Built.{tables_built}
use Rattle.acl_tool.specs.BuildPlan.{pair_of}
use Rattle.acl_tool.specs.ClassifyPlan.{classify_plan, form_of}
use Rattle.acl_tool.specs.ReplayPlan.{refused_image, replay_plan, tables_of_bytes}
use Rattle.acl_tool.specs.Laws.{ReplayAgrees}
use Rattle.acl_tool.proofs.Making.{serving_tables, within_both}
use Rattle.acl_tool.proofs.PacketBytes.{packets_of_bytes}
use Rattle.acl_tool.proofs.ClassifyHeard.{after_bytes, after_rules}
use Rattle.acl_tool.proofs.Served.{tables_serve}
use Rattle.acl_tool.proofs.ReplayEnds.{report_by}

-- the report of a capture that is there
report_found : (form : ReportForm) (files : List File) (c capture : List ℕ) → bytes_of files c ≡ Some capture →
    found (reported form c) files ≡ Ok (report form capture)
report_found form files c capture there =
    ap (λ (o : Option (List ℕ)). option_map_or (λ bytes. found (Give (report form bytes)) files) o (Err ReadFault))
    there

-- what `classify` comes to, where its files are there and its rules fit
classify_found : (files : List File) (r c rules capture : List ℕ) (options : Options) (lists : RuleLists)
    (tables : Tables) → bytes_of files r ≡ Some rules → bytes_of files c ≡ Some capture →
    rule_file_of rules ≡ Ok lists → tables_within options.max_words lists ≡ Give tables →
    found (classify_plan r c options) files ≡ Ok (report (form_of (ByRules lists) tables options) capture)
classify_found files r c rules capture options lists tables at_r at_c accepted within =
    ap (λ (o : Option (List ℕ)). option_map_or (λ bytes. found (after_bytes options c bytes) files) o (Err ReadFault))
    at_r
    ∙ ap (λ (result : Result RuleLists LineFault).
    found (unless_refused (refused_rules RulesRefused result) >>= after_rules options c) files) accepted
    ∙ ap (λ (plan : Plan Tables).
    found (plan >>= λ made. reported (form_of (ByRules lists) made options) c) files) within
    ∙ report_found (form_of (ByRules lists) tables options) files c capture at_c

-- what `replay` comes to, where its files are there and the image has these tables
replay_found : (files : List File) (i c image capture : List ℕ) (options : Options) (tables : Tables) →
    bytes_of files i ≡ Some image → bytes_of files c ≡ Some capture → tables_of_bytes image ≡ Ok tables →
    found (replay_plan i c options) files ≡ Ok (report (form_of (ByTables tables) tables options) capture)
replay_found files i c image capture options tables at_i at_c loaded =
    ap (λ (o : Option (List ℕ)).
    option_map_or (λ bytes. found (unless_refused (tables_of_bytes bytes) >>= report_by options c) files) o
    (Err ReadFault)) at_i
    ∙ ap (λ (result : Result Tables Status). found (unless_refused result >>= report_by options c) files) loaded
    ∙ report_found (form_of (ByTables tables) tables options) files c capture at_c

-- a `replay` of an image prints what a `classify` prints by the rules of which it was made
pub agrees : FilledTablesDecide → AcceptedRulesAreLawful → (rules image capture : List ℕ) (budget : ℕ)
    (cats : Categories) (stats marks : Bool) → budget ≤ max_words → (walk : Walk) →
    ReplayAgrees rules image capture
    (record { categories = cats.count; walk = walk; max_words = budget; stats = stats; marks = marks })
agrees decide lawful rules image capture budget cats stats marks within walk saved bytes files r i c at_r at_i at_c =
    let serve = tables_serve decide lawful rules saved.lists budget saved.accepted saved.fits within in
    let options : Options =
    record { categories = cats.count; walk = walk; max_words = budget; stats = stats; marks = marks } in
    let printed : PrintOptions = record { cats = cats; walk = walk; stats = stats; marks = marks } in
    let tables : Tables = tables_built saved.lists budget in
    let loaded : tables_of_bytes image ≡ Ok tables =
    ap refused_image (image_spelled saved.version image (pair_of tables) saved.image) in
    let same = report_alike (ByRules saved.lists) tables printed (serving_tables saved.lists budget serve)
    (categories_few cats.count cats.lawful) capture (packets_of_bytes capture bytes) in
    ap settled (replay_found files i c image capture options tables at_i at_c loaded)
    ∙ sym same
    ∙ ap settled (sym (classify_found files r c rules capture options saved.lists tables at_r at_c saved.accepted
    (within_both saved.lists budget (saved.fits Ip4) (saved.fits Ip6))))
