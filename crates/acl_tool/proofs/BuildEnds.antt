-- How `build` ends, link by link.
use Rattle.std.proofs.Common.{◌≡◌, ◌≤◌, ℕ, List, length, false, Option, Some, Ok, Err, inl, inr, refl, sym, subst, ap}
use Rattle.std.proofs.Common.{◌∙◌, arith}
use Rattle.std.proofs.lemmas.Bool.{false≢true}
use Rattle.field_defs.specs.declared.field.Family.TheVariants.{Ip4, Ip6}
use Rattle.field_defs.specs.Layout.{key_len_of}
use Rattle.table_sizes.specs.Sizes.{max_rules}
use Rattle.rule_set.specs.Rule.{RuleSetView}
use Rattle.flat_table.specs.Table.{TableView}
use Rattle.table_fill.specs.Serves.{Serves}
use Rattle.table_image.specs.declared.version.Version.TheVariants.{Two}
use Rattle.table_image.specs.Spelling.{CanBeSaved, IsImage, spelled_pair}
use Rattle.table_image.specs.Loading.{pair_of_tables}
use Rattle.acl_outside.specs.Desk.{File, DeskView}
use Rattle.acl_outside.specs.Heard.{Heard}
use Rattle.classbench_reader.specs.RuleFile.{RuleLists, rule_file_of}
use Rattle.command_words.specs.Command.{Build}
use Rattle.command_ending.specs.declared.status.Status.{Status}
use Rattle.command_ending.specs.declared.status.Status.TheVariants.{Done, RulesRefused, WriteFault}
use Rattle.command_ending.specs.Plan.{◌>>=◌, Outcome, Plan, Give, making}
use Rattle.command_ending.specs.Endings.{is_decided, is_reported, is_usage}
use Rattle.command_ending.specs.StepEffects.{Outside, EndsMaking, MakesAll, Takes, files_of, heard_of}
use Rattle.command_ending.proofs.Offered.{BeginsWith-nothing, IsFaithful, faithful_unless}
use Rattle.command_ending.proofs.Offered.{Ends-stopped, Ends-full, Ends-cut, Ends-then, Ends-made, Ends-broken}
use Rattle.capture_report.specs.Classifier.{Tables}
use Rattle.acl_tool.specs.RuleTables.{rules_of_bytes, rules_in, tables_within}
use Rattle.acl_context.specs.Context.{built_of}
use Rattle.acl_tool.specs.FamilySet.{set_of}
use Rattle.acl_tool.specs.Built.{IsBuilt, Refuses, tables_built}
use Rattle.acl_tool.specs.BuildPlan.{build_plan, image_bytes, pair_of}
use Rattle.acl_tool.specs.BuildSaved.{IsImageOfRules, IsSaved}
use Rattle.acl_tool.specs.CommandEffects.{Answers}
use Rattle.acl_tool.specs.BuildSaved.{HasImage}
use Rattle.acl_tool.proofs.Answering.{Answers-request}
use Rattle.acl_tool.proofs.RuleFiles.{HasRules, rules_heard, with_rules}
use Rattle.acl_tool.proofs.Making.{same_tables}
use Rattle.acl_tool.proofs.RuleFiles.{tables_faithful}

-- what comes after the tables
abbrev pub image_by : List ℕ → Tables → Plan Outcome
image_by image tables = Give (making image (image_bytes tables))

-- what comes after the rules
abbrev image_in : List ℕ → ℕ → RuleLists → Plan Outcome
image_in image max_words lists = tables_within max_words lists >>= image_by image

-- what `build` prints while it reads is the first part of what it prints in all
build_faithful : (rules image : List ℕ) (max_words : ℕ) (files : List File) →
    IsFaithful files (build_plan rules image max_words)
build_faithful rules image max_words files = (
  λ bytes more. BeginsWith-nothing _,
  λ bytes. faithful_unless files (rules_of_bytes RulesRefused bytes) (image_in image max_words)
      (λ lists. tables_faithful files max_words lists (image_by image) (λ tables. tt)),
)

-- a table that answers as the rules of a set do can be saved
can_save : (set : RuleSetView) (key_len : ℕ) (table : TableView) → Serves set table →
    key_len_of set.layout ≡ key_len → length set.rules ≤ max_rules → CanBeSaved key_len table
can_save set key_len table serves keys few = record {
  keys = serves.key_len ∙ keys;
  few = omega (arith, serves.rules, few);
  ranked = serves.ranked;
}

-- the tables that two contexts have are those of the rules
tables_are : (budget : ℕ) (lists : RuleLists) (ip4 ip6 : Option TableView) (one two : TableView) →
    IsBuilt budget lists ip4 ip6 → ip4 ≡ Some one → ip6 ≡ Some two →
    (let tables : Tables = record { ip4 = one; ip6 = two } in tables) ≡ tables_built lists budget
tables_are budget lists ip4 ip6 one two built is_one is_two =
    sym (same_tables budget lists ip4 ip6 one two built is_one is_two) ∙ built.are

-- and both can be saved
pub saved_both : (budget : ℕ) (lists : RuleLists) (ip4 ip6 : Option TableView) (one two : TableView) →
    IsBuilt budget lists ip4 ip6 → ip4 ≡ Some one → ip6 ≡ Some two →
    (length lists.ip4 ≤ max_rules) × (length lists.ip6 ≤ max_rules) → CanBeSaved 13 one × CanBeSaved 37 two
saved_both budget lists ip4 ip6 one two built is_one is_two few =
    let are = tables_are budget lists ip4 ip6 one two built is_one is_two in (
      subst (CanBeSaved 13) (sym (ap (λ (t : Tables). t.ip4) are))
          (can_save (set_of Ip4 lists) 13 (built_of (set_of Ip4 lists) budget) (built.serve Ip4) refl few.0),
      subst (CanBeSaved 37) (sym (ap (λ (t : Tables). t.ip6) are))
          (can_save (set_of Ip6 lists) 37 (built_of (set_of Ip6 lists) budget) (built.serve Ip6) refl few.1),
    )

-- what is saved of them is the image of the tables of the rules
pub image_saved : (budget : ℕ) (lists : RuleLists) (ip4 ip6 : Option TableView) (one two : TableView)
    (bytes : List ℕ) → IsBuilt budget lists ip4 ip6 → ip4 ≡ Some one → ip6 ≡ Some two →
    bytes ≡ spelled_pair Two (pair_of_tables one two) → IsImage Two bytes (pair_of_tables one two) →
    IsSaved budget lists bytes
image_saved budget lists ip4 ip6 one two bytes built is_one is_two spelled is =
    let are = tables_are budget lists ip4 ip6 one two built is_one is_two in
    let spelling : bytes ≡ image_bytes (tables_built lists budget) = spelled ∙ ap image_bytes are in
    record {
      within = built.within ∙ ap Give built.are;
      spelled = spelling;
      image = record {
        image = subst (λ (t : Tables). IsImage Two (image_bytes t) (pair_of t)) are
            (subst (λ (b : List ℕ). IsImage Two b (pair_of_tables one two)) spelled is);
        serve = built.serve;
      };
    }

-- a request that ended so
answered : (rules image : List ℕ) (max_words : ℕ) (old new : Outside) (status : Status) →
    EndsMaking (Some image) (build_plan rules image max_words) old new status → is_usage status ≡ false →
    (status ≡ Done → HasImage (Build rules image max_words) (heard_of old.desk) (heard_of new.desk)) →
    Answers (Ok (Build rules image max_words)) old new status
answered rules image max_words old new status ends lawful imaged =
    Answers-request (Build rules image max_words) old new status
    record {
      faithful = build_faithful rules image max_words;
      ends = ends;
      lawful = lawful;
      opened = λ files told reported. tt;
      totals = λ reported. tt;
      image = imaged;
      keeps_up = λ w. tt;
    }

-- such a status isn't done
undone : {A : Type 0} (status : Status) → is_reported status ≡ false → status ≡ Done → A
undone status unreported done = absurd (false≢true (sym unreported ∙ ap is_reported done))

-- the rule file ends the command
pub Build-no_rules : {X : Type 0} (rules image : List ℕ) (max_words : ℕ) (seen : X → RuleLists) (old : Outside)
    (desk : DeskView) (status : Status) → Takes (rules_in RulesRefused rules) seen old.desk desk (Err status) →
    Answers (Ok (Build rules image max_words)) old (record old { desk = desk }) status
Build-no_rules rules image max_words seen old desk status step =
    answered rules image max_words old (record old { desk = desk }) status
    (Ends-cut (Some image) (rules_in RulesRefused rules) seen (image_in image max_words) old desk status step)
    step.lawful (undone status step.unreported)

-- the tables aren't made
pub Build-no_tables : {X : Type 0} (rules image : List ℕ) (max_words : ℕ) (seen : X → RuleLists) (old : Outside)
    (status : Status) (has : HasRules rules seen old) → Refuses max_words (seen has.set) status →
    Answers (Ok (Build rules image max_words)) old (with_rules rules seen old has) status
Build-no_tables rules image max_words seen old status has (inr full) =
    let view : Outside = with_rules rules seen old has in
    answered rules image max_words old view status
    (Ends-then (Some image) (rules_in RulesRefused rules) seen (image_in image max_words) old view has.desk has.set
    status has.step
    (subst (EndsMaking (Some image) (image_in image max_words (seen has.set)) view view) (sym full)
    (Ends-full (Some image) (image_in image max_words (seen has.set)) view)))
    (ap is_usage full) (undone status (ap is_reported full))
Build-no_tables rules image max_words seen old status has (inl (family, large, stops)) =
    let view : Outside = with_rules rules seen old has in
    let unreported : is_reported status ≡ false = ap is_reported large.says in
    answered rules image max_words old view status
    (Ends-then (Some image) (rules_in RulesRefused rules) seen (image_in image max_words) old view has.desk has.set
    status has.step
    (subst (λ (plan : Plan Tables). EndsMaking (Some image) (plan >>= image_by image) view view status) (sym stops)
    (Ends-stopped (Some image) status view unreported (ap is_decided large.says))))
    (ap is_usage large.says) (undone status unreported)

-- the image is that of the rules which were heard
heard_image : {X : Type 0} (rules image : List ℕ) (max_words : ℕ) (seen : X → RuleLists) (old : Outside)
    (has : HasRules rules seen old) (new : List Heard) → new ≡ heard_of has.desk →
    IsImageOfRules (seen has.set) max_words → HasImage (Build rules image max_words) (heard_of old.desk) new
heard_image rules image max_words seen old has new same of rule_file lists newest accepted =
    let (heard, next, read) = rules_heard rules (files_of old.desk) (heard_of old.desk) (heard_of has.desk)
    has.step.reached (seen has.set) has.step.follows has.step.answer in
    let file_same : rule_file ≡ heard = (let e = sym newest ∙ same ∙ next in cc) in
    let lists_same : lists ≡ seen has.set =
    (let e = sym accepted ∙ ap (λ (h : Heard). rule_file_of h.bytes) file_same ∙ read in cc) in
    subst (λ (l : RuleLists). IsImageOfRules l max_words) (sym lists_same) of

-- the tables were made, and then the command ended
ended_after : {X : Type 0} (rules image : List ℕ) (max_words : ℕ) (seen : X → RuleLists) (old new : Outside)
    (status : Status) (has : HasRules rules seen old) (tables : Tables) →
    tables_within max_words (seen has.set) ≡ Give tables →
    EndsMaking (Some image) (image_by image tables) (with_rules rules seen old has) new status →
    EndsMaking (Some image) (build_plan rules image max_words) old new status
ended_after rules image max_words seen old new status has tables within rest =
    Ends-then (Some image) (rules_in RulesRefused rules) seen (image_in image max_words) old new has.desk has.set
    status has.step
    (subst (λ (plan : Plan Tables).
    EndsMaking (Some image) (plan >>= image_by image) (with_rules rules seen old has) new status) (sym within) rest)

-- the image was made
pub Build-made : {X T E : Type 0} (rules image : List ℕ) (max_words : ℕ) (seen : X → RuleLists) (old : Outside)
    (has : HasRules rules seen old) (tables : Tables) (new : DeskView) (x : T) →
    tables_within max_words (seen has.set) ≡ Give tables → IsImageOfRules (seen has.set) max_words →
    MakesAll {E = E} image (image_bytes tables) has.desk new (Ok x) →
    Answers (Ok (Build rules image max_words)) old (record old { desk = new }) Done
Build-made rules image max_words seen old has tables new x within of makes =
    let end : Outside = record old { desk = new } in
    answered rules image max_words old end Done
    (ended_after rules image max_words seen old end Done has tables within
    (Ends-made image (image_bytes tables) has.desk new old.out old.steps x makes))
    refl (λ done. heard_image rules image max_words seen old has (heard_of new) makes.heard.heard of)

-- it couldn't be made, or not whole
pub Build-broken : {X T E : Type 0} (rules image : List ℕ) (max_words : ℕ) (seen : X → RuleLists) (old : Outside)
    (has : HasRules rules seen old) (tables : Tables) (new : DeskView) (e : E) →
    tables_within max_words (seen has.set) ≡ Give tables →
    MakesAll {T = T} image (image_bytes tables) has.desk new (Err e) →
    Answers (Ok (Build rules image max_words)) old (record old { desk = new }) WriteFault
Build-broken rules image max_words seen old has tables new e within makes =
    let end : Outside = record old { desk = new } in
    answered rules image max_words old end WriteFault
    (ended_after rules image max_words seen old end WriteFault has tables within
    (Ends-broken image (image_bytes tables) has.desk new old.out old.steps e makes))
    refl (λ done. absurd (cc))
