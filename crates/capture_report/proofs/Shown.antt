-- What is written of a packet by its verdicts and dashes is its line.
use Rattle.std.proofs.Common.{◌≡◌, ℕ, ◌%◌, ◌==◌, List, [], ◌∷◌, Bool, true, false, not, map}
use Rattle.std.proofs.Common.{Some, inl, inr, refl, ap, ◌∙◌}
use Rattle.std.specs.List.{range_with_len}
use Rattle.std.proofs.lemmas.Bool.Decides.{eqb_tells}
use Rattle.std.proofs.lemmas.List.FromFn.{length-range_with_len}
use Rattle.std.proofs.lemmas.Simd.{splat_is_map}
use Rattle.list_lemmas.proofs.Each.{map-map}
use Rattle.list_lemmas.proofs.Maps.{map_agree}
use Rattle.flat_table.specs.Table.{TableView}
use Rattle.flat_table.specs.Walk.{joined, table_verdict, userdatas}
use Rattle.flat_table.specs.Batch.{key_verdicts}
use Rattle.header_extract.specs.declared.class.Class.{Class}
use Rattle.header_extract.specs.declared.class.Class.TheVariants.{Ip4, Ip6, Other, Short}
use Rattle.header_extract.specs.Class.{FrameClass}
use Rattle.acl_report.specs.Packet.{packet_text}
use Rattle.acl_report.specs.Verdicts.{answer, answers}
use Rattle.capture_report.specs.Classifier.{ByTables, answer_of_table}
use Rattle.capture_report.specs.ReportForm.{ReportForm}
use Rattle.capture_report.specs.Shown.{shown}
use Rattle.capture_report.specs.Report.{answers_on, line_of_packet}
use Rattle.capture_report.specs.Batch.{verdicts_on, dashes_of, dashes_on}

-- verdicts and dashes, category by category
pair_up : (f : ℕ → ℕ) (d : ℕ → Bool) (r : List ℕ) → answers (map f r) (map d r) ≡ map (λ c. answer (f c) (d c)) r
pair_up f d [] = refl
pair_up f d (x ∷ xs) = ap (λ l. answer (f x) (d x) ∷ l) (pair_up f d xs)

module _ (table : TableView) (key : List ℕ) where
  -- whether a dash stands for the category
  is_dash : Bool → ℕ → Bool
  is_dash true category = not (not (joined table key category == 0))
  is_dash false category = false

  -- the dashes are those that the form shows, one for each category
  dashes_by : (marks : Bool) (form : ReportForm) → form.marks ≡ marks →
      dashes_of form table key ≡ map (is_dash marks) (range_with_len 0 form.categories)
  unfolding is_dash
  dashes_by true form is =
      rw is (map-map not (λ category. not (joined table key category == 0)) (range_with_len 0 form.categories))
  dashes_by false form is =
      rw is
      (splat_is_map (range_with_len 0 form.categories) form.categories false (length-range_with_len 0 form.categories))

  -- what stands for a category
  one_shown : (marks : Bool) (category : ℕ) →
      answer (table_verdict table key category) (is_dash marks category)
      ≡ shown marks (answer_of_table table key category)
  unfolding is_dash
  one_shown true category =
      elim (eqb_tells (joined table key category) 0) [ inl same ↦ rw same.0 refl | inr other ↦ rw other.0 refl ]
  one_shown false category =
      elim (eqb_tells (joined table key category) 0) [
        | inl same ↦ rw same.0 (ap Some (ap (λ (n : ℕ). n % userdatas) same.1))
        | inr other ↦ rw other.0 refl
      ]

  -- what is written of the verdicts and the dashes is what the table answers
  table_shown : (form : ReportForm) →
      answers (key_verdicts table form.categories key) (dashes_of form table key)
      ≡ map (λ category. shown form.marks (answer_of_table table key category))
      (range_with_len 0 form.categories)
  table_shown form =
      let n = form.categories in
      let verdict : ℕ → ℕ = λ category. table_verdict table key category in
      ap (answers (key_verdicts table n key)) (dashes_by form.marks form refl)
      ∙ pair_up verdict (is_dash form.marks) (range_with_len 0 n)
      ∙ map_agree (λ category. answer (verdict category) (is_dash form.marks category))
      (λ category. shown form.marks (answer_of_table table key category)) (range_with_len 0 n)
      (one_shown form.marks)

-- what is shown of a packet by the tables
shown_is : (form : ReportForm) (class : Class) (key : List ℕ) → form.classifier ≡ ByTables form.tables →
    answers (verdicts_on class form key) (dashes_on class form key) ≡ answers_on class form key
shown_is form Ip4 key by_tables = rw by_tables (table_shown form.tables.ip4 key form)
shown_is form Ip6 key by_tables = rw by_tables (table_shown form.tables.ip6 key form)
shown_is form Other key by_tables = refl
shown_is form Short key by_tables = refl

-- what is written of a packet of this number is its line
pub line_by-is : (form : ReportForm) (number : ℕ) (packet : FrameClass) (class : Class) (verdicts : List ℕ)
    (dashes : List Bool) → class ≡ packet.class →
    verdicts ≡ verdicts_on packet.class form packet.key → dashes ≡ dashes_on packet.class form packet.key →
    form.classifier ≡ ByTables form.tables →
    packet_text number class (answers verdicts dashes) ≡ line_of_packet form number packet
line_by-is form number packet class verdicts dashes is_shown is_verdicts is_dashes by_tables =
    let all : answers verdicts dashes ≡ answers_on packet.class form packet.key =
    ap (answers verdicts) is_dashes
    ∙ ap (λ (v : List ℕ). answers v (dashes_on packet.class form packet.key)) is_verdicts
    ∙ shown_is form packet.class packet.key by_tables in
    ap (λ k. packet_text number k (answers verdicts dashes)) is_shown ∙ ap (packet_text number packet.class) all
