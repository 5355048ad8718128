use Rattle.std.proofs.Common.{◌∙◌, sym, ap, append_assoc}
use Rattle.flat_table.specs.Sound.{begins_with_zeros}
use Rattle.table_image.specs.Spelling.{spelled_table, is_word, is_row}
use Rattle.std.specs.List.{list_all}
use Rattle.table_image.proofs.Written.{zeros_of}
use Rattle.table_image.proofs.saving.put_table.Goals as goal

pub put_later_rows-requires : goal.put_later_rows-requires
put_later_rows-requires c =
    ap begins_with_zeros c.rows.ensures ∙ zeros_of c.args.table.now c.tries.ensures.sound

pub returns-clause-text : goal.returns-clause-text
unfolding spelled_table
returns-clause-text c =
    rw (
      c.in_ok-put_later_rows.ensures.text,
      c.in_ok-put_words.ensures.text,
      c.in_ok-put_tries.ensures.text,
      c.in_ok-put_short-4.ensures,
      c.in_ok-put_short-3.ensures,
      c.in_ok-put_short-2.ensures,
      c.in_ok-put_short.ensures,
      c.rows.ensures,
      c.words.ensures,
      c.rows_after_first.ensures.value,
      c.tries.ensures.value,
      c.rules.ensures,
    ) (simp append_assoc)

pub returns-clause-typed : goal.returns-clause-typed
returns-clause-typed c = record {
  roots = c.in_ok-put_tries.ensures.typed;
  words = ap (list_all is_word) (sym c.words.ensures) ∙ c.in_ok-put_words.ensures.typed;
  rows = ap (list_all is_row) (sym c.rows.ensures) ∙ c.in_ok-put_later_rows.ensures.typed;
}

pub returns-clause-sound : goal.returns-clause-sound
returns-clause-sound c = c.in_ok-put_tries.ensures.sound
