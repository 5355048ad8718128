use Rattle.std.proofs.Common.{◌+◌, ◌*◌, length, ap, sym, ◌∙◌, subst}
use Rattle.table_sizes.specs.Sizes.{row_len}
use Rattle.flat_table.specs.Sound.{sound_fault}
use Rattle.flat_table.specs.Table.{TableView}
use Rattle.table_fill.specs.Serves.{Serves}
use Rattle.table_fill.proofs.Given.{given_by, table_is, serves, sound, size_is}
use Rattle.table_fill.proofs.filling.fill.Goals as goal

pub from_sound-requires : goal.from_sound-requires
from_sound-requires c =
    let is = given_by c.in_ok-parts.ensures.can c.requires.few c.requires.levels c.requires.size in
    ap sound_fault c.in_ok-parts.ensures.parts ∙ sound is

pub returns : goal.returns
returns c =
    let is = given_by c.in_ok-parts.ensures.can c.requires.few c.requires.levels c.requires.size in
    let same = c.from_sound.ensures ∙ c.in_ok-parts.ensures.parts in
    record {
      table = same ∙ table_is is;
      serves = subst (Serves c.args.rules.now) (sym same) (serves is);
      words = ap (λ (table : TableView). length table.words + row_len * length table.rows) same ∙ size_is is;
    }
