use Rattle.std.proofs.Common.{refl}
use Rattle.table_image.specs.Loading.{pair_of_tables}
use Rattle.table_image.proofs.Written.{pair_written}
use Rattle.table_image.proofs.saving.save.Goals as goal

pub returns-clause-spelling : goal.returns-clause-spelling
returns-clause-spelling c =
    pair_written (pair_of_tables c.args.ip4.now c.args.ip6.now) c.in_ok-out.out.items c.put_short.new.out.items
    c.put_short-2.new.out.items c.put_table.new.out.items c.put_table-2.new.out.items c.in_ok-out.ensures.items
    c.in_ok-put_short.ensures c.in_ok-put_short-2.ensures c.in_ok-put_table.ensures.text
    c.in_ok-put_table-2.ensures.text

pub returns-clause-image : goal.returns-clause-image
returns-clause-image c = record {
  spelling = pair_written (pair_of_tables c.args.ip4.now c.args.ip6.now) c.in_ok-out.out.items c.put_short.new.out.items
      c.put_short-2.new.out.items c.put_table.new.out.items c.put_table-2.new.out.items c.in_ok-out.ensures.items
      c.in_ok-put_short.ensures c.in_ok-put_short-2.ensures c.in_ok-put_table.ensures.text
      c.in_ok-put_table-2.ensures.text;
  ip4 = record {
    sound = c.in_ok-put_table.ensures.sound;
    saved = c.requires.ip4;
    typed = c.in_ok-put_table.ensures.typed;
    groups = refl;
  };
  ip6 = record {
    sound = c.in_ok-put_table-2.ensures.sound;
    saved = c.requires.ip6;
    typed = c.in_ok-put_table-2.ensures.typed;
    groups = refl;
  };
}
