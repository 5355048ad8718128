use Rattle.std.proofs.Common.{[], ◌∷◌}
use Rattle.std.proofs.lemmas.List.Elements.{All-from_recursion}
use Rattle.field_defs.specs.declared.field.Family.TheVariants as family
use Rattle.printed_lists.specs.Listed.{Comment, Rule, IsPrintableLine}
use Rattle.tests_of_files.proofs.rule_files.put_both.Goals as goal

pub put_list-requires : goal.put_list-requires
put_list-requires c =
    All-from_recursion (IsPrintableLine family.Ip4) (Comment c.args.comment.now ∷ Rule c.args.rule.now ∷ [])
    (tt, (c.requires, tt))
