-- The rules are lawful, and there is room for all of them.
use Rattle.std.proofs.Common.{◌≡◌, Err, IfErr, sym, ap, ◌∙◌}
use Rattle.acl_context.specs.declared.add.AddFault.TheVariants.{OutOfMemory}
use Rattle.bench_command.proofs.Unrefused.{unrefused}
use Rattle.bench_command.proofs.table.built_context.Goals as goal

pub unreachable-requires : goal.unreachable-requires
unreachable-requires c =
    let only : IfErr c.add_stored.result (λ fault. fault ≡ OutOfMemory) =
    unrefused c.args.rules.now c.all.result.now c.ip4_layout.result 1024 c.create-context.result c.add_stored.new.self
    c.add_stored.result
    record {
      made = c.create-context.ensures;
      same = c.ip4_layout.ensures ∙ sym c.requires.layout;
      all = c.all.ensures.rules;
      lawful = c.all.ensures.lawful;
      few = c.requires.few;
    } c.add_stored.ensures in
    let is = rw (c.in-Err-Full.is ∙ ap Err c.in-Err-Full.field-0-is) at only in
    cc

pub unreachable-requires-in-Err-RuleRefused : goal.unreachable-requires-in-Err-RuleRefused
unreachable-requires-in-Err-RuleRefused c =
    let only : IfErr c.add_stored.result (λ fault. fault ≡ OutOfMemory) =
    unrefused c.args.rules.now c.all.result.now c.ip4_layout.result 1024 c.create-context.result c.add_stored.new.self
    c.add_stored.result
    record {
      made = c.create-context.ensures;
      same = c.ip4_layout.ensures ∙ sym c.requires.layout;
      all = c.all.ensures.rules;
      lawful = c.all.ensures.lawful;
      few = c.requires.few;
    } c.add_stored.ensures in
    let is = rw (c.in-Err-RuleRefused.is ∙ ap Err c.in-Err-RuleRefused.field-0-is) at only in
    cc
